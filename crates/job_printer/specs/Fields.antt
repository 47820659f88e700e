-- Fields and lines: "Fields are parted by one tab, lines end with a newline". Definitions only.
use Rattle.std.specs.Prelude.{ℕ, zero, suc, List, [], ◌∷◌, ◌++◌, map, length, take, drop}
use Rattle.job_printer.specs.Numerals.{numeral}

abbrev pub tab : ℕ
tab = 9

abbrev pub newline : ℕ
newline = 10

-- what stands after a field that so many fields follow on its line
abbrev pub separator : ℕ → ℕ
separator zero = newline
separator (suc more) = tab

-- the line of these fields; no field, no line
unfoldable pub line : List (List ℕ) → List ℕ
line [] = []
line (field ∷ fields) = field ++ separator (length fields) ∷ line fields

-- "h lines of w pixels"; where w or h is 0 there is no line
unfoldable pub row_lines : ℕ → ℕ → List ℕ → List ℕ
row_lines w zero pixels = []
row_lines w (suc h) pixels = line (map numeral (take w pixels)) ++ row_lines w h (drop w pixels)
