-- Worked cases: readings at every corner, outside on each side, at the ends of 32-bit numbers, of one pixel, and refused ones.
-- Definitions for `Cases`.
use mathlib.Core.List.{List, [], ◌∷◌}
use Prim.Native.Nat.{ℕ}
use lib.IntN.{ℤ, pos, negsuc}
use Rattle.limits.specs.declared.ErrorCode.{ErrorCode}
use Rattle.limits.specs.declared.ErrorCode.TheVariants.{SideOutOfRange, WrongLength}
use Rattle.std.specs.Prelude.{Ok, Err}
use Rattle.image.specs.Reading.{Reading, reading_of, reading_number, reading_values}

-- w, h, the pixels, a column and a row; then the answer, REFERENCE's number of it (0 where a pixel was read) and its values
pub record Case : Type 0 where
  pub width : ℕ
  pub height : ℕ
  pub pixels : List ℕ
  pub column : ℤ
  pub row : ℤ
  pub answer : Reading
  pub number : ℕ
  pub values : List ℕ

abbrev pub case : ℕ → ℕ → List ℕ → ℤ → ℤ → Reading → ℕ → List ℕ → Case
case width height pixels column row answer number values =
    record {
      width = width;
      height = height;
      pixels = pixels;
      column = column;
      row = row;
      answer = answer;
      number = number;
      values = values;
    }

-- three columns and two rows
abbrev pub six : ℤ → ℤ → ℕ → Case
six column row pixel = case 3 2 (11 ∷ 12 ∷ 13 ∷ 21 ∷ 22 ∷ 23 ∷ []) column row (Ok pixel) 0 (pixel ∷ [])

abbrev pub one : ℤ → ℤ → ℕ → Case
one column row pixel = case 1 1 (65535 ∷ []) column row (Ok pixel) 0 (pixel ∷ [])

abbrev pub refused : ℕ → ℕ → List ℕ → ErrorCode → ℕ → Case
refused width height pixels code number = case width height pixels (pos 0) (pos 0) (Err code) number []

abbrev pub largest : ℤ
largest = pos 2147483647

abbrev pub smallest : ℤ
smallest = negsuc 2147483647

-- `negsuc n` is −(n + 1)
abbrev pub table : List Case
table =
    six (pos 0) (pos 0) 11
    ∷ six (pos 1) (pos 0) 12
    ∷ six (pos 2) (pos 0) 13
    ∷ six (pos 0) (pos 1) 21
    ∷ six (pos 2) (pos 1) 23
    -- one step outside: left, right, above, below, and the four corners
    ∷ six (negsuc 0) (pos 1) 21
    ∷ six (pos 3) (pos 0) 13
    ∷ six (pos 1) (negsuc 0) 12
    ∷ six (pos 1) (pos 2) 22
    ∷ six (negsuc 0) (negsuc 0) 11
    ∷ six (pos 3) (negsuc 0) 13
    ∷ six (negsuc 0) (pos 2) 21
    ∷ six (pos 3) (pos 2) 23
    -- the ends of signed 32-bit numbers, each axis by itself
    ∷ six smallest (pos 1) 21
    ∷ six largest (pos 1) 23
    ∷ six (pos 1) smallest 12
    ∷ six (pos 1) largest 22
    ∷ six smallest largest 21
    ∷ six largest smallest 13
    -- a picture of one pixel
    ∷ one (pos 0) (pos 0) 65535
    ∷ one smallest largest 65535
    ∷ one largest smallest 65535
    -- refusal 6 before 9; a slice that is too short, too long or empty
    ∷ refused 0 2 [] SideOutOfRange 6
    ∷ refused 3 0 (1 ∷ []) SideOutOfRange 6
    ∷ refused 1025 1 [] SideOutOfRange 6
    ∷ refused 1 4294967295 [] SideOutOfRange 6
    ∷ refused 3 2 (11 ∷ 12 ∷ 13 ∷ 21 ∷ 22 ∷ []) WrongLength 9
    ∷ refused 2 1 (11 ∷ 12 ∷ 13 ∷ []) WrongLength 9
    ∷ refused 1 1 [] WrongLength 9
    ∷ []

-- the row with what the definitions give for its input
abbrev pub reading_for : Case → Reading
reading_for c = reading_of c.width c.height c.pixels c.column c.row

abbrev pub computed : Case → Case
computed c =
    record {
      width = c.width;
      height = c.height;
      pixels = c.pixels;
      column = c.column;
      row = c.row;
      answer = reading_for c;
      number = reading_number (reading_for c);
      values = reading_values (reading_for c);
    }
