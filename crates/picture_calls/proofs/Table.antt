-- Worked cases: what the exported calls on shapes and pictures return, and what they leave in what they were lent. The numbers
-- are those of docs/REFERENCE.md, or worked out by hand from its formulas as the comments tell. (`worked_cases` and `smoothing` have
-- those of a run.) Definitions for `Cases`.
use mathlib.Core.Bool.{true, false}
use mathlib.Core.List.{List, [], ◌∷◌}
use Prim.Native.Nat.{ℕ}
use lib.IntN.{ℤ, pos, negsuc, neg_ℤ}
use lib.Ieee.{Float, nan, fin}
use Rattle.covariance.specs.declared.Direction.{Direction}
use Rattle.covariance.specs.declared.Shape.{Shape}
use Rattle.covariance.specs.declared.Shape.TheVariants.{Matrix, Round, Oval}
use Rattle.differences.specs.declared.Difference.{Difference}
use Rattle.differences.specs.declared.Difference.TheVariants.{FirstX, FirstY}

-- a call, with what is lent to it before
pub data Call : Type 0 where
  covariance : Shape → List ℤ → Call
  kernel : ℕ → Shape → ℕ → List ℕ → Call
  shown : ℕ → ℕ → Call
  difference : Difference → ℕ → ℕ → List ℕ → List ℤ → Call
  directional : Direction → ℕ → ℕ → List ℕ → List Float → Call
  pixel : ℕ → ℕ → List ℕ → ℤ → ℤ → ℕ → Call

-- the numbers that name a choice
abbrev pub by_rule : ℕ
by_rule = 0

abbrev pub smallest : ℕ
smallest = 1

-- what was lent, after the call: entries, words, floats, or a number
pub data Lent : Type 0 where
  entries : List ℤ → Lent
  words : List ℕ → Lent
  floats : List Float → Lent
  number : ℕ → Lent

-- a call, the code that it returns (0, or a refusal's number), and what was lent after it
pub record Row : Type 0 where
  pub call : Call
  pub code : ℕ
  pub after : Lent

abbrev pub row : Call → ℕ → Lent → Row
row call code after = record { call = call; code = code; after = after }

abbrev pub minus : ℕ → ℤ
minus n = neg_ℤ (pos n)

abbrev pub towards : Float → Float → Direction
towards c s = record { cosine = c; sine = s }

abbrev pub zero : Float
zero = fin false 0 (pos 0)

abbrev pub one : Float
one = fin false 1 (pos 0)

abbrev pub two : Float
two = fin false 1 (pos 1)

-- c = 5/8 and s = 25/32, whose squares' sum is 1025/1024
abbrev pub slanted : Direction
slanted = towards (fin false 5 (negsuc 2)) (fin false 25 (negsuc 4))

abbrev pub three : List ℤ
three = pos 7 ∷ pos 8 ∷ pos 9 ∷ []

abbrev pub four : List ℤ
four = pos 6 ∷ three

abbrev pub ten : List ℕ
ten = 1 ∷ 2 ∷ 3 ∷ 4 ∷ 5 ∷ 6 ∷ 7 ∷ 8 ∷ 9 ∷ 10 ∷ []

abbrev pub nine : List ℕ
nine = 1 ∷ 2 ∷ 3 ∷ 4 ∷ 5 ∷ 6 ∷ 7 ∷ 8 ∷ 9 ∷ []

-- three columns and two rows
abbrev pub six : List ℕ
six = 1 ∷ 5 ∷ 2 ∷ 20 ∷ 9 ∷ 40 ∷ []

abbrev pub table : List Row
table =
    -- the covariance, as xx, xy, yy
    row (covariance (Matrix (pos 5) (minus 7) (pos 11)) three) 0 (entries (pos 5 ∷ minus 7 ∷ pos 11 ∷ []))
    -- 1/2 × 4096
    ∷ row (covariance (Round (fin false 1 (negsuc 0))) three) 0 (entries (pos 2048 ∷ pos 0 ∷ pos 2048 ∷ []))
    -- long 2, short 1: xx = 2 × 400/1024 + 625/1024, xy = (2 − 1) × 500/1024, yy = 2 × 625/1024 + 400/1024, each × 4096
    ∷ row (covariance (Oval two one slanted) three) 0 (entries (pos 5700 ∷ pos 2000 ∷ pos 6600 ∷ []))
    -- 3 before 4, 4 before 9, then 9
    ∷ row (covariance (Oval nan one (towards two two)) []) 3 (entries [])
    ∷ row (covariance (Oval one one (towards two two)) four) 4 (entries four)
    ∷ row (covariance (Oval one one (towards one one)) three) 4 (entries three)
    ∷ row (covariance (Round (fin true 1 (pos 0))) three) 3 (entries three)
    ∷ row (covariance (Oval one one slanted) four) 9 (entries four)
    ∷ row (covariance (Round one) (pos 8 ∷ pos 9 ∷ [])) 9 (entries (pos 8 ∷ pos 9 ∷ []))
    -- the kernel by the smallest free number: its sum 4 × M, and then the weights by row and then by column. k 1: M = 4096, f = 3000 + 2500 − 4096 = 1404,
    -- f + xy = 2104, f − xy = 704, 2 × (xx − f) = 3192, 2 × (yy − f) = 2192, the centre 0
    ∷ row (kernel smallest (Matrix (pos 3000) (pos 700) (pos 2500)) 1 ten) 0
    (words (16384 ∷ 2104 ∷ 2192 ∷ 704 ∷ 3192 ∷ 0 ∷ 3192 ∷ 704 ∷ 2192 ∷ 2104 ∷ []))
    -- k 2: M = 8192, f = |xy| = 1000, f + xy = 0, f − xy = 2000, 4000, 3000, the centre 4 × (8192 − 5500 + 1000)
    ∷ row (kernel smallest (Matrix (pos 3000) (minus 1000) (pos 2500)) 2 ten) 0
    (words (32768 ∷ 0 ∷ 3000 ∷ 2000 ∷ 4000 ∷ 14768 ∷ 4000 ∷ 2000 ∷ 3000 ∷ 0 ∷ []))
    -- case e
    ∷ row (kernel smallest (Matrix (pos 4097) (pos 0) (pos 4096)) 2 ten) 0
    (words (32768 ∷ 1 ∷ 8190 ∷ 1 ∷ 8192 ∷ 0 ∷ 8192 ∷ 1 ∷ 8190 ∷ 1 ∷ []))
    -- the oval above, k 3: M = 12288, f = |2000|, so 4000, 0, 2 × 3700, 2 × 4600 and 4 × (12288 − 12300 + 2000)
    ∷ row (kernel smallest (Oval two one slanted) 3 ten) 0
    (words (49152 ∷ 4000 ∷ 9200 ∷ 0 ∷ 7400 ∷ 7952 ∷ 7400 ∷ 0 ∷ 9200 ∷ 4000 ∷ []))
    -- by the rule of S2.1: of the first, f = half of 3000 + 2500 + 3000 − 4096 = 2202, f + xy = 2902, f − xy = 1502, 1596, 596 and
    -- 4 × (4096 − 5500 + 2202); and case e. Every number but 1 names this rule.
    ∷ row (kernel by_rule (Matrix (pos 3000) (pos 700) (pos 2500)) 1 ten) 0
    (words (16384 ∷ 2902 ∷ 596 ∷ 1502 ∷ 1596 ∷ 3192 ∷ 1596 ∷ 1502 ∷ 596 ∷ 2902 ∷ []))
    ∷ row (kernel 4294967295 (Matrix (pos 4097) (pos 0) (pos 4096)) 2 ten) 0
    (words (32768 ∷ 2049 ∷ 4094 ∷ 2049 ∷ 4096 ∷ 8192 ∷ 4096 ∷ 2049 ∷ 4094 ∷ 2049 ∷ []))
    -- 3 before 4, 4 before 5, 5 before 9, 9 before 11 (case d), then 11, by either
    ∷ row (kernel by_rule (Oval nan one (towards two two)) 0 nine) 3 (words nine)
    ∷ row (kernel smallest (Oval one one (towards two two)) 0 nine) 4 (words nine)
    ∷ row (kernel by_rule (Matrix (pos 4097) (pos 0) (pos 4096)) 0 nine) 5 (words nine)
    ∷ row (kernel smallest (Matrix (pos 4097) (pos 0) (pos 4096)) 65 ten) 5 (words ten)
    ∷ row (kernel by_rule (Matrix (pos 4097) (pos 0) (pos 4096)) 1 nine) 9 (words nine)
    ∷ row (kernel smallest (Matrix (pos 4097) (pos 0) (pos 4096)) 2 (0 ∷ ten)) 9 (words (0 ∷ ten))
    ∷ row (kernel smallest (Matrix (pos 4097) (pos 0) (pos 4096)) 1 ten) 11 (words ten)
    ∷ row (kernel by_rule (Matrix (pos 4097) (pos 0) (pos 4096)) 1 ten) 11 (words ten)
    -- L(x+1) − L(x−1): 5 − 1, 2 − 1, 2 − 5; 9 − 20, 40 − 20, 40 − 9
    ∷ row (difference FirstX 3 2 six (pos 0 ∷ pos 0 ∷ four)) 0 (entries (pos 4 ∷ pos 1 ∷ minus 3 ∷ minus 11 ∷ pos 20 ∷ pos 31 ∷ []))
    -- L(y+1) − L(y−1): 20 − 1, 9 − 5, 40 − 2, in both rows
    ∷ row (difference FirstY 3 2 six (pos 0 ∷ pos 0 ∷ four)) 0 (entries (pos 19 ∷ pos 4 ∷ pos 38 ∷ pos 19 ∷ pos 4 ∷ pos 38 ∷ []))
    -- 6 before 9, of the width and of the height; then 9, of the picture and of the result
    ∷ row (difference FirstX 0 2 six four) 6 (entries four)
    ∷ row (difference FirstX 2 1025 six four) 6 (entries four)
    ∷ row (difference FirstX 2 2 six four) 9 (entries four)
    ∷ row (difference FirstX 3 2 six four) 9 (entries four)
    -- (5/8) × dx + (25/32) × dy of these dx and dy: 80 + 475, 20 + 100, −60 + 950; −220 + 475, 400 + 100, 620 + 950, each over 32
    ∷ row (directional slanted 3 2 six (zero ∷ one ∷ two ∷ zero ∷ one ∷ two ∷ [])) 0
    (floats
    (fin false 555 (negsuc 4) ∷ fin false 15 (negsuc 1) ∷ fin false 445 (negsuc 3)
    ∷ fin false 255 (negsuc 4) ∷ fin false 125 (negsuc 2) ∷ fin false 785 (negsuc 3)
    ∷ []))
    -- 4 before 6, 6 before 9, then 9, of the picture and of the result
    ∷ row (directional (towards two zero) 0 2 six (one ∷ two ∷ [])) 4 (floats (one ∷ two ∷ []))
    ∷ row (directional slanted 0 2 six (one ∷ two ∷ [])) 6 (floats (one ∷ two ∷ []))
    ∷ row (directional slanted 2 1025 six (one ∷ two ∷ [])) 6 (floats (one ∷ two ∷ []))
    ∷ row (directional slanted 2 1 six (one ∷ two ∷ [])) 9 (floats (one ∷ two ∷ []))
    ∷ row (directional slanted 3 2 six (one ∷ two ∷ [])) 9 (floats (one ∷ two ∷ []))
    -- a pixel at a column and a row, the nearest one outside; 6 before 9
    ∷ row (pixel 3 2 six (pos 2) (pos 1) 77) 0 (number 40)
    ∷ row (pixel 3 2 six (minus 1) (pos 2) 77) 0 (number 20)
    ∷ row (pixel 3 2 six (pos 9) (minus 9) 77) 0 (number 2)
    ∷ row (pixel 3 0 six (pos 0) (pos 0) 77) 6 (number 77)
    ∷ row (pixel 2 2 six (pos 0) (pos 0) 77) 9 (number 77)
    ∷ []

-- which picture is shown after so many steps: the second where their number is odd, the first where it is even; 5 outside 1 to 64
abbrev pub shown_table : List Row
shown_table =
    row (shown 0 77) 5 (number 77)
    ∷ row (shown 1 77) 0 (number 1)
    ∷ row (shown 2 77) 0 (number 0)
    ∷ row (shown 3 77) 0 (number 1)
    ∷ row (shown 63 77) 0 (number 1)
    ∷ row (shown 64 77) 0 (number 0)
    ∷ row (shown 65 77) 5 (number 77)
    ∷ row (shown 66 77) 5 (number 77)
    ∷ row (shown 4294967295 77) 5 (number 77)
    ∷ []
