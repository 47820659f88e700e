-- Worked cases: the five undivided differences at every place of a picture without symmetry, the directional one in directions
-- that are no axis and along each axis, and refused calls. The numbers are worked out by hand from REFERENCE's formulas, as
-- the comments tell. Definitions for `Cases`.
use mathlib.Core.Bool.{true, false}
use mathlib.Core.List.{List, [], ◌∷◌, map}
use Prim.Native.Nat.{ℕ, zero, suc}
use lib.IntN.{ℤ, pos, negsuc, neg_ℤ}
use lib.ListN.{replicate}
use lib.Ieee.{Float, nan, fin, binary64, of_int, of_bits}
use Rattle.covariance.specs.declared.Direction.{Direction}
use Rattle.differences.specs.declared.Difference.{Difference}
use Rattle.differences.specs.declared.Difference.TheVariants.{FirstX, FirstY, SecondX, SecondY, Mixed}

-- a call: which difference, or in which direction; w, h and the lent picture; the lent result before the call. Then the refusal's
-- number (0: accepted) and the result after the call.
pub record Case (Which Entry : Type 0) : Type 0 where
  pub which : Which
  pub width : ℕ
  pub height : ℕ
  pub pixels : List ℕ
  pub before : List Entry
  pub number : ℕ
  pub after : List Entry

abbrev pub case : {Which Entry : Type 0} → ℕ → ℕ → List ℕ → Which → List Entry → ℕ → List Entry → Case Which Entry
case w h pixels which before number after =
    record {
      which = which;
      width = w;
      height = h;
      pixels = pixels;
      before = before;
      number = number;
      after = after;
    }

-- a refused call: the result keeps its contents
abbrev pub refused : {Which Entry : Type 0} → ℕ → ℕ → List ℕ → Which → List Entry → ℕ → Case Which Entry
refused w h pixels which before number = case w h pixels which before number before

abbrev pub minus : ℕ → ℤ
minus n = neg_ℤ (pos n)

-- the picture of four columns and three rows that most cases are about
abbrev pub twelve : List ℕ
twelve =
    3 ∷ 10 ∷ 1 ∷ 26
    ∷ 40 ∷ 7 ∷ 18 ∷ 2
    ∷ 5 ∷ 60 ∷ 12 ∷ 31
    ∷ []

abbrev pub of_twelve : {Which Entry : Type 0} → Which → Entry → List Entry → Case Which Entry
of_twelve which old after = case 4 3 twelve which (replicate 12 old) 0 after

-- ---- the undivided differences
abbrev pub undivided : List (Case Difference ℤ)
undivided =
    -- L(x+1) − L(x−1): 10 − 3, 1 − 3, 26 − 10, 26 − 1; 7 − 40, 18 − 40, 2 − 7, 2 − 18; 60 − 5, 12 − 5, 31 − 60, 31 − 12
    of_twelve FirstX (pos 9)
    (pos 7 ∷ minus 2 ∷ pos 16 ∷ pos 25
    ∷ minus 33 ∷ minus 22 ∷ minus 5 ∷ minus 16
    ∷ pos 55 ∷ pos 7 ∷ minus 29 ∷ pos 19
    ∷ [])
    -- L(y+1) − L(y−1): 40 − 3, 7 − 10, 18 − 1, 2 − 26; 5 − 3, 60 − 10, 12 − 1, 31 − 26; 5 − 40, 60 − 7, 12 − 18, 31 − 2
    ∷ of_twelve FirstY (pos 9)
    (pos 37 ∷ minus 3 ∷ pos 17 ∷ minus 24
    ∷ pos 2 ∷ pos 50 ∷ pos 11 ∷ pos 5
    ∷ minus 35 ∷ pos 53 ∷ minus 6 ∷ pos 29
    ∷ [])
    -- L(x+1) − 2L + L(x−1): 10 − 6 + 3, 1 − 20 + 3, 26 − 2 + 10, 26 − 52 + 1; 7 − 80 + 40, 18 − 14 + 40, 2 − 36 + 7,
    -- 2 − 4 + 18; 60 − 10 + 5, 12 − 120 + 5, 31 − 24 + 60, 31 − 62 + 12
    ∷ of_twelve SecondX (pos 9)
    (pos 7 ∷ minus 16 ∷ pos 34 ∷ minus 25
    ∷ minus 33 ∷ pos 44 ∷ minus 27 ∷ pos 16
    ∷ pos 55 ∷ minus 103 ∷ pos 67 ∷ minus 19
    ∷ [])
    -- L(y+1) − 2L + L(y−1): 40 − 6 + 3, 7 − 20 + 10, 18 − 2 + 1, 2 − 52 + 26; 5 − 80 + 3, 60 − 14 + 10, 12 − 36 + 1,
    -- 31 − 4 + 26; 5 − 10 + 40, 60 − 120 + 7, 12 − 24 + 18, 31 − 62 + 2
    ∷ of_twelve SecondY (pos 9)
    (pos 37 ∷ minus 3 ∷ pos 17 ∷ minus 24
    ∷ minus 72 ∷ pos 56 ∷ minus 23 ∷ pos 53
    ∷ pos 35 ∷ minus 53 ∷ pos 6 ∷ minus 29
    ∷ [])
    -- L(+,+) − L(−,+) − L(+,−) + L(−,−): 7 − 40 − 10 + 3, 18 − 40 − 1 + 3, 2 − 7 − 26 + 10, 2 − 18 − 26 + 1; 60 − 5 − 10 + 3,
    -- 12 − 5 − 1 + 3, 31 − 60 − 26 + 10, 31 − 12 − 26 + 1; 60 − 5 − 7 + 40, 12 − 5 − 18 + 40, 31 − 60 − 2 + 7, 31 − 12 − 2 + 18
    ∷ of_twelve Mixed (pos 9)
    (minus 40 ∷ minus 20 ∷ minus 21 ∷ minus 41
    ∷ pos 48 ∷ pos 9 ∷ minus 45 ∷ minus 6
    ∷ pos 88 ∷ pos 29 ∷ minus 24 ∷ pos 35
    ∷ [])
    -- the ends of what pixels can give: 0 − 2 × 65535 + 0
    ∷ case 3 1 (0 ∷ 65535 ∷ 0 ∷ []) SecondX (pos 0 ∷ pos 0 ∷ pos 0 ∷ []) 0 (pos 65535 ∷ minus 131070 ∷ pos 65535 ∷ [])
    -- refusal 6, of the width and of the height, before 9; then 9, of the picture and of the result
    ∷ refused 0 2 (1 ∷ []) FirstX (pos 4 ∷ []) 6
    ∷ refused 2 0 (1 ∷ []) FirstY (pos 4 ∷ []) 6
    ∷ refused 1025 1 (1 ∷ []) SecondX (pos 4 ∷ []) 6
    ∷ refused 1 1025 (1 ∷ []) SecondY (pos 4 ∷ []) 6
    ∷ refused 2 1 (1 ∷ []) Mixed (pos 4 ∷ pos 5 ∷ []) 9
    ∷ refused 2 1 (1 ∷ 2 ∷ 3 ∷ []) FirstX (pos 4 ∷ pos 5 ∷ []) 9
    ∷ refused 2 1 (1 ∷ 2 ∷ []) FirstX (pos 4 ∷ []) 9
    ∷ refused 2 1 (1 ∷ 2 ∷ []) FirstX (pos 4 ∷ pos 5 ∷ pos 6 ∷ []) 9
    ∷ []

-- ---- "within k, 2k and 2k units": so many for each step
abbrev pub units : List (Difference × ℕ)
units = (FirstX, 1) ∷ (FirstY, 1) ∷ (SecondX, 2) ∷ (SecondY, 2) ∷ (Mixed, 2) ∷ []

-- ---- the directional difference
abbrev pub towards : Float → Float → Direction
towards c s = record { cosine = c; sine = s }

-- m / 2 ^ n with a sign, m being odd
abbrev pub halvings : ℕ → ℤ
halvings zero = pos 0
halvings (suc n) = negsuc n

abbrev pub above : ℕ → ℕ → Float
above m n = fin false m (halvings n)

abbrev pub below : ℕ → ℕ → Float
below m n = fin true m (halvings n)

-- the floats of whole numbers
abbrev pub exactly : List ℤ → List Float
exactly = map (of_int binary64)

abbrev pub none : Float
none = fin false 0 (pos 0)

abbrev pub minus_none : Float
minus_none = fin true 0 (pos 0)

-- the floats nearest to 0.6 and 0.8
abbrev pub tenths : Direction
tenths = towards (of_bits binary64 0x3fe3_3333_3333_3333) (of_bits binary64 0x3fe9_9999_9999_999a)

abbrev pub directed : List (Case Direction Float)
directed =
    -- c = 5/8 and s = −25/32, whose squares' sum is 1025/1024: (20 × dx − 25 × dy) / 32 of the first differences dx and dy above,
    -- so 140 − 925, −40 + 75, 320 − 425, 500 + 600; −660 − 50, −440 − 1250, −100 − 275, −320 − 125; 1100 + 875, 140 − 1325,
    -- −580 + 150, 380 − 725 over 32
    of_twelve (towards (above 5 3) (below 25 5)) nan
    (below 785 5 ∷ above 35 5 ∷ below 105 5 ∷ above 275 3
    ∷ below 355 4 ∷ below 845 4 ∷ below 375 5 ∷ below 445 5
    ∷ above 1975 5 ∷ below 1185 5 ∷ below 215 4 ∷ below 345 5
    ∷ [])
    -- "each operation rounded once": c = 0.6 and s = 0.8, dx = 3 and dy = 1 everywhere. With c = 5404319552844595 / 2 ^ 53 and
    -- s = 7205759403792794 / 2 ^ 53 the product 3 × c has 54 binary digits and is half way: it goes to the even
    -- 16212958658533784 / 2 ^ 53. The sum 23418718062326578 / 2 ^ 53 has 55 and is half way again: it goes to
    -- 23418718062326576 / 2 ^ 53 = 1463669878895411 / 2 ^ 49, 2.5999999999999996. Rounded only in the end it would be 2.6.
    ∷ case 2 2 (0 ∷ 3 ∷ 1 ∷ 4 ∷ []) tenths (replicate 4 none) 0 (replicate 4 (above 1463669878895411 49))
    -- along the axes, with a zero of either sign: dx, −dx, dy and −dy exactly
    ∷ of_twelve (towards (above 1 0) minus_none) nan
    (exactly
    (pos 7 ∷ minus 2 ∷ pos 16 ∷ pos 25
    ∷ minus 33 ∷ minus 22 ∷ minus 5 ∷ minus 16
    ∷ pos 55 ∷ pos 7 ∷ minus 29 ∷ pos 19
    ∷ []))
    ∷ of_twelve (towards (below 1 0) none) nan
    (exactly
    (minus 7 ∷ pos 2 ∷ minus 16 ∷ minus 25
    ∷ pos 33 ∷ pos 22 ∷ pos 5 ∷ pos 16
    ∷ minus 55 ∷ minus 7 ∷ pos 29 ∷ minus 19
    ∷ []))
    ∷ of_twelve (towards minus_none (above 1 0)) nan
    (exactly
    (pos 37 ∷ minus 3 ∷ pos 17 ∷ minus 24
    ∷ pos 2 ∷ pos 50 ∷ pos 11 ∷ pos 5
    ∷ minus 35 ∷ pos 53 ∷ minus 6 ∷ pos 29
    ∷ []))
    ∷ of_twelve (towards none (below 1 0)) nan
    (exactly
    (minus 37 ∷ pos 3 ∷ minus 17 ∷ pos 24
    ∷ minus 2 ∷ minus 50 ∷ minus 11 ∷ minus 5
    ∷ pos 35 ∷ minus 53 ∷ pos 6 ∷ minus 29
    ∷ []))
    -- refusal 4 before 6, 6 before 9, then 9, of the picture and of the result
    ∷ refused 0 2 (1 ∷ []) (towards nan none) (none ∷ []) 4
    ∷ refused 2 0 (1 ∷ []) (towards (above 1 0) (above 1 0)) (none ∷ []) 4
    ∷ refused 0 2 (1 ∷ []) (towards none (above 1 0)) (none ∷ []) 6
    ∷ refused 1 1025 (1 ∷ []) (towards none (above 1 0)) (none ∷ []) 6
    ∷ refused 2 1 (1 ∷ []) (towards none (above 1 0)) (none ∷ nan ∷ []) 9
    ∷ refused 2 1 (1 ∷ 2 ∷ []) (towards none (above 1 0)) (none ∷ []) 9
    ∷ refused 2 1 (1 ∷ 2 ∷ []) (towards none (above 1 0)) (none ∷ nan ∷ none ∷ []) 9
    ∷ []
