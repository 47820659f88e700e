-- Worked cases: values of floats, halves of both signs, what is half a unit away, the axes, the ends of the ranges, and the order of
-- the refusals. Each table has one computed proof. Assumes nothing.
use Rattle.std.proofs.Common.{◌≡◌, ℕ, Bool, true, false, List, [], ◌∷◌, map, ℤ, pos, negsuc, refl, lit≤, le→leb}
use lib.Ieee.{Float, nan, inf, fin, binary64, of_bits, add, sub, mul, le, eq}
use lib.Ieee.Scale.{finite}
use Rattle.limits.specs.Errors.{first_refusal, outcome_number}
use Rattle.limits.specs.declared.ErrorCode.{ErrorCode}
use Rattle.limits.specs.declared.ErrorCode.TheVariants.{VarianceOutOfRange, NotADirection}
use Rattle.kernel.specs.Existence.{kernel_exists}
use Rattle.covariance.specs.declared.Direction.{Direction}
use Rattle.covariance.specs.declared.Shape.{Shape}
use Rattle.covariance.specs.declared.Shape.TheVariants.{Matrix, Round, Oval}
use Rattle.kernel.specs.declared.Covariance.{Covariance}
use Rattle.std.specs.Prelude.{Result, Ok, Err}
use Rattle.limits.specs.declared.ErrorCode.{ErrorCode}
use Rattle.covariance.specs.Floats.{in_range, numerator, denominator}
use Rattle.covariance.specs.Units.{nearest_units, WithinHalfUnit}
use Rattle.covariance.specs.Cuts.{whole_below, whole_above}
use Rattle.covariance.specs.Axes.{is_zero, is_unit, along_x, along_y}
use Rattle.covariance.specs.Shapes.{variance_in_range, cosine_in_range, square_in_range, direction_in_range, variances_fine, direction_fine, covariance_xx, covariance_xy, covariance_yy}
use Rattle.covariance.specs.Answer.{covariance_number, covariance_values, covariance_answer, shape_kernel_checks}

-- ---- a float, its exact value as a fraction, and the whole numbers at its size or next below and next above. What is no number or
-- infinite counts as 0; no call ever answers with it, since refusals 3 and 4 come first.
pub record Valued : Type 0 where
  pub float : Float
  pub over : ℤ
  pub under : ℕ
  pub below : ℕ
  pub above : ℕ

abbrev pub valued : Float → ℤ → ℕ → ℕ → ℕ → Valued
valued x n d below above = record { float = x; over = n; under = d; below = below; above = above }

abbrev pub values : List Valued
values =
    valued (fin false 5 (negsuc 0)) (pos 5) 2 2 3
    ∷ valued (fin true 5 (negsuc 0)) (negsuc 4) 2 2 3
    ∷ valued (fin false 3 (pos 1)) (pos 6) 1 6 6
    ∷ valued (fin true 3 (pos 1)) (negsuc 5) 1 6 6
    ∷ valued (fin true 0 (pos 0)) (pos 0) 1 0 0
    ∷ valued nan (pos 0) 1 0 0
    ∷ valued (inf false) (pos 0) 1 0 0
    ∷ valued (inf true) (pos 0) 1 0 0
    ∷ []

pub evaluated : map (λ row. valued row.float (numerator row.float) (denominator row.float) (whole_below row.float) (whole_above row.float)) values ≡ values
evaluated = refl

-- ---- a float, and 4096 times it to the nearest whole number; half a unit is 1 × 2 ^ −13
abbrev pub roundings : List (Float × ℤ)
roundings =
    (fin true 0 (pos 0), pos 0)
    ∷ (fin false 1 (negsuc 12), pos 1)
    ∷ (fin true 1 (negsuc 12), pos 0)
    ∷ (fin false 3 (negsuc 12), pos 2)
    ∷ (fin true 3 (negsuc 12), negsuc 0)
    -- next to a half: 0.49999999999999994 units, and as little past −0.5
    ∷ (of_bits binary64 0x3f1f_ffff_ffff_ffff, pos 0)
    ∷ (of_bits binary64 0xbf20_0000_0000_0001, negsuc 0)
    -- the smallest floats
    ∷ (fin false 1 (negsuc 1073), pos 0)
    ∷ (fin true 1 (negsuc 1073), pos 0)
    ∷ (fin false 1 (pos 6), pos 262144)
    ∷ []

pub rounded : map (λ row. nearest_units row.0) roundings ≡ map (λ row. row.1) roundings
unfolding nearest_units of_bits
rounded = refl

-- ---- half a unit is within half a unit of 0 and of 1, three quarters of one are not within it of 0 nor a quarter of 1, a
-- negative half is within it of 0 and of −1 and not of 1, and what is no number or infinite is within it of nothing
pub half_away : WithinHalfUnit (pos 0) (fin false 1 (negsuc 12)) × WithinHalfUnit (pos 1) (fin false 1 (negsuc 12))
    × WithinHalfUnit (pos 0) (fin true 1 (negsuc 12)) × WithinHalfUnit (negsuc 0) (fin true 1 (negsuc 12))
unfolding WithinHalfUnit finite
half_away = ((tt, lit≤ tt), (tt, lit≤ tt), (tt, lit≤ tt), (tt, lit≤ tt))

-- `le→leb` turns a false inequality of two numerals into nothing
pub further_away : ¬ WithinHalfUnit (pos 0) (fin false 3 (negsuc 13)) × ¬ WithinHalfUnit (pos 1) (fin false 1 (negsuc 13))
    × ¬ WithinHalfUnit (pos 1) (fin true 1 (negsuc 12)) × ((u : ℤ) → ¬ WithinHalfUnit u nan) × ((u : ℤ) (s : Bool) → ¬ WithinHalfUnit u (inf s))
unfolding WithinHalfUnit finite
further_away = (
  λ h. le→leb 24576 16384 h.1,
  λ h. le→leb 24576 16384 h.1,
  λ h. le→leb 24576 8192 h.1,
  λ u h. h.0,
  λ u s h. h.0,
)

-- ---- the direction of a cosine and a sine, and two floats
abbrev pub towards : Float → Float → Direction
towards c s = record { cosine = c; sine = s }

abbrev pub one : Float
one = fin false 1 (pos 0)

abbrev pub zero : Float
zero = fin false 0 (pos 0)

-- ---- a direction, and whether it lies along x and along y: "one of c, s is 0 and the other 1 or −1 (the two zeros count as equal)"
abbrev pub directions : List (Direction × Bool × Bool)
directions =
    (towards one zero, true, false)
    ∷ (towards one (fin true 0 (pos 0)), true, false)
    ∷ (towards (fin true 1 (pos 0)) zero, true, false)
    ∷ (towards (fin true 1 (pos 0)) (fin true 0 (pos 0)), true, false)
    ∷ (towards zero one, false, true)
    ∷ (towards (fin true 0 (pos 0)) one, false, true)
    ∷ (towards zero (fin true 1 (pos 0)), false, true)
    ∷ (towards (fin true 0 (pos 0)) (fin true 1 (pos 0)), false, true)
    ∷ (towards zero zero, false, false)
    ∷ (towards one one, false, false)
    -- 2, and 2 ^ −1074, are neither 1 nor 0
    ∷ (towards (fin false 1 (pos 1)) zero, false, false)
    ∷ (towards one (fin false 1 (negsuc 1073)), false, false)
    ∷ (towards nan zero, false, false)
    ∷ (towards zero (inf false), false, false)
    ∷ []

pub along : map (λ row. (row.0, along_x row.0, along_y row.0)) directions ≡ directions
unfolding along_x along_y is_zero is_unit eq
along = refl

-- the float nearest to the square root of 1023/1024, whose square is 1023/1024 as a float, and the next below it
abbrev pub lowest : Float
lowest = of_bits binary64 0x3fef_fbff_bff7_fec0

abbrev pub too_low : Float
too_low = of_bits binary64 0x3fef_fbff_bff7_febf

-- ---- a shape, and what it gives: the covariance or the refusal, REFERENCE's number of it (0: accepted), and its values
abbrev pub Given : Type 0
Given = Shape × Result Covariance ErrorCode × ℕ × List ℤ

abbrev pub entries : Shape → ℤ → ℤ → ℤ → Given
entries shape xx xy yy = (shape, Ok (record { xx = xx; xy = xy; yy = yy }), 0, xx ∷ xy ∷ yy ∷ [])

abbrev pub refused : Shape → ErrorCode → ℕ → Given
refused shape code number = (shape, Err code, number, [])

abbrev pub covariances : List Given
covariances =
    -- long 2, short 1, cosine 0.6, sine 0.8; and with the variances exchanged
    entries (Oval (fin false 1 (pos 1)) one (towards (of_bits binary64 0x3fe3_3333_3333_3333) (of_bits binary64 0x3fe9_9999_9999_999a))) (pos 5571) (pos 1966) (pos 6717)
    ∷ entries (Oval one (fin false 1 (pos 1)) (towards (of_bits binary64 0x3fe3_3333_3333_3333) (of_bits binary64 0x3fe9_9999_9999_999a))) (pos 6717) (negsuc 1965) (pos 5571)
    -- past 64 square pixels: (c·c) + (s·s) is 1025/1024
    ∷ entries (Oval (fin false 1 (pos 6)) (fin false 1 (pos 6)) (towards one (fin false 1 (negsuc 4)))) (pos 262400) (pos 0) (pos 262400)
    -- 2.5 square pixels are 10240 units; "A Matrix never meets this": −4096 units
    ∷ entries (Round (fin false 5 (negsuc 0))) (pos 10240) (pos 0) (pos 10240)
    ∷ entries (Matrix (negsuc 4095) (pos 7) (pos 524288)) (negsuc 4095) (pos 7) (pos 524288)
    -- refusal 3: variances of 65 and −1, and what is no number; of an Oval long or short alone, where 4 would follow
    ∷ refused (Round (fin false 65 (pos 0))) VarianceOutOfRange 3
    ∷ refused (Round (fin true 1 (pos 0))) VarianceOutOfRange 3
    ∷ refused (Round nan) VarianceOutOfRange 3
    ∷ refused (Oval (fin false 65 (pos 0)) one (towards one one)) VarianceOutOfRange 3
    ∷ refused (Oval one (fin true 1 (pos 0)) (towards one one)) VarianceOutOfRange 3
    -- refusal 4: a cosine of 2, a sine of −2, and what is no number; (c·c) + (s·s) is 1 + 1, 1/4 + 1/4, and 1 + 9/4096, past 1 + 4/4096
    ∷ refused (Oval one one (towards (fin false 1 (pos 1)) zero)) NotADirection 4
    ∷ refused (Oval one one (towards zero (fin true 1 (pos 1)))) NotADirection 4
    ∷ refused (Oval one one (towards nan zero)) NotADirection 4
    ∷ refused (Oval one one (towards one one)) NotADirection 4
    ∷ refused (Oval one one (towards (fin false 1 (negsuc 0)) (fin false 1 (negsuc 0)))) NotADirection 4
    ∷ refused (Oval one one (towards one (fin false 3 (negsuc 5)))) NotADirection 4
    ∷ []

pub covered : map (λ row. let answer = covariance_answer row.0 in (row.0, answer, covariance_number answer, covariance_values answer)) covariances ≡ covariances
unfolding variances_fine direction_fine variance_in_range direction_in_range cosine_in_range square_in_range in_range covariance_xx covariance_xy covariance_yy nearest_units of_bits add sub mul le
covered = refl

-- ---- a shape and a step count, and the number of the first refusal that applies to the kernel of the two
abbrev pub requests : List (Shape × ℕ × ℕ)
requests =
    (Round nan, 0, 3)
    ∷ (Round (inf false), 1, 3)
    ∷ (Round (inf true), 1, 3)
    ∷ (Round (fin true 0 (pos 0)), 1, 0)
    ∷ (Round (fin true 1 (negsuc 1073)), 1, 3)
    ∷ (Round (fin false 1 (pos 6)), 64, 0)
    ∷ (Round (of_bits binary64 0x4050_0000_0000_0001), 64, 3)
    ∷ (Oval nan one (towards (fin false 1 (pos 1)) zero), 0, 3)
    ∷ (Oval one nan (towards (fin false 1 (pos 1)) zero), 0, 3)
    ∷ (Oval one one (towards (fin false 1 (pos 1)) zero), 0, 4)
    ∷ (Oval one one (towards nan one), 1, 4)
    ∷ (Oval one one (towards one nan), 1, 4)
    ∷ (Oval one one (towards one one), 1, 4)
    ∷ (Oval one one (towards lowest zero), 2, 0)
    ∷ (Oval one one (towards too_low zero), 2, 4)
    ∷ (Oval one one (towards one (fin false 1 (negsuc 4))), 3, 0)
    ∷ (Oval one one (towards one zero), 0, 5)
    ∷ (Oval (fin false 1 (pos 6)) (fin false 1 (pos 6)) (towards one (fin false 1 (negsuc 4))), 64, 11)
    ∷ (Matrix (negsuc 2147483647) (negsuc 2147483647) (negsuc 2147483647), 65, 5)
    ∷ (Matrix (pos 2147483647) (pos 0) (pos 2147483647), 64, 11)
    ∷ []

pub requested : map (λ row. outcome_number (first_refusal (shape_kernel_checks row.0 row.1))) requests ≡ map (λ row. row.2) requests
unfolding variances_fine direction_fine variance_in_range direction_in_range cosine_in_range square_in_range in_range covariance_xx covariance_xy covariance_yy nearest_units kernel_exists of_bits add sub mul le
requested = refl
