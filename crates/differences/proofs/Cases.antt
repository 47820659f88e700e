-- The worked differences, each table by one computed proof, and the ends of "within k, 2k and 2k units". Assumes nothing.
use mathlib.Core.Path.{◌≡◌, refl}
use mathlib.Core.List.{List, map}
use Prim.Native.Nat.{ℕ}
use lib.Dec.{lit≤, le→leb}
use lib.ListN.{length}
use lib.IntN.{ℤ, pos, negsuc}
use lib.Ieee.{Float, of_int, of_bits, add, mul, le}
use Rattle.limits.specs.Errors.{first_refusal, outcome_number, held_after}
use Rattle.image.specs.Image.{pixel_at, entries, rows}
use Rattle.covariance.specs.declared.Direction.{Direction}
use Rattle.covariance.specs.Floats.{in_range}
use Rattle.covariance.specs.Shapes.{cosine_in_range, square_in_range, direction_in_range}
use Rattle.differences.specs.declared.Difference.{Difference}
use Rattle.differences.specs.Stencils.{stencil_sum, differences_of}
use Rattle.differences.specs.Directional.{directional_of}
use Rattle.differences.specs.Distances.{units_per_step, CloseTo}
use Rattle.differences.specs.Answers.{difference_checks, directional_checks}
use Rattle.differences.proofs.Table.{Case, undivided, directed, units}
use Rattle.limits.specs.Errors.{Outcome}

-- the number and the result that a case tells
abbrev pub told : {Which Entry : Type 0} → Case Which Entry → ℕ × List Entry
told c = (c.number, c.after)

-- those that the contracts of the two calls give
abbrev pub answered : {Which Entry : Type 0} → Outcome → List Entry → Case Which Entry → ℕ × List Entry
answered outcome made c = (outcome_number outcome, held_after outcome made c.before)

abbrev pub undivided_of : Case Difference ℤ → ℕ × List ℤ
undivided_of c =
    answered (first_refusal (difference_checks (length c.pixels) (length c.before) c.width c.height))
    (differences_of c.which c.width c.height c.pixels) c

abbrev pub directed_of : Case Direction Float → ℕ × List Float
directed_of c =
    answered (first_refusal (directional_checks c.which (length c.pixels) (length c.before) c.width c.height))
    (directional_of c.which c.width c.height c.pixels) c

pub undivided_worked : map undivided_of undivided ≡ map told undivided
unfolding differences_of stencil_sum pixel_at entries rows
undivided_worked = refl

pub directed_worked : map directed_of directed ≡ map told directed
unfolding directional_of stencil_sum pixel_at entries rows direction_in_range cosine_in_range square_in_range in_range of_int of_bits add mul le
directed_worked = refl

pub units_worked : map (λ row. units_per_step row.0) units ≡ map (λ row. row.1) units
units_worked = refl

-- ---- "within k, 2k and 2k units" of the exact run's, which stands over (4 × M) ^ k; `negsuc n` is −(n + 1). No step, and no distance; after
-- one step, over 16384, 1 and −1 for 0 in a first difference and 3 for 1 in another one; after two, over 1073741824, −1 for 1 and 3 for −1
pub at_the_end : CloseTo 1 16384 0 (negsuc 2) (negsuc 2) × CloseTo 1 16384 1 (pos 1) (pos 0) × CloseTo 1 16384 1 (negsuc 0) (pos 0)
    × CloseTo 2 16384 1 (pos 3) (pos 16384) × CloseTo 1 32768 2 (negsuc 0) (pos 1073741824) × CloseTo 2 32768 2 (pos 3) (negsuc 1073741823)
at_the_end = (lit≤ tt, lit≤ tt, lit≤ tt, lit≤ tt, lit≤ tt, lit≤ tt)

-- and one further in the exact run's whole number is too far. `le→leb` turns a false inequality of two numerals into nothing
pub past_the_end : ¬ CloseTo 1 16384 0 (negsuc 2) (negsuc 3) × ¬ CloseTo 1 16384 1 (pos 1) (negsuc 0) × ¬ CloseTo 1 16384 1 (negsuc 0) (pos 1)
    × ¬ CloseTo 2 16384 1 (pos 3) (pos 16383) × ¬ CloseTo 1 32768 2 (negsuc 0) (pos 1073741825) × ¬ CloseTo 2 32768 2 (pos 3) (negsuc 1073741824)
past_the_end = (
  le→leb 1 0,
  le→leb 16385 16384,
  le→leb 16385 16384,
  le→leb 32769 32768,
  le→leb 2147483649 2147483648,
  le→leb 4294967297 4294967296,
)
