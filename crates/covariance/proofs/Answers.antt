-- What the answer of `covariance_of` tells its callers: three numbers where both tests passed, and else the error code that
-- every list of checks that begins with these two comes to. Assumes nothing.
use Rattle.std.proofs.Common.{◌≡◌, ℕ, ◌<◌, Bool, true, false, List, [], ◌∷◌, ◌++◌, ℤ, refl, sym, ap, ◌∙◌, arith}
use Rattle.limits.specs.Errors.{Check, ◌otherwise◌, first_refusal, outcome_number, answer_with}
use Rattle.limits.specs.declared.ErrorCode.{ErrorCode}
use Rattle.limits.specs.declared.ErrorCode.TheVariants.{VarianceOutOfRange, NotADirection}
use Rattle.kernel.specs.declared.Choice.{Choice}
use Rattle.kernel.specs.Answer.{kernel_answer}
use Rattle.limits.proofs.Checks.{all_hold, accepted_alone, refused_alone, or_else, in_turn}
use Rattle.covariance.specs.declared.Shape.{Shape}
use Rattle.covariance.specs.declared.Shape.TheVariants.{Matrix}
use Rattle.kernel.specs.declared.Covariance.{Covariance}
use Rattle.covariance.specs.Shapes.{variances_fine, direction_fine, covariance_xx, covariance_xy, covariance_yy}
use Rattle.covariance.specs.Answer.{covariance_number, covariance_values, shape_checks, entries_of, covariance_answer, shape_kernel_answer}
use Rattle.std.specs.Prelude.{Result, Ok, Err}

pub record Passed (shape : Shape) (xx xy yy : ℤ) : Type 0 where
  pub variances : variances_fine shape ≡ true
  pub direction : direction_fine shape ≡ true
  pub is_xx : covariance_xx shape ≡ xx
  pub is_xy : covariance_xy shape ≡ xy
  pub is_yy : covariance_yy shape ≡ yy

-- "A Matrix never meets this", and gives its own numbers
pub matrix_as_it_is : (xx xy yy : ℤ) → covariance_answer (Matrix xx xy yy) ≡ Ok (record { xx = xx; xy = xy; yy = yy })
unfolding variances_fine direction_fine covariance_xx covariance_xy covariance_yy
matrix_as_it_is xx xy yy = refl

tests : Bool → Bool → List Check → List Check
tests v d rest = (v otherwise VarianceOutOfRange) ∷ (d otherwise NotADirection) ∷ rest

module _ (shape : Shape) where
  answer : Bool → Bool → Result Covariance ErrorCode
  unfolding tests
  answer v d = answer_with (first_refusal (tests v d [])) (entries_of shape)

  pub passed : (xx xy yy : ℤ) → covariance_answer shape ≡ Ok (record { xx = xx; xy = xy; yy = yy }) → Passed shape xx xy yy
  passed xx xy yy h =
      let t = accepted_alone (first_refusal (shape_checks shape)) (entries_of shape) (record { xx = xx; xy = xy; yy = yy }) h in
      let held = all_hold (shape_checks shape) t.0 in
      record {
        variances = held.0;
        direction = held.1.0;
        is_xx = sym (ap (λ e. e.xx) t.1);
        is_xy = sym (ap (λ e. e.xy) t.1);
        is_yy = sym (ap (λ e. e.yy) t.1);
      }

  pub stopped : (code : ErrorCode) (rest : List Check) → covariance_answer shape ≡ Err code
      → first_refusal (shape_checks shape ++ rest) ≡ Err code
  stopped code rest h =
      in_turn (shape_checks shape) rest
      ∙ ap (λ o. or_else o (first_refusal rest)) (refused_alone (first_refusal (shape_checks shape)) (entries_of shape) code h)

  -- an answer's number is that of the first check that fails, and it carries the three numbers exactly where none does
  pub numbered : covariance_number (covariance_answer shape) ≡ outcome_number (first_refusal (shape_checks shape))
  unfolding tests answer
  numbered = go (variances_fine shape) (direction_fine shape)
    where
      go : (v d : Bool) → covariance_number (answer v d) ≡ outcome_number (first_refusal (tests v d []))
      go true true = refl
      go true false = refl
      go false d = refl

  pub valued : (covariance_number (covariance_answer shape) ≡ 0 → covariance_values (covariance_answer shape) ≡ covariance_xx shape ∷ covariance_xy shape ∷ covariance_yy shape ∷ [])
      × (0 < covariance_number (covariance_answer shape) → covariance_values (covariance_answer shape) ≡ [])
  unfolding tests answer
  valued = go (variances_fine shape) (direction_fine shape)
    where
      go : (v d : Bool)
          → (covariance_number (answer v d) ≡ 0 → covariance_values (answer v d) ≡ covariance_xx shape ∷ covariance_xy shape ∷ covariance_yy shape ∷ [])
          × (0 < covariance_number (answer v d) → covariance_values (answer v d) ≡ [])
      go true true = (λ h. refl, λ h. absurd (omega arith))
      go true false = (λ h. absurd (omega arith), λ h. refl)
      go false d = (λ h. absurd (omega arith), λ h. refl)

  -- ---- and so the kernel of a shape is that of its numbers
  pub kernel_passed : (choice : Choice) {xx xy yy : ℤ} (k : ℕ) → Passed shape xx xy yy → kernel_answer choice xx xy yy k ≡ shape_kernel_answer choice shape k
  kernel_passed choice k p = rw (p.variances, p.direction, p.is_xx, p.is_xy, p.is_yy)

  pub kernel_stopped : (choice : Choice) (code : ErrorCode) (k : ℕ) → covariance_answer shape ≡ Err code
      → shape_kernel_answer choice shape k ≡ Err code
  kernel_stopped choice code k h = rw (stopped code _ h)
