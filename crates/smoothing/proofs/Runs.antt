-- What the checks of a run say of its kernel and of its pictures. Assumes nothing.
use mathlib.Core.Path.{◌≡◌, ◌∙◌}
use mathlib.Core.List.{List, [], ◌∷◌, ◌++◌}
use Prim.Native.Nat.{ℕ, ◌*◌, ◌≤◌}
use lib.IntN.{ℤ}
use borrow.Author.Tests.{eqb-true}
use Rattle.limits.specs.Limits.{longest_side, most_steps, side_in_range}
use Rattle.limits.specs.Errors.{Check, ◌otherwise◌, first_refusal, answer_with}
use Rattle.limits.specs.declared.ErrorCode.{ErrorCode}
use Rattle.limits.specs.declared.ErrorCode.TheVariants.{NoKernel}
use Rattle.limits.proofs.Laws.{both_true, in_range_lem}
use Rattle.kernel.specs.declared.Choice.{Choice}
use Rattle.kernel.specs.declared.Kernel.{Kernel}
use Rattle.kernel.specs.Molecule.{units_of}
use Rattle.kernel.specs.Existence.{kernel_exists}
use Rattle.kernel.specs.Sound.{Sound}
use Rattle.kernel.specs.Answer.{kernel_answer}
use Rattle.kernel.proofs.Theorems.{sound_by}
use Rattle.covariance.specs.declared.Shape.{Shape}
use Rattle.covariance.specs.Shapes.{covariance_xx, covariance_xy, covariance_yy, kernel_of_shape_by}
use Rattle.covariance.specs.Answer.{covariance_answer}
use Rattle.covariance.proofs.Answers.{Passed, stopped, kernel_passed}
use Rattle.row_core.specs.Prepared.{StepKernel}
use Rattle.stepping.specs.Step.{PicturePair}
use Rattle.in_place.specs.Bands.{OnePicture}
use Rattle.smoothing.specs.Checks.{picture_checks}
use Rattle.smoothing.specs.Runs.{run_checks}
use Rattle.limits.proofs.Checks.{all_hold, accepted_alone, refused_alone, in_turn}
use Rattle.std.specs.Prelude.{Ok, Err}

-- ---- the pictures of a run that no check refuses
module _ (shape : Shape) (k w h n m : ℕ) (accepted : first_refusal (run_checks shape k w h n m) ≡ Ok tt) where
  pub fills_pair : PicturePair n m w h × (1 ≤ k)
  fills_pair =
      let holds = (all_hold (run_checks shape k w h n m) accepted).1.1 in
      let sides = both_true (side_in_range w) (side_in_range h) holds.1.0 in (
        record {
          wide = (in_range_lem 1 longest_side w sides.0).0;
          high = (in_range_lem 1 longest_side h sides.1).0;
          narrow = (in_range_lem 1 longest_side w sides.0).1;
          source = eqb-true n (w * h) holds.1.1.0;
          target = eqb-true m (w * h) holds.1.1.1.0;
        },
        (in_range_lem 1 most_steps k holds.0).0,
      )

-- the one picture of a run within it, which stands in both places
pub fills_one : (shape : Shape) (k w h n : ℕ) → first_refusal (run_checks shape k w h n n) ≡ Ok tt → OnePicture n w h
fills_one shape k w h n accepted =
    let p = (fills_pair shape k w h n n accepted).0 in
    record { wide = p.wide; high = p.high; narrow = p.narrow; pixels = p.source }

-- ---- the checks of a run: those of its shape, then those of its pictures, then that of its kernel
abbrev pub kernel_check : Shape → ℕ → List Check
kernel_check shape k = (kernel_exists (covariance_xx shape) (covariance_xy shape) (covariance_yy shape) (units_of k) otherwise NoKernel) ∷ []

module _ (shape : Shape) (k w h n m : ℕ) where
  pub shape_refused : (code : ErrorCode) → covariance_answer shape ≡ Err code → first_refusal (run_checks shape k w h n m) ≡ Err code
  shape_refused code e = stopped shape code (picture_checks k w h n m ++ kernel_check shape k) e

  module _ (xx xy yy : ℤ) (p : Passed shape xx xy yy) where
    pub pictures_refused : (code : ErrorCode) → first_refusal (picture_checks k w h n m) ≡ Err code → first_refusal (run_checks shape k w h n m) ≡ Err code
    pictures_refused code e = rw (p.variances, p.direction) (in_turn (picture_checks k w h n m) (kernel_check shape k) ∙ rw e)

    pub kernel_decides : (choice : Choice) → first_refusal (picture_checks k w h n m) ≡ Ok tt
        → kernel_answer choice xx xy yy k ≡ answer_with (first_refusal (run_checks shape k w h n m)) (kernel_of_shape_by choice shape k)
    kernel_decides choice e =
        let steps = (all_hold (picture_checks k w h n m) e).0 in
        kernel_passed shape choice k p ∙ rw (p.variances, p.direction, in_turn (picture_checks k w h n m) (kernel_check shape k), e, steps)

-- the kernel of an accepted run is one to make steps with
pub kernel_sound : (choice : Choice) (shape : Shape) (k w h n m : ℕ) → first_refusal (run_checks shape k w h n m) ≡ Ok tt
    → Sound (kernel_of_shape_by choice shape k) k
kernel_sound choice shape k w h n m e =
    let holds = all_hold (run_checks shape k w h n m) e in
    sound_by choice (covariance_xx shape) (covariance_xy shape) (covariance_yy shape) k holds.1.1.0 holds.1.1.1.1.1.1.0

-- ---- a run that has a kernel is accepted, the kernel being that of its shape, and one that has none is refused
module _ (choice : Choice) (shape : Shape) (k w h n m : ℕ) where
  pub refused_run : {code : ErrorCode} → answer_with (first_refusal (run_checks shape k w h n m)) (kernel_of_shape_by choice shape k) ≡ Err code
      → first_refusal (run_checks shape k w h n m) ≡ Err code
  refused_run {code} e = refused_alone (first_refusal (run_checks shape k w h n m)) (kernel_of_shape_by choice shape k) code e

  module _ {kernel : Kernel} (made : answer_with (first_refusal (run_checks shape k w h n m)) (kernel_of_shape_by choice shape k) ≡ Ok kernel) where
    pub accepted_run : first_refusal (run_checks shape k w h n m) ≡ Ok tt
    accepted_run = (accepted_alone (first_refusal (run_checks shape k w h n m)) (kernel_of_shape_by choice shape k) kernel made).0

    pub kernel_of_run : kernel ≡ kernel_of_shape_by choice shape k
    kernel_of_run = (accepted_alone (first_refusal (run_checks shape k w h n m)) (kernel_of_shape_by choice shape k) kernel made).1

    pub step_kernel : StepKernel kernel
    step_kernel = rw kernel_of_run (record { steps = k; sound = kernel_sound choice shape k w h n m accepted_run })
