-- `picture_calls::write_kernel` meets its contract where the shape is refused, and where the kernel is: then the shape, the steps and
-- the length passed before. Assumes nothing.
use mathlib.Core.Path.{◌≡◌, refl, sym, ◌∙◌}
use mathlib.Core.Bool.{true}
use mathlib.Core.List.{[], ◌∷◌}
use Prim.Native.Nat.{ℕ}
use borrow.Author.Tests.{eq-eqb}
use borrow.Author.Rules.{rules}
use lib.Dec.{eqb}
use lib.ListN.{length}
use Rattle.std.specs.Prelude.{Ok, Err}
use Rattle.limits.specs.Limits.{steps_in_range}
use Rattle.limits.specs.Errors.{◌otherwise◌}
use Rattle.limits.specs.declared.ErrorCode.{ErrorCode}
use Rattle.limits.specs.declared.ErrorCode.TheVariants.{StepsOutOfRange, WrongLength, NoKernel}
use Rattle.limits.proofs.Checks.{refused_alone}
use Rattle.kernel.specs.declared.Choice.{Choice}
use Rattle.kernel.specs.declared.Covariance.{Covariance}
use Rattle.kernel.specs.Answer.{kernel_answer, kernel_checks}
use Rattle.kernel.specs.Choice.{kernel_by}
use Rattle.kernel.specs.Existence.{kernel_exists}
use Rattle.kernel.specs.Molecule.{units_of}
use Rattle.covariance.specs.declared.Shape.{Shape}
use Rattle.covariance.specs.Answer.{covariance_answer}
use Rattle.covariance.specs.Shapes.{covariance_xx, covariance_xy, covariance_yy}
use Rattle.covariance.proofs.Answers.{passed, stopped}
use Rattle.picture_calls.specs.Pictures.{kernel_count, kernel_outcome, kernel_code, kernel_after}
use Rattle.picture_calls.proofs.write_kernel.Goals as goal

-- a refused shape is refused, whatever is checked after it
kernel_refused : (shape : Shape) (code : ErrorCode) → covariance_answer shape ≡ Err code → (k n : ℕ) → kernel_outcome shape k n ≡ Err code
kernel_refused shape code refused k n =
    stopped shape code
    ((steps_in_range k otherwise StepsOutOfRange)
    ∷ (eqb n kernel_count otherwise WrongLength)
    ∷ (kernel_exists (covariance_xx shape) (covariance_xy shape) (covariance_yy shape) (units_of k) otherwise NoKernel)
    ∷ [])
    refused

-- where the other checks passed, the kernel's answer decides
kernel_stopped : (choice : Choice) (shape : Shape) (k n : ℕ) (entries : Covariance) {code : ErrorCode} → covariance_answer shape ≡ Ok entries
    → steps_in_range k ≡ true → n ≡ kernel_count → kernel_answer choice entries.xx entries.xy entries.yy k ≡ Err code → kernel_outcome shape k n ≡ Err code
kernel_stopped choice shape k n entries {code} e steps ten r =
    let p = passed shape entries.xx entries.xy entries.yy e in
    rw (p.variances, p.direction, steps, eq-eqb n kernel_count ten, p.is_xx, p.is_xy, p.is_yy)
    (rw steps at (refused_alone (kernel_checks entries.xx entries.xy entries.yy k) (kernel_by choice entries.xx entries.xy entries.yy k) code r))

pub returns-in_err-covariance : goal.returns-in_err-covariance
unfolding kernel_code kernel_after
returns-in_err-covariance c =
    let a = c.args in
    rw (kernel_refused a.shape _ (sym c.covariance_of.ensures ∙ c.in_err-covariance.was) a.steps (length a.words.now))
    (record { value = search rules; words_after = refl })

pub returns-in_err-kernel : goal.returns-in_err-kernel
unfolding kernel_code kernel_after
returns-in_err-kernel c =
    let a = c.args in
    rw (kernel_stopped c.from.result a.shape a.steps (length a.words.now) c.in_ok-covariance.covariance (sym c.covariance_of.ensures ∙ c.in_ok-covariance.was)
    (search rules) c.if-words-ne-KERNEL_WORDS.false (sym c.kernel_by.ensures ∙ c.in_err-kernel.was))
    (record { value = search rules; words_after = refl })
