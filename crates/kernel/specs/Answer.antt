-- What the kernel call answers for every choice, covariance and step count. Definitions only.
use Rattle.std.specs.Prelude.{ℕ, [], ◌∷◌, Result, ℤ, pos}
use Rattle.limits.specs.Limits.{steps_in_range}
use Rattle.limits.specs.Errors.{Outcome, ◌otherwise◌, first_refusal, answer_with}
use Rattle.limits.specs.declared.ErrorCode.TheVariants.{StepsOutOfRange, NoKernel}
use Rattle.kernel.specs.declared.Kernel.{Kernel}
use Rattle.limits.specs.declared.ErrorCode.{ErrorCode}
use Rattle.kernel.specs.declared.Choice.{Choice}
use Rattle.kernel.specs.Molecule.{units_of, kernel_with}
use Rattle.kernel.specs.Choice.{free_by, kernel_by}
use Rattle.kernel.specs.Existence.{kernel_exists, free_fits}

-- refusals 5 and 11, in checking order
abbrev pub kernel_checks : ℤ → ℤ → ℤ → ℕ → Outcome
kernel_checks xx xy yy k =
    first_refusal ((steps_in_range k otherwise StepsOutOfRange) ∷ (kernel_exists xx xy yy (units_of k) otherwise NoKernel) ∷ [])

-- a kernel exists by each choice or by none ("Kernels exist for the same shapes as before"), so the checks have no choice
abbrev pub kernel_answer : Choice → ℤ → ℤ → ℤ → ℕ → Result Kernel ErrorCode
kernel_answer choice xx xy yy k = answer_with (kernel_checks xx xy yy k) (kernel_by choice xx xy yy k)

-- the kernel with a given free number: 5, and 11 where it does not lie between its bounds
abbrev pub kernel_at_answer : ℤ → ℤ → ℤ → ℕ → ℕ → Result Kernel ErrorCode
kernel_at_answer xx xy yy f k =
    answer_with (first_refusal ((steps_in_range k otherwise StepsOutOfRange) ∷ (free_fits xx xy yy f (units_of k) otherwise NoKernel) ∷ []))
    (kernel_with xx xy yy (pos f) k)

-- f alone, as the service's record holds it
abbrev pub free_answer : Choice → ℤ → ℤ → ℤ → ℕ → Result ℕ ErrorCode
free_answer choice xx xy yy k = answer_with (kernel_checks xx xy yy k) (free_by choice xx xy yy k)
