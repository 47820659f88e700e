-- The kernel of a step, and the coefficients that stand for it in the code. Definitions only.
use Rattle.std.specs.Prelude.{◌≡◌, ℕ, ◌*◌, ◌/◌}
use Rattle.kernel.specs.Sound.{Sound}
use Rattle.kernel.specs.declared.Kernel.{Kernel}
use Rattle.row_core.specs.Weights.{reciprocal_of, kernel_of_weights}
use Rattle.row_core.specs.declared.coefficients.Coefficients.{Coefficients}

-- a kernel of some step count
pub record StepKernel (kernel : Kernel) : Type 0 where
  pub steps : ℕ
  pub sound : Sound kernel steps

-- the kernel whose weights they are
abbrev pub kernel_of_coefficients : Coefficients → Kernel
kernel_of_coefficients c = kernel_of_weights c.weights

-- they stand for a kernel of some step count, the reciprocal is that of twice the step count, and nothing is left over: so of all
-- coefficients (`proofs/Averages`, `prepared`)
pub record Prepared (c : Coefficients) : Type 0 where
  pub steps : ℕ
  pub sound : Sound (kernel_of_coefficients c) steps
  pub reciprocal : c.reciprocal ≡ reciprocal_of (2 * steps)
  pub half : c.half ≡ (kernel_of_coefficients c).sum / 2
  pub none_left : c.rest ≡ 0

pub record StandsFor (kernel : Kernel) (c : Coefficients) : Type 0 where
  pub is : kernel_of_coefficients c ≡ kernel
  pub prepared : Prepared c
