-- Refusal 11 of a shape, in the wide definition of a kernel: it is answered exactly where no nine weights at all have the shape's
-- second moments, by each choice; and the smallest choice answers what the kernel call did before there was a choice. Assumes
-- nothing.
use Rattle.std.proofs.Common.{◌≡◌, ℕ, true, false, ◌↔◌, refl}
use Rattle.limits.specs.Limits.{steps_in_range}
use Rattle.limits.specs.Errors.{first_refusal, answer_with}
use Rattle.limits.specs.declared.ErrorCode.TheVariants.{NoKernel}
use Rattle.kernel.specs.declared.Choice.{Choice}
use Rattle.kernel.specs.declared.Choice.TheVariants.{Smallest}
use Rattle.kernel.specs.Molecule.{units_of}
use Rattle.kernel.specs.Existence.{Weights}
use Rattle.kernel.proofs.Theorems.{absent_exactly, refused_exactly}
use Rattle.covariance.specs.declared.Shape.{Shape}
use Rattle.covariance.specs.Shapes.{variances_fine, direction_fine, covariance_xx, covariance_xy, covariance_yy, shape_has_kernel, kernel_of_shape}
use Rattle.covariance.specs.Answer.{shape_kernel_checks, shape_kernel_answer}
use Rattle.std.specs.Prelude.{Err}

-- "nine nonnegative whole weights of any common positive sum, mirror-symmetric or not", with the mean and the moments of a shape
abbrev pub WeightsOf : Shape → ℕ → Type 0
WeightsOf shape k = Weights (covariance_xx shape) (covariance_xy shape) (covariance_yy shape) (units_of k)

-- the core, which every call that takes a shape and a step count cites: the test fails exactly where there are none
pub shape_refused_exactly : (shape : Shape) (k : ℕ) → steps_in_range k ≡ true → (shape_has_kernel shape k ≡ false) ↔ (WeightsOf shape k → ⊥)
shape_refused_exactly shape k s = absent_exactly (covariance_xx shape) (covariance_xy shape) (covariance_yy shape) k s

-- "No kernel exists" (refusal 11), of the kernel of a shape that passes refusals 3, 4 and 5, by each choice ("Kernels exist for the
-- same shapes as before")
pub kernel_refused_exactly : (choice : Choice) (shape : Shape) (k : ℕ) → variances_fine shape ≡ true → direction_fine shape ≡ true → steps_in_range k ≡ true
    → (shape_kernel_answer choice shape k ≡ Err NoKernel) ↔ (WeightsOf shape k → ⊥)
kernel_refused_exactly choice shape k v d s = rw (v, d) (refused_exactly choice (covariance_xx shape) (covariance_xy shape) (covariance_yy shape) k s)

-- the smallest choice gives the kernel of a shape from before there was a choice
pub kernel_as_before : (shape : Shape) (k : ℕ)
    → shape_kernel_answer Smallest shape k ≡ answer_with (first_refusal (shape_kernel_checks shape k)) (kernel_of_shape shape k)
kernel_as_before shape k = refl
