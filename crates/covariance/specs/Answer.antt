-- What the calls that take a shape answer. Definitions only.
use Rattle.std.specs.Prelude.{ℕ, List, [], ◌∷◌, ℤ, Result, Ok, Err}
use Rattle.limits.specs.Limits.{steps_in_range}
use Rattle.limits.specs.Errors.{Check, ◌otherwise◌, first_refusal, number_of, answer_with}
use Rattle.limits.specs.declared.ErrorCode.{ErrorCode}
use Rattle.limits.specs.declared.ErrorCode.TheVariants.{VarianceOutOfRange, NotADirection, StepsOutOfRange, NoKernel}
use Rattle.kernel.specs.declared.Choice.{Choice}
use Rattle.kernel.specs.declared.Kernel.{Kernel}
use Rattle.covariance.specs.declared.Shape.{Shape}
use Rattle.kernel.specs.declared.Covariance.{Covariance}
use Rattle.covariance.specs.Shapes.{variances_fine, direction_fine, covariance_xx, covariance_xy, covariance_yy, shape_has_kernel, kernel_of_shape_by}

-- each answer's number in REFERENCE, 0 where the shape is accepted, and the values that it carries
abbrev pub covariance_number : Result Covariance ErrorCode → ℕ
covariance_number (Ok entries) = 0
covariance_number (Err code) = number_of code

abbrev pub covariance_values : Result Covariance ErrorCode → List ℤ
covariance_values (Ok entries) = entries.xx ∷ entries.xy ∷ entries.yy ∷ []
covariance_values (Err code) = []

abbrev pub entries_of : Shape → Covariance
entries_of shape = record { xx = covariance_xx shape; xy = covariance_xy shape; yy = covariance_yy shape }

-- refusals 3 and 4, in checking order
abbrev pub shape_checks : Shape → List Check
shape_checks shape = (variances_fine shape otherwise VarianceOutOfRange) ∷ (direction_fine shape otherwise NotADirection) ∷ []

abbrev pub covariance_answer : Shape → Result Covariance ErrorCode
covariance_answer shape = answer_with (first_refusal (shape_checks shape)) (entries_of shape)

-- refusals 3, 4, 5 and 11, in checking order
abbrev pub shape_kernel_checks : Shape → ℕ → List Check
shape_kernel_checks shape k =
    (variances_fine shape otherwise VarianceOutOfRange)
    ∷ (direction_fine shape otherwise NotADirection)
    ∷ (steps_in_range k otherwise StepsOutOfRange)
    ∷ (shape_has_kernel shape k otherwise NoKernel)
    ∷ []

abbrev pub shape_kernel_answer : Choice → Shape → ℕ → Result Kernel ErrorCode
shape_kernel_answer choice shape k =
    answer_with (first_refusal (shape_kernel_checks shape k)) (kernel_of_shape_by choice shape k)
