-- What the exported calls on shapes and pictures return, and what they leave in the lent slices: a code, 0 or the number of the
-- first check that fails, and where none does the result. Definitions only.
use Rattle.std.specs.Prelude.{cond, List, [], ◌∷◌, ℕ, eqb, ℤ, Float, length}
use Rattle.limits.specs.Limits.{steps_in_range}
use Rattle.limits.specs.Errors.{◌otherwise◌, first_refusal, outcome_number, value_or, held_after}
use Rattle.limits.specs.declared.ErrorCode.TheVariants.{VarianceOutOfRange, NotADirection, StepsOutOfRange, WrongLength, NoKernel}
use Rattle.kernel.specs.declared.Choice.{Choice}
use Rattle.kernel.specs.declared.Kernel.{Kernel}
use Rattle.covariance.specs.declared.Direction.{Direction}
use Rattle.covariance.specs.declared.Shape.{Shape}
use Rattle.covariance.specs.Shapes.{variances_fine, direction_fine, covariance_xx, covariance_xy, covariance_yy, shape_has_kernel, kernel_of_shape_by}
use Rattle.smoothing.specs.Runs.{is_even}
use Rattle.differences.specs.declared.Difference.{Difference}
use Rattle.differences.specs.Stencils.{differences_of}
use Rattle.differences.specs.Directional.{directional_of}
use Rattle.differences.specs.Answers.{difference_checks, directional_checks}
use Rattle.limits.specs.Errors.{Outcome}

-- ---- the covariance of a shape: a slice of three entries
abbrev pub entry_count : ℕ
entry_count = 3

abbrev pub covariance_entries : Shape → List ℤ
covariance_entries shape = covariance_xx shape ∷ covariance_xy shape ∷ covariance_yy shape ∷ []

-- refusals 3, 4 and 9, in checking order, of a slice of so many entries
abbrev pub covariance_outcome : Shape → ℕ → Outcome
covariance_outcome shape n =
    first_refusal
    ((variances_fine shape otherwise VarianceOutOfRange)
    ∷ (direction_fine shape otherwise NotADirection)
    ∷ (eqb n entry_count otherwise WrongLength)
    ∷ [])

unfoldable pub covariance_code : Shape → List ℤ → ℕ
covariance_code shape entries = outcome_number (covariance_outcome shape (length entries))

unfoldable pub covariance_after : Shape → List ℤ → List ℤ
covariance_after shape entries = held_after (covariance_outcome shape (length entries)) (covariance_entries shape) entries

-- ---- the kernel of a shape and a step count: a slice of ten words, the sum and then the weights as the kernel has them, by row
-- and then by column
abbrev pub kernel_count : ℕ
kernel_count = 10

abbrev pub kernel_words : Kernel → List ℕ
kernel_words kernel = kernel.sum ∷ kernel.weights

-- refusals 3, 4, 5, 9 and 11, in checking order, of a slice of so many words
abbrev pub kernel_outcome : Shape → ℕ → ℕ → Outcome
kernel_outcome shape k n =
    first_refusal
    ((variances_fine shape otherwise VarianceOutOfRange)
    ∷ (direction_fine shape otherwise NotADirection)
    ∷ (steps_in_range k otherwise StepsOutOfRange)
    ∷ (eqb n kernel_count otherwise WrongLength)
    ∷ (shape_has_kernel shape k otherwise NoKernel)
    ∷ [])

unfoldable pub kernel_code : Shape → ℕ → List ℕ → ℕ
kernel_code shape k words = outcome_number (kernel_outcome shape k (length words))

unfoldable pub kernel_after : Choice → Shape → ℕ → List ℕ → List ℕ
kernel_after choice shape k words = held_after (kernel_outcome shape k (length words)) (kernel_words (kernel_of_shape_by choice shape k)) words

-- ---- which of a run's two pictures is shown (`run_of` of crates/smoothing says by itself what a run leaves in them). docs/REFERENCE.md,
-- R6: "The reader is shown the part of whichever buffer holds step k: the first where k is even, else the second"; the first is
-- picture 0, the second picture 1
abbrev pub shown_picture : ℕ → ℕ
shown_picture k = cond (is_even k) 0 1

-- refusal 5 alone
abbrev pub shown_outcome : ℕ → Outcome
shown_outcome k = first_refusal ((steps_in_range k otherwise StepsOutOfRange) ∷ [])

unfoldable pub shown_code : ℕ → ℕ
shown_code k = outcome_number (shown_outcome k)

-- what the lent number holds at the end: a refusal answers no picture
unfoldable pub shown_picture_after : ℕ → ℕ → ℕ
shown_picture_after k before = value_or (held_after (shown_outcome k) (shown_picture k ∷ []) []) before

-- ---- the differences of a picture
unfoldable pub difference_code : ℕ → ℕ → List ℕ → List ℤ → ℕ
difference_code w h pixels result = outcome_number (first_refusal (difference_checks (length pixels) (length result) w h))

unfoldable pub difference_after : Difference → ℕ → ℕ → List ℕ → List ℤ → List ℤ
difference_after which w h pixels result =
    held_after (first_refusal (difference_checks (length pixels) (length result) w h)) (differences_of which w h pixels) result

unfoldable pub directional_code : Direction → ℕ → ℕ → List ℕ → List Float → ℕ
directional_code d w h pixels result = outcome_number (first_refusal (directional_checks d (length pixels) (length result) w h))

unfoldable pub directional_after : Direction → ℕ → ℕ → List ℕ → List Float → List Float
directional_after d w h pixels result =
    held_after (first_refusal (directional_checks d (length pixels) (length result) w h)) (directional_of d w h pixels) result
