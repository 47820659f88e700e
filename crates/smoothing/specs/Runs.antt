-- docs/REFERENCE.md, "Smoothing and differences": a run of k steps between two lent pictures. Definitions only.
use Rattle.std.specs.Prelude.{Bool, cond, List, [], ◌∷◌, ℕ, ◌-◌, ◌%◌, eqb, length, Ok, Err}
use Rattle.limits.specs.Limits.{steps_in_range, sides_in_range, fills_picture}
use Rattle.limits.specs.Errors.{Check, ◌otherwise◌, first_refusal}
use Rattle.limits.specs.declared.ErrorCode.TheVariants.{VarianceOutOfRange, NotADirection, StepsOutOfRange, SideOutOfRange, WrongLength, NoKernel}
use Rattle.kernel.specs.declared.Choice.{Choice}
use Rattle.kernel.specs.declared.Kernel.{Kernel}
use Rattle.covariance.specs.declared.Shape.{Shape}
use Rattle.covariance.specs.Shapes.{variances_fine, direction_fine, shape_has_kernel, kernel_of_shape_by}
use Rattle.averaging.specs.Steps.{steps_of}
use Rattle.limits.specs.Errors.{Outcome}

-- refusals 3, 4, 5, 6, 9 and 11, in checking order, of two lent pictures of so many pixels. Refusal 9: "A lent picture's length
-- is not w × h, the second one of a run .. included"
abbrev pub run_checks : Shape → ℕ → ℕ → ℕ → ℕ → ℕ → List Check
run_checks shape k w h first second =
    (variances_fine shape otherwise VarianceOutOfRange)
    ∷ (direction_fine shape otherwise NotADirection)
    ∷ (steps_in_range k otherwise StepsOutOfRange)
    ∷ (sides_in_range w h otherwise SideOutOfRange)
    ∷ (fills_picture first w h otherwise WrongLength)
    ∷ (fills_picture second w h otherwise WrongLength)
    ∷ (shape_has_kernel shape k otherwise NoKernel)
    ∷ []

abbrev pub is_even : ℕ → Bool
is_even k = eqb (k % 2) 0

-- "After it the later buffer holds step k and the other holds step k − 1": the step that each picture then holds. The later one
-- is "the first where k is even, else the second". An accepted run has at least 1 step.
abbrev pub steps_in_first : ℕ → ℕ
steps_in_first k = cond (is_even k) k (k - 1)

abbrev pub steps_in_second : ℕ → ℕ
steps_in_second k = cond (is_even k) (k - 1) k

-- what a run answers, and what it leaves in the two pictures
pub record Result : Type 0 where
  pub outcome : Outcome
  pub first : List ℕ
  pub second : List ℕ

-- "A run works between two lent pictures and starts in the first": both hold steps of what the first held, and nothing comes of
-- what the second held. "a refusal answers its number alone; .. every lent buffer keep their contents".
abbrev pub run_with : Outcome → Kernel → ℕ → ℕ → ℕ → List ℕ → List ℕ → Result
run_with (Ok done) kernel k w h first second =
    record {
      outcome = Ok tt;
      first = steps_of kernel w h (steps_in_first k) first;
      second = steps_of kernel w h (steps_in_second k) first;
    }
run_with (Err code) kernel k w h first second = record { outcome = Err code; first = first; second = second }

-- the run by a choice: its checks have none, since a kernel exists by each choice or by none (docs/REFERENCE.md, S2.14)
unfoldable pub run_of : Choice → Shape → ℕ → ℕ → ℕ → List ℕ → List ℕ → Result
run_of choice shape k w h first second =
    run_with (first_refusal (run_checks shape k w h (length first) (length second))) (kernel_of_shape_by choice shape k) k w h first second
