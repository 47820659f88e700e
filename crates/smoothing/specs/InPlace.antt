-- docs/REFERENCE.md, S5.1 to S5.4: a run of k steps within one lent picture. Definitions only.
use Rattle.std.specs.Prelude.{List, ℕ, length}
use Rattle.limits.specs.Errors.{first_refusal, held_after}
use Rattle.kernel.specs.declared.Choice.{Choice}
use Rattle.covariance.specs.declared.Shape.{Shape}
use Rattle.covariance.specs.Shapes.{kernel_of_shape_by}
use Rattle.averaging.specs.Steps.{steps_of}
use Rattle.smoothing.specs.Runs.{run_checks}
use Rattle.limits.specs.Errors.{Outcome}

-- "Sides and lengths are checked as for that run": the lengths of its two pictures are both that of the one
abbrev pub in_place_outcome : Shape → ℕ → ℕ → ℕ → List ℕ → Outcome
in_place_outcome shape k w h picture = first_refusal (run_checks shape k w h (length picture) (length picture))

-- "A run within one picture ends with exactly the pixels of the two-picture run": step k. "A refused run leaves the picture as it was".
unfoldable pub in_place_after : Choice → Shape → ℕ → ℕ → ℕ → List ℕ → List ℕ
in_place_after choice shape k w h picture = held_after (in_place_outcome shape k w h picture) (steps_of (kernel_of_shape_by choice shape k) w h k picture) picture
