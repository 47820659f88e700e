-- docs/REFERENCE.md, R6: the part of two lent pictures that the reader of a run is shown. Definitions only.
use Rattle.std.specs.Prelude.{cond, List, [], ℕ, ◌*◌, length, take, Ok, Err}
use Rattle.limits.specs.Errors.{first_refusal}
use Rattle.covariance.specs.declared.Shape.{Shape}
use Rattle.smoothing.specs.Runs.{run_checks, is_even}
use Rattle.limits.specs.Errors.{Outcome}

-- "The reader is shown the part of whichever buffer holds step k: the first where k is even, else the second". Where the run is
-- refused no buffer holds step k, and the part is empty.
abbrev pub shown_with : Outcome → ℕ → ℕ → ℕ → List ℕ → List ℕ → List ℕ
shown_with (Ok done) k w h first second = take (w * h) (cond (is_even k) first second)
shown_with (Err code) k w h first second = []

-- the call takes what the run takes, and checks what the run checks
unfoldable pub shown_of : Shape → ℕ → ℕ → ℕ → List ℕ → List ℕ → List ℕ
shown_of shape k w h first second =
    shown_with (first_refusal (run_checks shape k w h (length first) (length second))) k w h first second
