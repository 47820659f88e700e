-- The theorems on runs within one picture, by each choice: the picture is left as it was exactly where the run between two pictures of its
-- length is refused, with the same refusal; else it holds what the reader of that run is shown, step k, each pixel within k / 2 of the
-- exact run. Assumes nothing.
use mathlib.Core.Path.{◌≡◌, sym, ap, ◌∙◌}
use mathlib.Core.List.{List}
use Prim.Native.Nat.{ℕ}
use lib.ListN.{length}
use Rattle.limits.specs.Errors.{first_refusal}
use Rattle.limits.specs.declared.ErrorCode.{ErrorCode}
use Rattle.kernel.specs.declared.Choice.{Choice}
use Rattle.kernel.specs.Molecule.{sum_of}
use Rattle.covariance.specs.declared.Shape.{Shape}
use Rattle.covariance.specs.Shapes.{kernel_of_shape_by}
use Rattle.averaging.specs.Steps.{steps_of, exact_of}
use Rattle.averaging.specs.Distances.{Entrywise, Distance}
use Rattle.smoothing.specs.Runs.{run_checks, run_of}
use Rattle.smoothing.specs.InPlace.{in_place_outcome, in_place_after}
use Rattle.smoothing.proofs.Theorems.{shown_after, answers, shows_last, shows_near}
use Rattle.std.specs.Prelude.{Ok, Err}

module _ (choice : Choice) (shape : Shape) (k w h : ℕ) (picture : List ℕ) where
  -- A REFUSED RUN LEAVES THE PICTURE AS IT WAS
  pub keeps_picture : (code : ErrorCode) → in_place_outcome shape k w h picture ≡ Err code → in_place_after choice shape k w h picture ≡ picture
  unfolding in_place_after
  keeps_picture code e = rw e

  -- an accepted one leaves step k, whole
  pub holds_last : in_place_outcome shape k w h picture ≡ Ok tt → in_place_after choice shape k w h picture ≡ steps_of (kernel_of_shape_by choice shape k) w h k picture
  unfolding in_place_after
  holds_last e = rw e

  -- beside the run between that picture and any second one of its length
  module _ (second : List ℕ) (same : length second ≡ length picture) where
    checks_same : first_refusal (run_checks shape k w h (length picture) (length second)) ≡ in_place_outcome shape k w h picture
    checks_same = ap (λ n. first_refusal (run_checks shape k w h (length picture) n)) same

    -- IT IS REFUSED AS THAT RUN IS
    pub answers_same : (run_of choice shape k w h picture second).outcome ≡ in_place_outcome shape k w h picture
    answers_same = answers choice shape k w h picture second ∙ checks_same

    -- AND ELSE ENDS WITH EXACTLY THE PIXELS THAT THE READER OF THAT RUN IS SHOWN ..
    pub as_between_two : in_place_outcome shape k w h picture ≡ Ok tt → in_place_after choice shape k w h picture ≡ shown_after choice shape k w h picture second
    as_between_two e = holds_last e ∙ sym (shows_last choice shape k w h picture second (checks_same ∙ e))

    -- .. SO EACH LIES WITHIN k / 2 OF THE EXACT RUN
    pub holds_near : in_place_outcome shape k w h picture ≡ Ok tt
        → Entrywise (Distance (sum_of k) k) (in_place_after choice shape k w h picture) (exact_of (kernel_of_shape_by choice shape k) w h k picture)
    holds_near e = rw (as_between_two e) (shows_near choice shape k w h picture second (checks_same ∙ e))
