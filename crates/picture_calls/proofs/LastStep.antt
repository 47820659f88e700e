-- The number that `shown` writes names the picture that holds a run's last step, by each choice. Assumes nothing.
use mathlib.Core.Path.{◌≡◌, refl, sym, ◌∙◌}
use mathlib.Core.Bool.{Bool, true, false, cond}
use mathlib.Core.List.{List}
use Prim.Native.Nat.{ℕ}
use lib.Dec.{eqb}
use lib.ListN.{length}
use Rattle.limits.specs.Errors.{first_refusal}
use Rattle.limits.proofs.Checks.{all_hold}
use Rattle.kernel.specs.declared.Choice.{Choice}
use Rattle.covariance.specs.declared.Shape.{Shape}
use Rattle.covariance.specs.Shapes.{kernel_of_shape_by}
use Rattle.averaging.specs.Steps.{steps_of}
use Rattle.smoothing.specs.Runs.{run_checks, is_even, Result, run_of}
use Rattle.smoothing.specs.Shown.{shown_of}
use Rattle.smoothing.proofs.Theorems.{answers, same_checks, shows_whole, shows_last}
use Rattle.picture_calls.specs.Pictures.{shown_picture, shown_code, shown_picture_after}
use Rattle.std.specs.Prelude.{Ok}

-- of what a run leaves, the picture of a number: the first is picture 0
abbrev pub picture_of : ℕ → Result → List ℕ
picture_of n left = cond (eqb n 0) left.first left.second

module _ (choice : Choice) (shape : Shape) (k w h : ℕ) (first second : List ℕ) (accepted : (run_of choice shape k w h first second).outcome ≡ Ok tt) where
  abbrev left : Result
  left = run_of choice shape k w h first second

  checked : first_refusal (run_checks shape k w h (length first) (length second)) ≡ Ok tt
  checked = sym (answers choice shape k w h first second) ∙ accepted

  -- after an accepted run the call is accepted too, whatever the lent number held
  pub told : (before : ℕ) → (shown_code k ≡ 0) × (shown_picture_after k before ≡ shown_picture k)
  unfolding shown_code shown_picture_after
  told before = rw (all_hold (run_checks shape k w h (length first) (length second)) checked).1.1.0 (refl, refl)

  -- THE PICTURE OF THE NUMBER THAT IS WRITTEN IS WHAT THE READER IS SHOWN ..
  pub is_shown : (before : ℕ) → picture_of (shown_picture_after k before) left ≡ shown_of shape k w h left.first left.second
  is_shown before =
      rw (told before).1 (go (is_even k))
      ∙ sym (shows_whole shape k w h left.first left.second (same_checks choice shape k w h first second ∙ checked))
    where
      go : (even : Bool) → picture_of (cond even 0 1) left ≡ cond even left.first left.second
      go true = refl
      go false = refl

  -- .. AND HOLDS STEP k
  pub holds_last : (before : ℕ) → picture_of (shown_picture_after k before) left ≡ steps_of (kernel_of_shape_by choice shape k) w h k first
  holds_last before = is_shown before ∙ shows_last choice shape k w h first second checked
