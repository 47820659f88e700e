-- The theorems on runs, by each choice. They join the contracts of `run_by` and `shown_by`, which are equations with `run_of` and
-- `shown_of`: the run answers the first refusal that applies, and then nothing has changed; refusal 11 is answered exactly where no
-- kernel exists; after an accepted run the reader is shown step k, each pixel of it within k / 2 of the exact run; what the second
-- picture held counts for nothing; and an empty part is shown exactly where the run with the same arguments is refused. Assumes
-- nothing.
use mathlib.Core.Path.{◌≡◌, refl, sym, ap, ◌∙◌}
use mathlib.Core.Bool.{Bool, true, false, cond}
use mathlib.Core.Logic.{◌↔◌}
use mathlib.Core.List.{List, [], ◌++◌}
use Prim.Native.Nat.{ℕ, ◌-◌, ◌*◌, ◌≤◌}
use native.Mathlib.Nat.{le_of_eq, mul-pos}
use native.Mathlib.Omega.{arith}
use lib.ListN.{length, take}
use lib.Seq.{take_all}
use Rattle.limits.specs.Errors.{Check, unless, first_refusal}
use Rattle.limits.specs.declared.ErrorCode.{ErrorCode}
use Rattle.limits.specs.declared.ErrorCode.TheVariants.{NoKernel}
use Rattle.limits.proofs.Checks.{refused_not_accepted, all_hold, in_turn}
use Rattle.kernel.specs.declared.Choice.{Choice}
use Rattle.kernel.specs.declared.Choice.TheVariants.{Smallest}
use Rattle.kernel.specs.Molecule.{units_of, sum_of}
use Rattle.kernel.specs.Existence.{Weights}
use Rattle.covariance.specs.declared.Shape.{Shape}
use Rattle.covariance.specs.Shapes.{covariance_xx, covariance_xy, covariance_yy, shape_has_kernel, kernel_of_shape, kernel_of_shape_by}
use Rattle.covariance.specs.Answer.{shape_checks}
use Rattle.covariance.proofs.Refusals.{shape_refused_exactly}
use Rattle.averaging.specs.Steps.{steps_of, exact_of}
use Rattle.averaging.specs.Distances.{Entrywise, Distance}
use Rattle.averaging.proofs.Runs.{length_steps}
use Rattle.averaging.proofs.Distance.{distance}
use Rattle.stepping.specs.Step.{PicturePair}
use Rattle.smoothing.specs.Checks.{picture_checks}
use Rattle.smoothing.specs.Runs.{run_checks, is_even, steps_in_first, steps_in_second, Result, run_with, run_of}
use Rattle.smoothing.specs.Shown.{shown_of}
use Rattle.smoothing.proofs.Runs.{kernel_check, fills_pair, kernel_sound}
use Rattle.limits.specs.Errors.{Outcome}
use Rattle.std.specs.Prelude.{Ok, Err}

-- by the smallest choice a run is one with the kernel of the smallest free number (docs/REFERENCE.md, S2.8)
pub as_before : (shape : Shape) (k w h : ℕ) (first second : List ℕ)
    → run_of Smallest shape k w h first second
    ≡ run_with (first_refusal (run_checks shape k w h (length first) (length second))) (kernel_of_shape shape k) k w h first second
unfolding run_of
as_before shape k w h first second = refl

-- what the reader is shown after a run
abbrev pub shown_after : Choice → Shape → ℕ → ℕ → ℕ → List ℕ → List ℕ → List ℕ
shown_after choice shape k w h first second = shown_of shape k w h (run_of choice shape k w h first second).first (run_of choice shape k w h first second).second

module _ (shape : Shape) (k w h : ℕ) (first second : List ℕ) where
  -- the checks that come before that for a kernel
  abbrev pub earlier_checks : List Check
  earlier_checks = shape_checks shape ++ picture_checks k w h (length first) (length second)

  abbrev checks : Outcome
  checks = first_refusal (run_checks shape k w h (length first) (length second))

  -- of two pictures of w × h pixels the part that is shown is the whole one
  pub shows_whole : first_refusal (run_checks shape k w h (length first) (length second)) ≡ Ok tt
      → shown_of shape k w h first second ≡ cond (is_even k) first second
  unfolding shown_of
  shows_whole e =
      let full = (fills_pair shape k w h (length first) (length second) e).0 in
      rw e (go (is_even k) (le_of_eq full.source) (le_of_eq full.target))
    where
      go : (even : Bool) → length first ≤ w * h → length second ≤ w * h → take (w * h) (cond even first second) ≡ cond even first second
      go true f s = take_all (w * h) first f
      go false f s = take_all (w * h) second s

module _ (choice : Choice) (shape : Shape) (k w h : ℕ) (first second : List ℕ) where
  -- ---- the run
  -- it answers the first refusal that applies ..
  pub answers : (run_of choice shape k w h first second).outcome ≡ first_refusal (run_checks shape k w h (length first) (length second))
  unfolding run_of
  answers = go (first_refusal (run_checks shape k w h (length first) (length second)))
    where
      go : (outcome : Outcome) → (run_with outcome (kernel_of_shape_by choice shape k) k w h first second).outcome ≡ outcome
      go (Ok done) = refl
      go (Err code) = refl

  -- .. and then both pictures are as they were
  pub changes_nothing : (code : ErrorCode) → first_refusal (run_checks shape k w h (length first) (length second)) ≡ Err code
      → run_of choice shape k w h first second ≡ record { outcome = Err code; first = first; second = second }
  unfolding run_of
  changes_nothing code e = rw e

  -- REFUSAL 11 IS ANSWERED EXACTLY WHERE NO NINE WEIGHTS EXIST, in the wide sense, for the shape's numbers: where refusals 3, 4,
  -- 5, 6 and 9, which come before it, do not apply
  pub refused_eleven : first_refusal (earlier_checks shape k w h first second) ≡ Ok tt
      → ((run_of choice shape k w h first second).outcome ≡ Err NoKernel) ↔ (Weights (covariance_xx shape) (covariance_xy shape) (covariance_yy shape) (units_of k) → ⊥)
  refused_eleven e =
      let core = shape_refused_exactly shape k (all_hold (earlier_checks shape k w h first second) e).1.1.0 in
      (λ r. core.0 (only (shape_has_kernel shape k) refl r), λ none. test (core.1 none))
    where
      -- the test for a kernel decides
      test : {t : Bool} → shape_has_kernel shape k ≡ t → (run_of choice shape k w h first second).outcome ≡ unless t (Err NoKernel) (Ok tt)
      test f = answers ∙ in_turn (earlier_checks shape k w h first second) (kernel_check shape k) ∙ rw (e, f)

      only : (t : Bool) → shape_has_kernel shape k ≡ t → (run_of choice shape k w h first second).outcome ≡ Err NoKernel → t ≡ false
      only true f r = absurd (refused_not_accepted (sym r ∙ test f))
      only false f r = refl

  -- ---- the reader
  -- AN EMPTY PART IS SHOWN EXACTLY WHERE THE RUN WITH THE SAME ARGUMENTS IS REFUSED
  pub shows_none : (shown_of shape k w h first second ≡ []) ↔ ((run_of choice shape k w h first second).outcome ≡ Ok tt → ⊥)
  unfolding shown_of
  shows_none = (λ none e. only none (sym answers ∙ e), λ refused. always (checks shape k w h first second) refl (λ e. refused (answers ∙ e)))
    where
      some : (even : Bool) → PicturePair (length first) (length second) w h → 1 ≤ length (cond even first second)
      some true full = rw full.source (mul-pos full.wide full.high)
      some false full = rw full.target (mul-pos full.wide full.high)

      only : shown_of shape k w h first second ≡ [] → checks shape k w h first second ≡ Ok tt → ⊥
      only none e =
          let l = some (is_even k) (fills_pair shape k w h (length first) (length second) e).0 in
          let z = ap length (sym (shows_whole shape k w h first second e) ∙ none) in
          omega arith

      always : (outcome : Outcome) → checks shape k w h first second ≡ outcome → (checks shape k w h first second ≡ Ok tt → ⊥) → shown_of shape k w h first second ≡ []
      always (Ok done) e none = absurd (none e)
      always (Err code) e none = rw e

-- ---- the reader after the run
module _ (choice : Choice) (shape : Shape) (k w h : ℕ) (first second : List ℕ) where
  abbrev ran : Outcome → Result
  ran outcome = run_with outcome (kernel_of_shape_by choice shape k) k w h first second

  -- a run changes no length ..
  pub keeps_lengths : (length (run_of choice shape k w h first second).first ≡ length first) × (length (run_of choice shape k w h first second).second ≡ length second)
  unfolding run_of
  keeps_lengths = go (first_refusal (run_checks shape k w h (length first) (length second))) refl
    where
      go : (outcome : Outcome) → first_refusal (run_checks shape k w h (length first) (length second)) ≡ outcome
          → (length (ran outcome).first ≡ length first) × (length (ran outcome).second ≡ length second)
      go (Ok done) e =
          let full = (fills_pair shape k w h (length first) (length second) e).0 in
          let left = length_steps (kernel_of_shape_by choice shape k) w h first full.source in
          (left (steps_in_first k) ∙ sym full.source, left (steps_in_second k) ∙ sym full.target)
      go (Err code) e = (refl, refl)

  -- .. so the same run is refused with what it left exactly where it was refused
  pub same_checks : first_refusal (run_checks shape k w h (length (run_of choice shape k w h first second).first) (length (run_of choice shape k w h first second).second))
      ≡ first_refusal (run_checks shape k w h (length first) (length second))
  same_checks = rw (keeps_lengths.0, keeps_lengths.1)

  -- AFTER A REFUSED RUN NOTHING IS SHOWN, AND AFTER NO OTHER
  pub shows_none_after : (shown_after choice shape k w h first second ≡ []) ↔ ((run_of choice shape k w h first second).outcome ≡ Ok tt → ⊥)
  shows_none_after =
      let left = run_of choice shape k w h first second in
      let same : (run_of choice shape k w h left.first left.second).outcome ≡ left.outcome =
      answers choice shape k w h left.first left.second ∙ same_checks ∙ sym (answers choice shape k w h first second) in
      rw same at (shows_none choice shape k w h left.first left.second)

  module _ (accepted : first_refusal (run_checks shape k w h (length first) (length second)) ≡ Ok tt) where
    -- what the second picture held counts for nothing
    pub second_unread : (other : List ℕ) → length other ≡ length second → run_of choice shape k w h first other ≡ run_of choice shape k w h first second
    unfolding run_of
    second_unread other e = rw (e, accepted)

    -- AFTER AN ACCEPTED RUN THE READER IS SHOWN STEP k
    pub shows_last : shown_after choice shape k w h first second ≡ steps_of (kernel_of_shape_by choice shape k) w h k first
    unfolding run_of
    shows_last =
        shows_whole shape k w h (run_of choice shape k w h first second).first (run_of choice shape k w h first second).second (same_checks ∙ accepted)
        ∙ rw accepted (go (is_even k))
      where
        go : (even : Bool)
            → cond even (steps_of (kernel_of_shape_by choice shape k) w h (cond even k (k - 1)) first) (steps_of (kernel_of_shape_by choice shape k) w h (cond even (k - 1) k) first)
            ≡ steps_of (kernel_of_shape_by choice shape k) w h k first
        go true = refl
        go false = refl

    -- EVERY PIXEL SHOWN LIES WITHIN k / 2 OF THE EXACT RUN: "it starts from the same picture", and distances "are compared in
    -- whole numbers, both sides times 2 × (4 × M)^j", here for j = k
    pub shows_near : Entrywise (Distance (sum_of k) k) (shown_after choice shape k w h first second) (exact_of (kernel_of_shape_by choice shape k) w h k first)
    shows_near =
        let sound = kernel_sound choice shape k w h (length first) (length second) accepted in
        let full = (fills_pair shape k w h (length first) (length second) accepted).0 in
        rw (shows_last, ← sound.sum) (distance (kernel_of_shape_by choice shape k) k sound w h first full.source k)
