-- docs/REFERENCE.md, "Bright spots", of runs: of every step of an accepted run, of the two pictures that it leaves, and of two runs of
-- one choice ("The two pictures of S1.5 and S1.6 have one choice"), shape and step count. Assumes nothing.
use mathlib.Core.Path.{◌≡◌, refl, sym, subst, ◌∙◌}
use mathlib.Core.Bool.{Bool, true, false, cond}
use mathlib.Core.List.{List}
use Prim.Native.Nat.{ℕ, suc, ◌+◌, ◌-◌, ◌*◌, ◌^◌}
use native.Mathlib.Omega.{arith}
use lib.ListN.{length}
use Rattle.limits.specs.Errors.{first_refusal}
use Rattle.kernel.specs.declared.Choice.{Choice}
use Rattle.kernel.specs.declared.Kernel.{Kernel}
use Rattle.kernel.specs.Molecule.{sum_of}
use Rattle.kernel.specs.Sound.{Sound}
use Rattle.covariance.specs.declared.Shape.{Shape}
use Rattle.covariance.specs.Shapes.{kernel_of_shape_by}
use Rattle.averaging.specs.Steps.{iterate, steps_of, exact_of}
use Rattle.averaging.specs.Distances.{Entrywise, Differ}
use Rattle.averaging.specs.Extrema.{NonEnhancement, WithinExtremes, BrightSpots}
use Rattle.averaging.proofs.Extrema.{bright_spots}
use Rattle.smoothing.specs.Runs.{run_checks, is_even, steps_in_first, steps_in_second, run_of}
use Rattle.smoothing.proofs.Runs.{fills_pair, kernel_sound}
use Rattle.smoothing.proofs.Theorems.{shown_after, answers, shows_last}
use Rattle.std.specs.Prelude.{Ok}

-- the one of a run's two pictures that is not shown: "the other holds step k − 1"
abbrev pub other_after : Choice → Shape → ℕ → ℕ → ℕ → List ℕ → List ℕ → List ℕ
other_after choice shape k w h first second =
    cond (is_even k) (run_of choice shape k w h first second).second (run_of choice shape k w h first second).first

module _ (choice : Choice) (shape : Shape) (k w h : ℕ) (first second : List ℕ) (accepted : (run_of choice shape k w h first second).outcome ≡ Ok tt) where
  abbrev kernel : Kernel
  kernel = kernel_of_shape_by choice shape k

  checked : first_refusal (run_checks shape k w h (length first) (length second)) ≡ Ok tt
  checked = sym (answers choice shape k w h first second) ∙ accepted

  sound : Sound kernel k
  sound = kernel_sound choice shape k w h (length first) (length second) checked

  fills : length first ≡ w * h
  fills = (fills_pair shape k w h (length first) (length second) checked).0.source

  -- ALL OF IT, OF THE KERNEL OF EVERY ACCEPTED RUN
  pub run_bright_spots : BrightSpots (kernel_of_shape_by choice shape k) w h
  run_bright_spots = bright_spots kernel k sound w h

  -- IN EVERY STEP OF THE RUN, from step j to step j + 1, a local maximum does not rise and a local minimum does not fall ..
  pub run_enhances_none : (j : ℕ) → NonEnhancement 1 w h (steps_of (kernel_of_shape_by choice shape k) w h j first) (steps_of (kernel_of_shape_by choice shape k) w h (suc j) first)
  run_enhances_none = run_bright_spots.steps_enhance_none first

  -- .. and so it is in the exact run, whose numbers stand over 4 × M more at each step
  pub exact_run_enhances_none : (j : ℕ)
      → NonEnhancement (sum_of k) w h (exact_of (kernel_of_shape_by choice shape k) w h j first) (exact_of (kernel_of_shape_by choice shape k) w h (suc j) first)
  exact_run_enhances_none j =
      subst (λ unit. NonEnhancement unit w h (exact_of kernel w h j first) (exact_of kernel w h (suc j) first)) sound.sum
      (run_bright_spots.exact_enhances_none first j)

  -- what the run leaves: step k − 1 in the picture that is not shown
  left_by_run : ((run_of choice shape k w h first second).first ≡ steps_of kernel w h (steps_in_first k) first)
      × ((run_of choice shape k w h first second).second ≡ steps_of kernel w h (steps_in_second k) first)
  unfolding run_of
  left_by_run = rw checked (refl, refl)

  other_before : other_after choice shape k w h first second ≡ steps_of kernel w h (k - 1) first
  other_before = go (is_even k) left_by_run.0 left_by_run.1
    where
      go : (even : Bool) {a b : List ℕ} → a ≡ steps_of kernel w h (cond even k (k - 1)) first → b ≡ steps_of kernel w h (cond even (k - 1) k) first
          → cond even b a ≡ steps_of kernel w h (k - 1) first
      go true a b = b
      go false a b = a

  -- SO FROM THE PICTURE THAT IS NOT SHOWN TO THE ONE THAT IS
  pub last_step_enhances_none : NonEnhancement 1 w h (other_after choice shape k w h first second) (shown_after choice shape k w h first second)
  last_step_enhances_none =
      let some = (fills_pair shape k w h (length first) (length second) checked).1 in
      let last : suc (k - 1) ≡ k = omega arith in
      rw (other_before, shows_last choice shape k w h first second checked)
      (subst (λ n. NonEnhancement 1 w h (steps_of kernel w h (k - 1) first) (steps_of kernel w h n first)) last (run_enhances_none (k - 1)))

  -- NO PIXEL THAT IS SHOWN IS ABOVE THE GREATEST OR BELOW THE LEAST of the picture that was lent
  pub shown_within : WithinExtremes 1 first (shown_after choice shape k w h first second)
  unfolding iterate
  shown_within =
      let same : k + 0 ≡ k = omega arith in
      rw (shows_last choice shape k w h first second checked)
      (subst (λ n. WithinExtremes 1 first (steps_of kernel w h n first)) same (run_bright_spots.steps_within first fills 0 k))

-- ---- "two pictures of equal sides that differ by at most d at each pixel, smoothed with one shape and step count", and with one
-- choice
module _ (choice : Choice) (shape : Shape) (k w h : ℕ) (p p-second q q-second : List ℕ) (p-accepted : (run_of choice shape k w h p p-second).outcome ≡ Ok tt)
    (q-accepted : (run_of choice shape k w h q q-second).outcome ≡ Ok tt) (d : ℕ) (differ : Entrywise (Differ d) p q) where
  after : (j : ℕ) → Entrywise (Differ d) (steps_of (kernel_of_shape_by choice shape k) w h j p) (steps_of (kernel_of_shape_by choice shape k) w h j q)
  after = (run_bright_spots choice shape k w h p p-second p-accepted).steps_differ d p q (fills choice shape k w h p p-second p-accepted) differ

  -- "STILL DIFFER BY AT MOST d": what the two runs show ..
  pub runs_differ : Entrywise (Differ d) (shown_after choice shape k w h p p-second) (shown_after choice shape k w h q q-second)
  runs_differ =
      rw (shows_last choice shape k w h p p-second (checked choice shape k w h p p-second p-accepted))
      (rw (shows_last choice shape k w h q q-second (checked choice shape k w h q q-second q-accepted)) (after k))

  -- .. and what they leave in either picture, whatever the second pictures held
  pub left_differ : Entrywise (Differ d) (run_of choice shape k w h p p-second).first (run_of choice shape k w h q q-second).first
      × Entrywise (Differ d) (run_of choice shape k w h p p-second).second (run_of choice shape k w h q q-second).second
  left_differ =
      let a = left_by_run choice shape k w h p p-second p-accepted in
      let b = left_by_run choice shape k w h q q-second q-accepted in
      rw (a.0, a.1, b.0, b.1) (after (steps_in_first k), after (steps_in_second k))

  -- and so it is in the exact run, whose numbers stand over (4 × M) ^ j
  pub exact_runs_differ : (j : ℕ)
      → Entrywise (Differ (d * sum_of k ^ j)) (exact_of (kernel_of_shape_by choice shape k) w h j p) (exact_of (kernel_of_shape_by choice shape k) w h j q)
  exact_runs_differ j =
      subst (λ unit. Entrywise (Differ (d * unit ^ j)) (exact_of (kernel_of_shape_by choice shape k) w h j p) (exact_of (kernel_of_shape_by choice shape k) w h j q))
      (sound choice shape k w h p p-second p-accepted).sum
      ((run_bright_spots choice shape k w h p p-second p-accepted).exact_differs d p q (fills choice shape k w h p p-second p-accepted) differ j)
