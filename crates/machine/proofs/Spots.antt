-- S-1 of ticks, "A bright spot must never get brighter": of what a tick writes, for every record and store that it does not refuse, and
-- of the pictures that collects hand over. Assumes nothing.
use mathlib.Core.Path.{◌≡◌, refl, sym, ap, subst, ◌∙◌}
use mathlib.Core.Bool.{Bool, true, false, cond}
use mathlib.Core.List.{List}
use Prim.Native.Nat.{ℕ, ◌+◌, ◌-◌, ◌≤◌, ◌<◌}
use native.Mathlib.Omega.{arith}
use borrow.Author.Tests.{eqb-true}
use lib.Dec.{eqb}
use lib.IntN.{pos}
use lib.ListN.{length}
use Rattle.limits.proofs.Laws.{both_true}
use Rattle.kernel.specs.Molecule.{units_of, kernel_of, kernel_with}
use Rattle.kernel.specs.Existence.{free_fits}
use Rattle.kernel.specs.Sound.{Sound}
use Rattle.kernel.proofs.Theorems.{sound, sound_by}
use Rattle.kernel.proofs.Bounds.{fits_sound}
use Rattle.covariance.specs.Shapes.{covariance_xx, covariance_xy, covariance_yy}
use Rattle.averaging.specs.Steps.{step_of, iterate}
use Rattle.averaging.specs.Distances.{Entrywise, Differ}
use Rattle.averaging.specs.Extrema.{WithinExtremes, BrightSpots}
use Rattle.averaging.proofs.Images.{length_image}
use Rattle.averaging.proofs.Extrema.{bright_spots}
use Rattle.machine.specs.declared.Slot.{Slot}
use Rattle.machine.specs.declared.Service.{Service}
use Rattle.machine.specs.Rules.{Rules}
use Rattle.machine.specs.Slots.{slot_at}
use Rattle.machine.specs.Store.{store_length, Workable, buffer_after, pixel_count, steps_done, current_image}
use Rattle.machine.specs.Order.{FilledSlot, in_order, usable}
use Rattle.machine.specs.Calls.{Result, tick_at, tick_of, served_place, kernel_of_slot, next_image}
use Rattle.machine.specs.History.{opened, kernel_of_job, alone_after}
use Rattle.machine.specs.Spots.{TickEnhancesNone, Collected, place_collected, job_collected, picture_collected}
use Rattle.machine.proofs.Parts.{part_own}
use Rattle.machine.proofs.Rules.{in_store}
use Rattle.machine.proofs.Invariant.{JobFine, fits_le}
use Rattle.machine.proofs.Orderly.{filled_slot, left_filled, served_found}
use Rattle.machine.proofs.Ends.{hands_over}
use Rattle.machine.proofs.Lists.{after_invariant, opened_invariant}
use Rattle.std.specs.Prelude.{Option, Some, None, Ok}
use Rattle.machine.specs.declared.Answer.TheVariants.{Job}

-- the kernel of a filled slot, by its f or, where the rules have none, by the smallest
slot_sound : (rules : Rules) (last : ℕ) (s : Slot) → FilledSlot rules last s → Sound (kernel_of_slot rules s) s.steps
slot_sound rules last s filled = go rules.holds_choice filled.free
  where
    go : (t : Bool) → cond t (free_fits s.xx s.xy s.yy s.free (units_of s.steps)) true ≡ true
        → Sound (cond t (kernel_with s.xx s.xy s.yy (pos s.free) s.steps) (kernel_of s.xx s.xy s.yy s.steps)) s.steps
    go true e = fits_sound s.xx s.xy s.yy s.free s.steps filled.steps e
    go false e = sound s.xx s.xy s.yy s.steps filled.steps filled.kernel

module _ (rules : Rules) (workable : Workable rules) (r : Service) (store : List ℕ) where
  -- one step of slot i
  module _ (fine : usable rules r store ≡ true) (i : ℕ) (served : served_place rules r ≡ Some i) where
    abbrev slot : Slot
    slot = slot_at r i

    tick_is : tick_of rules r store ≡ tick_at rules r store (Some i)
    unfolding tick_of
    tick_is = rw (fine, served)

    halves : (in_order rules r ≡ true) × (eqb (length store) store_length ≡ true)
    unfolding usable
    halves = both_true (in_order rules r) (eqb (length store) store_length) fine

    at : (i < rules.slot_count) × (0 < slot.left)
    at = served_found rules workable r i served

    full : length (next_image rules store i slot) ≡ pixel_count slot
    unfolding step_of
    full = length_image slot.width slot.height _

    step_of_slot : TickEnhancesNone rules r store i
    unfolding iterate
    step_of_slot =
        let left = at.1 in
        let filled = filled_slot rules r halves.0 i at.0 (left_filled rules r halves.0 i at.0 left) in
        let small = fits_le slot.width slot.height filled.fits in
        let long = eqb-true (length store) store_length halves.1 in
        let few = filled.left in
        let next = next_image rules store i slot in
        let done : slot.steps - (slot.left - 1) ≡ steps_done slot + 1 = omega arith in
        let room : buffer_after rules i (steps_done slot + 1) + pixel_count slot ≤ length store = rw long (in_store rules workable i (steps_done slot + 1) (pixel_count slot) at.0 small) in
        rw (tick_is, done, part_own (buffer_after rules i (steps_done slot + 1)) (pixel_count slot) next store full room)
        ((bright_spots (kernel_of_slot rules slot) slot.steps (slot_sound rules r.last slot filled)
        slot.width slot.height).steps_enhance_none (current_image rules store i slot) 0)

  -- WHAT A TICK WRITES: where a tick answers a job number, the job's slot has gone from one picture to the next like that, whatever the
  -- record and the store held
  pub tick_enhances_none : (n : ℕ) → (tick_of rules r store).answer ≡ Ok (Job n) → (i : ℕ) × (i < rules.slot_count) × ((slot_at r i).number ≡ n) × TickEnhancesNone rules r store i
  unfolding tick_of
  tick_enhances_none n e = go (usable rules r store) refl (served_place rules r) refl e
    where
      go : (t : Bool) → usable rules r store ≡ t → (f : Option ℕ) → served_place rules r ≡ f → (tick_of rules r store).answer ≡ Ok (Job n)
          → (i : ℕ) × (i < rules.slot_count) × ((slot_at r i).number ≡ n) × TickEnhancesNone rules r store i
      go true u (Some i) s e =
          let number : Ok (Job (slot_at r i).number) ≡ Ok (Job n) = sym (ap (λ (x : Result). x.answer) (tick_is u i s)) ∙ e in
          (i, (at u i s).0, cc, step_of_slot u i s)
      go true u None s e = let none = rw (u, s) at e in absurd (let z : ◌≡◌ {A = ℕ} 0 1 = cc in omega arith)
      go false u f s e = let none = rw u at e in absurd (let z : ◌≡◌ {A = ℕ} 0 1 = cc in omega arith)

-- ---- pictures that collects hand over, in whichever lists of calls
-- such a picture is what its job gets alone, and S-1 holds of its kernel
handed : (c : Collected) → (picture_collected c ≡ alone_after (job_collected c) (job_collected c).steps) × JobFine (job_collected c)
handed c =
    let w = hands_over (place_collected c) (after_invariant c.entries (opened c.rules c.store) (opened_invariant c.rules c.workable c.store c.long)) c.number c.lent c.accepted in
    (w.0, w.1.sits.fine)

pub job_bright_spots : (c : Collected) → BrightSpots (kernel_of_job (job_collected c)) (job_collected c).width (job_collected c).height
job_bright_spots c =
    let job = job_collected c in
    let f = (handed c).1 in
    bright_spots (kernel_of_job job) job.steps
    (sound_by job.choice (covariance_xx job.shape) (covariance_xy job.shape) (covariance_yy job.shape) job.steps f.steps f.kernel)
    job.width job.height

-- NO PIXEL THAT IS HANDED OVER IS ABOVE THE GREATEST OR BELOW THE LEAST of the picture that was submitted
pub handed_over_within : (c : Collected) → WithinExtremes 1 (job_collected c).picture (picture_collected c)
unfolding iterate
handed_over_within c =
    let job = job_collected c in
    let same : job.steps + 0 ≡ job.steps = omega arith in
    rw (handed c).0
    (subst (λ n. WithinExtremes 1 job.picture (alone_after job n)) same
    ((job_bright_spots c).steps_within job.picture (handed c).1.full 0 job.steps))

-- TWO JOBS OF ONE SHAPE, STEP COUNT, CHOICE AND SIDES WHOSE PICTURES DIFFER BY AT MOST d ARE HANDED OVER PICTURES THAT DO
pub handed_over_differ : (b c : Collected) → (job_collected b).shape ≡ (job_collected c).shape → (job_collected b).steps ≡ (job_collected c).steps
    → (job_collected b).width ≡ (job_collected c).width → (job_collected b).height ≡ (job_collected c).height → (job_collected b).choice ≡ (job_collected c).choice
    → (d : ℕ) → Entrywise (Differ d) (job_collected b).picture (job_collected c).picture
    → Entrywise (Differ d) (picture_collected b) (picture_collected c)
handed_over_differ b c shape steps width height choice d differ =
    rw ((handed b).0, (handed c).0, ← shape, ← steps, ← width, ← height, ← choice)
    ((job_bright_spots b).steps_differ d (job_collected b).picture (job_collected c).picture (handed b).1.full differ (job_collected b).steps)
