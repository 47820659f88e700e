-- A tick at a place with the invariant: it answers a held job that has steps left and takes it one step on, or it is idle and
-- no held job has any left. Assumes nothing.
use mathlib.Core.Path.{◌≡◌, refl, sym, ◌∙◌, ap}
use mathlib.Core.Bool.{true, false, true≢false}
use mathlib.Core.Logic.{inr, ⊎_elim}
use mathlib.Core.List.{List, [], ◌∷◌}
use Prim.Native.Nat.{ℕ, ◌+◌, ◌-◌, ◌*◌, ◌≤◌, ◌<◌}
use native.Mathlib.Nat.{le_refl}
use native.Mathlib.Numerals.{add-one}
use native.Mathlib.Omega.{arith}
use borrow.Author.Tests.{eq-eqb, ne_eqb, ltb-false}
use lib.Dec.{eqb}
use lib.ListN.{length}
use Rattle.limits.specs.Limits.{buffer_pixels}
use Rattle.averaging.specs.Steps.{step_of, iterate}
use Rattle.averaging.proofs.Images.{length_image}
use Rattle.machine.specs.declared.Slot.{Slot}
use Rattle.machine.specs.Slots.{slot_at, is_empty, has_steps_left, next_place}
use Rattle.machine.specs.Store.{part, put, buffer_after, steps_done}
use Rattle.machine.specs.Calls.{tick, Result, tick_at, tick_of, served_place, stepped_slot, next_image}
use Rattle.machine.specs.History.{Event, Place, next, event_of, accepts, serves, Submitted, kernel_of_job, alone_after, job_of, held, ticks_of, steps_left, numbers, job_count, held_count}
use Rattle.machine.proofs.Search.{nothing, next_lt}
use Rattle.machine.proofs.Parts.{length_put, part_own, part_other}
use Rattle.machine.proofs.Words.{Untouched, kept_held, kept_job, served_ticks, many_ext}
use Rattle.machine.proofs.Rules.{block, within_block, from_block, in_store}
use Rattle.machine.proofs.Orderly.{served_found}
use Rattle.machine.proofs.Invariant.{Invariant, size, Sits, slot_of, Change, changed, is_usable, fits_le, own_kernel}
use Rattle.machine.proofs.Served.{Served, sets, idle_call}
use Rattle.std.specs.Prelude.{Option, Some, None, Ok}
use Rattle.machine.specs.declared.Answer.TheVariants.{Job, Idle}

module _ (p : Place) (v : Invariant p) where
  tick_is : (f : Option ℕ) → served_place p.rules p.service ≡ f → tick_of p.rules p.service p.store ≡ tick_at p.rules p.service p.store f
  unfolding tick_of
  tick_is f e = rw (is_usable p v, e)

  -- ---- idle
  idle : served_place p.rules p.service ≡ None → Served p tick (Ok Idle)
  idle e = idle_call p v tick (Ok Idle) refl (tick_is None e)

  none_left : served_place p.rules p.service ≡ None → (n : ℕ) → held p.history n ≡ true → steps_left p.history n ≡ 0
  none_left e n h =
      let w = v.placed n h in
      let i = w.0 in
      let no = nothing has_steps_left p.service.slots (size p) (next_place (size p) p.service.served) (next_lt (size p) p.service.served v.workable.some_slot) e i w.1 in
      let l = ltb-false 0 (slot_at p.service i).left no in
      ⊎_elim
      (λ z. absurd (let q = sym w.2 ∙ ap (λ (s : Slot). s.number) z in omega (arith, w.3)))
      (λ z. let q : z.0 ≡ n = sym (ap (λ (s : Slot). s.number) z.1.is) ∙ w.2 in
      let x : (slot_at p.service i).left ≡ steps_left p.history z.0 = ap (λ (s : Slot). s.left) z.1.is in
      sym (ap (steps_left p.history) q) ∙ sym x ∙ (let y : (slot_at p.service i).left ≡ 0 = omega arith in y))
      (v.taken i w.1)

  -- ---- one step of the job in slot i
  module _ (i n : ℕ) (at : i < size p) (e : served_place p.rules p.service ≡ Some i) (left : 0 < (slot_at p.service i).left)
      (s : Sits p.rules p.history p.store i n (slot_at p.service i)) where
    abbrev job : Submitted
    job = job_of p.history n

    abbrev done : ℕ
    done = ticks_of p.history n

    abbrev event : Event
    event = record { rules = p.rules; call = tick; answer = Ok (Job (slot_at p.service i).number); lent = [] }

    number : (slot_at p.service i).number ≡ n
    number = ap (λ (s : Slot). s.number) s.is

    some_left : 0 < job.steps - done
    some_left = let x = ap (λ (s : Slot). s.left) s.is in omega arith

    serves_it : eqb (slot_at p.service i).number n ≡ true
    serves_it = eq-eqb _ _ number

    ticks_now : ticks_of (event ∷ p.history) n ≡ done + 1
    ticks_now = served_ticks event p.history n refl serves_it

    job_now : job_of (event ∷ p.history) n ≡ job
    job_now = kept_job event p.history n refl

    steps_done_lem : steps_done (slot_at p.service i) ≡ done
    steps_done_lem = rw s.is (let f = s.few in omega arith)

    abbrev image : List ℕ
    image = step_of (kernel_of_job job) job.width job.height (alone_after job done)

    next_is : next_image p.rules p.store i (slot_at p.service i) ≡ image
    next_is =
        rw (s.is, own_kernel p.rules n job (steps_left p.history n) s.fine s.chosen)
        (ap (step_of (kernel_of_job job) job.width job.height)
        (ap (λ d. part (buffer_after p.rules i d) (job.width * job.height) p.store) (let f = s.few in let y : job.steps - (job.steps - done) ≡ done = omega arith in y) ∙ s.image))

    length_now : length image ≡ job.width * job.height
    unfolding step_of
    length_now = length_image job.width job.height _

    small : job.width * job.height ≤ buffer_pixels
    small = fits_le job.width job.height s.fine.fits

    abbrev store_now : List ℕ
    store_now = put (buffer_after p.rules i (done + 1)) image p.store

    result : tick_of p.rules p.service p.store
        ≡ record {
          answer = Ok (Job (slot_at p.service i).number);
          service = (tick_at p.rules p.service p.store (Some i)).service;
          store = store_now;
          lent = [];
        }
    result = tick_is (Some i) e ∙ rw (next_is, steps_done_lem)

    room : buffer_after p.rules i (done + 1) + length image ≤ length p.store
    room = rw (length_now, v.long) (in_store p.rules v.workable i (done + 1) (job.width * job.height) at small)

    same_given : numbers (event ∷ p.history) ≡ numbers p.history
    unfolding numbers
    same_given = refl

    sits : Sits p.rules (event ∷ p.history) store_now i n (stepped_slot (slot_at p.service i))
    unfolding iterate
    sits =
        record {
          positive = s.positive;
          known = rw same_given s.known;
          is_held = kept_held event p.history n refl refl ∙ s.is_held;
          is = rw (job_now, ticks_now) (ap stepped_slot s.is ∙ ap (slot_of p.rules n job) (let y : job.steps - done - 1 ≡ job.steps - (done + 1) = omega arith in y));
          chosen = rw job_now s.chosen;
          few = rw (job_now, ticks_now) (let g = some_left in omega arith);
          fine = rw job_now s.fine;
          image = rw (job_now, ticks_now) (part_own (buffer_after p.rules i (done + 1)) (job.width * job.height) image p.store length_now (omega (arith, length_now, room)) ∙ rw (add-one done));
        }

    others : (m : ℕ) → (m ≡ n → ⊥) → Untouched event m
    others m ne = record { unstarted = refl; unserved = ne_eqb (slot_at p.service i).number m (λ x. ne (sym x ∙ number)); unended = refl }

    same_count : held_count (event ∷ p.history) ≡ held_count p.history
    unfolding numbers
    same_count = many_ext (held (event ∷ p.history)) (held p.history) (numbers p.history) (λ m. kept_held event p.history m refl refl)

    nonempty : is_empty (slot_at p.service i) ≡ false
    nonempty = ne_eqb (slot_at p.service i).number 0 (λ x. omega (arith, number, s.positive))

    change : Change p tick i n (stepped_slot (slot_at p.service i))
    change =
        record {
          at = at;
          slots = rw result;
          before = inr number;
          only = λ j g ne x. ne (sym (v.once i j at g (omega (arith, number, s.positive)) (number ∙ sym x)));
          others = λ m ne. rw result (others m ne);
          long = rw result (length_put (buffer_after p.rules i (done + 1)) image p.store room ∙ v.long);
          apart =
              λ j a k ne x y. rw result
              (part_other (block p.rules) j i (buffer_after p.rules i (done + 1)) a k image p.store room ne (from_block p.rules v.workable i (done + 1))
              (within_block p.rules v.workable i (done + 1) (length image) (omega (arith, length_now, small))) x y);
          grows = rw (result, same_given) (le_refl (job_count p.history));
          new = rw result (inr sits);
          filled = rw result v.filled;
          served = rw result at;
          last = rw (result, same_given) v.last;
          given = rw (result, same_given) v.given;
          counted = rw (result, same_count, nonempty);
        }

    pub serves_now : serves (event_of p tick) n ≡ true
    serves_now = rw result serves_it

    stepped : Served p tick (Ok (Job n))
    stepped =
        record {
          answered = ap (λ (r : Result). r.answer) result ∙ ap (λ n. Ok (Job n)) number;
          keeps = changed p v tick i n (stepped_slot (slot_at p.service i)) change;
          effect = sets i n (stepped_slot (slot_at p.service i)) change (inr (inr serves_now));
          turn = λ t. absurd (omega arith);
          unchanged = λ x. absurd (true≢false (sym (ap (λ (r : Result). accepts r.answer) result) ∙ x));
        }

  -- what a tick does
  pub data Ticked : Type 0 where
    idled : served_place p.rules p.service ≡ None → Served p tick (Ok Idle) → ((n : ℕ) → held p.history n ≡ true → steps_left p.history n ≡ 0) → Ticked
    served : (i n : ℕ) → served_place p.rules p.service ≡ Some i → i < size p → Sits p.rules p.history p.store i n (slot_at p.service i)
        → Change p tick i n (stepped_slot (slot_at p.service i)) → 0 < steps_left p.history n → (next p tick).service.served ≡ i → Served p tick (Ok (Job n)) → Ticked

  pub ticked : Ticked
  ticked = go (served_place p.rules p.service) refl
    where
      go : (f : Option ℕ) → served_place p.rules p.service ≡ f → Ticked
      go None e = idled e (idle e) (none_left e)
      go (Some i) e =
          let w = served_found p.rules v.workable p.service i e in
          let l = w.1 in
          ⊎_elim
          (λ z. absurd (let q = ap (λ (s : Slot). s.left) z in omega arith))
          (λ z. served i z.0 e w.0 z.1 (change i z.0 w.0 e l z.1) (some_left i z.0 w.0 e l z.1) (ap (λ (r : Result). r.service.served) (result i z.0 w.0 e l z.1)) (stepped i z.0 w.0 e l z.1))
          (v.taken i w.0)
