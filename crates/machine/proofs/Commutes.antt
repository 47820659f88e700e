-- A call by the old rules and the change-over after it leave the same as the change-over and the call by the new rules after it. Assumes
-- nothing.
use mathlib.Core.Path.{◌≡◌, refl, sym, ◌∙◌, ap, ap₂}
use mathlib.Core.Bool.{true, false, not, cond, ◌&&◌}
use mathlib.Core.List.{List, [], ◌∷◌}
use Prim.Native.Nat.{ℕ, ◌+◌, ◌-◌}
use native.Mathlib.Omega.{arith}
use borrow.Author.Tests.{ne_eqb}
use lib.Dec.{eqb, leb, ltb}
use lib.ListN.{length, set}
use Rattle.limits.specs.Errors.{Outcome, ◌otherwise◌, first_refusal}
use Rattle.limits.specs.declared.ErrorCode.TheVariants.{RecordOutOfOrder, NoSuchJob, NoFreeBuffers, NumbersUsedUp}
use Rattle.limits.proofs.Laws.{both_true}
use Rattle.limits.proofs.Checks.{all_hold}
use Rattle.kernel.specs.declared.Choice.{Choice}
use Rattle.kernel.specs.declared.Choice.TheVariants.{Smallest}
use Rattle.kernel.specs.Molecule.{units_of}
use Rattle.kernel.specs.Existence.{kernel_exists}
use Rattle.kernel.proofs.Bounds.{free_kernel}
use Rattle.covariance.specs.declared.Shape.{Shape}
use Rattle.machine.specs.declared.Slot.{Slot}
use Rattle.machine.specs.declared.Service.{Service}
use Rattle.machine.specs.Rules.{Rules, base_rules, with_choice}
use Rattle.machine.specs.Slots.{empty_slot, slot_at, is_empty, has_steps_left, has_number, next_place}
use Rattle.machine.specs.Store.{store_length, Workable, put, buffer_after}
use Rattle.machine.specs.Order.{in_order, usable}
use Rattle.machine.specs.Calls.{Result, Call, submit, tick, collect, withdraw, last_number, free_buffers, submitted_checks, submit_checks, empty_place, new_slot, submit_at, unless_refused, submit_of, kernel_of_slot, with_left, served_place, tick_checks, tick_at, tick_of, place_of, is_found, slot_found, emptied, collect_checks, collect_at, collect_of, withdraw_checks, withdraw_at, withdraw_of, free_count_with, free_count_of, call_of}
use Rattle.machine.specs.Change.{changed_slot, changed_over}
use Rattle.machine.specs.Commutes.{result_changed, naming_smallest, Commutes, ChangeCommutes, EveryChangeCommutes}
use Rattle.machine.proofs.Rules.{base_workable}
use Rattle.machine.proofs.Orderly.{filled_slot, left_filled, served_found}
use Rattle.machine.proofs.ChangeOver.{slot_changed, set_changed, find_changed, count_changed, order_changed}
use Rattle.machine.proofs.Kept.{stays_in_order}
use Rattle.std.specs.Prelude.{Option, Some, None, Ok, Err}
use Rattle.machine.specs.declared.Answer.TheVariants.{Job}

module _ (rules : Rules) (workable : Workable rules) (no-choice : rules.holds_choice ≡ false) (r : Service) where
  abbrev new : Rules
  new = with_choice rules

  -- ---- what the calls read of a record
  usable_same : (store : List ℕ) → usable new (changed_over r) store ≡ usable rules r store
  unfolding usable
  usable_same store = ap (λ t. t && eqb (length store) store_length) (order_changed rules no-choice r)

  free_same : free_buffers new (changed_over r) ≡ free_buffers rules r
  unfolding free_buffers
  free_same = rw (count_changed (λ s. not (is_empty s)) (λ s. refl) r.slots rules.slot_count)

  empty_same : empty_place new (changed_over r) ≡ empty_place rules r
  empty_same = find_changed is_empty (λ s. refl) r.slots rules.slot_count (next_place rules.slot_count r.filled) rules.slot_count

  served_same : served_place new (changed_over r) ≡ served_place rules r
  served_same = find_changed has_steps_left (λ s. refl) r.slots rules.slot_count (next_place rules.slot_count r.served) rules.slot_count

  place_same : (n : ℕ) → place_of new (changed_over r) n ≡ place_of rules r n
  place_same n = ap (cond (eqb n 0) None) (find_changed (has_number n) (λ s. refl) r.slots rules.slot_count 0 rules.slot_count)

  found_same : (f : Option ℕ) → slot_found (changed_over r) f ≡ changed_slot (slot_found r f)
  found_same (Some i) = slot_changed r i
  found_same None = refl

  -- a job goes on by the kernel that it had
  kernel_same : (s : Slot) → (s.number ≡ 0 → ⊥) → kernel_exists s.xx s.xy s.yy (units_of s.steps) ≡ true
      → kernel_of_slot new (changed_slot s) ≡ kernel_of_slot rules s
  kernel_same s filled exists = rw (no-choice, ne_eqb s.number 0 filled) (free_kernel Smallest s.xx s.xy s.yy s.steps exists)

  -- a slot that is set, before the change-over and after it
  set_same : (i : ℕ) (s : Slot) (last filled served : ℕ)
      → ◌≡◌ {A = Service} (record { slots = set (changed_over r).slots i (changed_slot s); last = last; filled = filled; served = served })
      (changed_over (record { slots = set r.slots i s; last = last; filled = filled; served = served }))
  set_same i s last filled served =
      ap (λ (xs : List Slot). let x : Service = record { slots = xs; last = last; filled = filled; served = served } in x) (sym (set_changed r.slots i s))

  emptied_same : (i : ℕ) → emptied (changed_over r) i ≡ changed_over (emptied r i)
  emptied_same i = set_same i empty_slot r.last r.filled r.served

  module _ (as_many : length r.slots ≡ rules.slot_count) (ordered : in_order rules r ≡ true) where
    module _ (store : List ℕ) where
      -- ---- submit: its slot holds what the change-over gives the slot of one by the old rules
      submit_checks_same : (shape : Shape) (k w h : ℕ) (pixels : List ℕ)
          → submit_checks new (changed_over r) store shape k w h pixels ≡ submit_checks rules r store shape k w h pixels
      unfolding submit_checks
      submit_checks_same shape k w h pixels =
          ap₂
          (λ t n. first_refusal ((t otherwise RecordOutOfOrder)
          ∷ submitted_checks shape k w h pixels
          ((leb rules.buffers_per_slot n otherwise NoFreeBuffers) ∷ (ltb r.last last_number otherwise NumbersUsedUp) ∷ [])))
          (usable_same store) free_same

      new_slot_same : (choice : Choice) (shape : Shape) (k w h : ℕ)
          → new_slot new (r.last + 1) Smallest shape k w h ≡ changed_slot (new_slot rules (r.last + 1) choice shape k w h)
      new_slot_same choice shape k w h = rw (ne_eqb (r.last + 1) 0 (λ x. omega arith))

      submit_same : (choice : Choice) (shape : Shape) (k w h : ℕ) (pixels : List ℕ)
          → submit_of new (changed_over r) store Smallest shape k w h pixels ≡ result_changed (submit_of rules r store choice shape k w h pixels)
      unfolding submit_of
      submit_same choice shape k w h pixels =
          ap₂ (λ o f. unless_refused o (changed_over r) store pixels (submit_at new (changed_over r) store Smallest shape k w h pixels f))
          (submit_checks_same shape k w h pixels) empty_same
          ∙ go (submit_checks rules r store shape k w h pixels) (empty_place rules r)
        where
          go : (o : Outcome) (f : Option ℕ)
              → unless_refused o (changed_over r) store pixels (submit_at new (changed_over r) store Smallest shape k w h pixels f)
              ≡ result_changed (unless_refused o r store pixels (submit_at rules r store choice shape k w h pixels f))
          go (Err code) f = refl
          go (Ok done) None = refl
          go (Ok done) (Some i) =
              let filled =
              ap (λ (s : Slot). let x : Service = record { slots = set (changed_over r).slots i s; last = r.last + 1; filled = i; served = r.served } in x) (new_slot_same choice shape k w h)
              ∙ set_same i (new_slot rules (r.last + 1) choice shape k w h) (r.last + 1) i r.served in
              ap (λ (x : Service). let y : Result = record { answer = Ok (Job (r.last + 1)); service = x; store = put (buffer_after rules i 0) pixels store; lent = pixels } in y) filled

      -- ---- tick
      tick_same : tick_of new (changed_over r) store ≡ result_changed (tick_of rules r store)
      unfolding tick_of
      tick_same =
          ap₂ (λ o f. unless_refused o (changed_over r) store [] (tick_at new (changed_over r) store f))
          (ap (λ t. first_refusal ((t otherwise RecordOutOfOrder) ∷ [])) (usable_same store)) served_same
          ∙ go (tick_checks rules r store) (served_place rules r) refl
        where
          stepped : (i : ℕ) → served_place rules r ≡ Some i
              → tick_at new (changed_over r) store (Some i) ≡ result_changed (tick_at rules r store (Some i))
          stepped i p =
              let s = slot_at r i in
              let g = served_found rules workable r i p in
              let filled = left_filled rules r ordered i g.0 g.1 in
              let kernel = kernel_same s filled (filled_slot rules r ordered i g.0 filled).kernel in
              rw (slot_changed r i, kernel, set_changed r.slots i (with_left s (s.left - 1)))

          go : (o : Outcome) (f : Option ℕ) → served_place rules r ≡ f
              → unless_refused o (changed_over r) store [] (tick_at new (changed_over r) store f) ≡ result_changed (unless_refused o r store [] (tick_at rules r store f))
          go (Err code) f p = refl
          go (Ok done) None p = refl
          go (Ok done) (Some i) p = stepped i p

      -- ---- collect and withdraw
      collect_checks_same : (n : ℕ) (lent : List ℕ) → collect_checks new (changed_over r) store n lent ≡ collect_checks rules r store n lent
      unfolding collect_checks
      collect_checks_same n lent = rw (usable_same store, place_same n, found_same (place_of rules r n))

      collect_same : (n : ℕ) (lent : List ℕ) → collect_of new (changed_over r) store n lent ≡ result_changed (collect_of rules r store n lent)
      unfolding collect_of
      collect_same n lent =
          ap₂ (λ o f. unless_refused o (changed_over r) store lent (collect_at new (changed_over r) store n lent f)) (collect_checks_same n lent) (place_same n)
          ∙ go (collect_checks rules r store n lent) (place_of rules r n)
        where
          go : (o : Outcome) (f : Option ℕ)
              → unless_refused o (changed_over r) store lent (collect_at new (changed_over r) store n lent f)
              ≡ result_changed (unless_refused o r store lent (collect_at rules r store n lent f))
          go (Err code) f = refl
          go (Ok done) None = refl
          go (Ok done) (Some i) = rw (slot_changed r i, emptied_same i)

      withdraw_same : (n : ℕ) → withdraw_of new (changed_over r) store n ≡ result_changed (withdraw_of rules r store n)
      unfolding withdraw_of
      withdraw_same n =
          ap₂ (λ o f. unless_refused o (changed_over r) store [] (withdraw_at (changed_over r) store n f))
          (ap₂ (λ t f. first_refusal ((t otherwise RecordOutOfOrder) ∷ (is_found f otherwise NoSuchJob) ∷ [])) (order_changed rules no-choice r) (place_same n)) (place_same n)
          ∙ go (withdraw_checks rules r n) (place_of rules r n)
        where
          go : (o : Outcome) (f : Option ℕ)
              → unless_refused o (changed_over r) store [] (withdraw_at (changed_over r) store n f) ≡ result_changed (unless_refused o r store [] (withdraw_at r store n f))
          go (Err code) f = refl
          go (Ok done) None = refl
          go (Ok done) (Some i) = rw (emptied_same i)

      call_same : (c : Call) → call_of new (changed_over r) store (naming_smallest c) ≡ result_changed (call_of rules r store c)
      call_same (submit choice shape k w h pixels) = submit_same choice shape k w h pixels
      call_same tick = tick_same
      call_same (collect n lent) = collect_same n lent
      call_same (withdraw n) = withdraw_same n

      commutes : (c : Call) → Commutes rules r store c
      commutes c =
          record {
            accepted_after =
                ap₂ (λ choice t. first_refusal (((not choice && t) otherwise RecordOutOfOrder) ∷ [])) no-choice (stays_in_order rules workable r as_many ordered store c);
            same = call_same c;
          }

    all_commute : ChangeCommutes rules r
    unfolding free_count_of
    all_commute =
        record {
          calls = commutes;
          counts = ap₂ (λ t n. free_count_with (first_refusal ((t otherwise RecordOutOfOrder) ∷ [])) n) (order_changed rules no-choice r) free_same;
        }

-- THE CHANGE-OVER COMMUTES WITH EVERY CALL
pub change_commutes : (rules : Rules) → Workable rules → rules.holds_choice ≡ false → EveryChangeCommutes rules
change_commutes rules workable no-choice r as_many accepted =
    let taken = (all_hold (((not rules.holds_choice && in_order rules r) otherwise RecordOutOfOrder) ∷ []) accepted).0 in
    all_commute rules workable no-choice r as_many (both_true (not rules.holds_choice) (in_order rules r) taken).1

pub base_change_commutes : EveryChangeCommutes base_rules
base_change_commutes = change_commutes base_rules base_workable refl
