-- A record in order stays in order by each call, by any rules and at any store, whether a list of calls leads there or not: a call
-- sets one slot at most. Assumes nothing.
use mathlib.Core.Path.{◌≡◌, refl, sym, ◌∙◌}
use mathlib.Core.Bool.{Bool, true, false, cond, ◌&&◌, true≢false}
use mathlib.Core.List.{List, [], ◌∷◌}
use Prim.Native.Nat.{ℕ, zero, suc, ◌+◌, ◌-◌, ◌≤◌, ◌<◌}
use native.Mathlib.Nat.{le_refl, le_trans}
use native.Mathlib.Omega.{arith}
use borrow.Author.Tests.{le-leb, eq-eqb, ne_eqb, eqb-true, eqb-false}
use lib.Dec.{eqb}
use lib.ListN.{length, get_or, set}
use lib.Seq.{get_or-set_same, get_or-set_other}
use Rattle.limits.specs.Errors.{Outcome, Check, ◌otherwise◌}
use Rattle.limits.specs.declared.ErrorCode.TheVariants.{RecordOutOfOrder}
use Rattle.limits.proofs.Laws.{both_true}
use Rattle.limits.proofs.Checks.{AllHold, all_hold}
use Rattle.kernel.specs.declared.Choice.{Choice}
use Rattle.kernel.specs.Molecule.{units_of}
use Rattle.kernel.specs.Choice.{free_by}
use Rattle.kernel.specs.Existence.{kernel_exists, free_fits}
use Rattle.kernel.proofs.Bounds.{choice_fits}
use Rattle.covariance.specs.declared.Shape.{Shape}
use Rattle.covariance.specs.Shapes.{covariance_xx, covariance_xy, covariance_yy}
use Rattle.machine.specs.declared.Slot.{Slot}
use Rattle.machine.specs.declared.Service.{Service}
use Rattle.machine.specs.Rules.{Rules}
use Rattle.machine.specs.Slots.{empty_slot, slot_at, has_number, count_of}
use Rattle.machine.specs.Store.{Workable}
use Rattle.machine.specs.Order.{FilledSlot, all_zero, filled_fine, free_fine, unshared, slot_fine, in_order, usable}
use Rattle.machine.specs.Calls.{Call, submit, tick, collect, withdraw, submitted_checks, room_checks, submit_checks, empty_place, new_slot, submit_at, unless_refused, submit_of, with_left, served_place, tick_checks, tick_at, tick_of, place_of, collect_checks, collect_at, collect_of, withdraw_checks, withdraw_at, withdraw_of, emptied, call_of}
use Rattle.machine.proofs.Search.{count_set}
use Rattle.machine.proofs.Invariant.{count_none}
use Rattle.machine.proofs.Orderly.{slot_fine_lem, order_made, filled_lt, served_lt, filled_slot, left_filled, empty_found, served_found, place_found}
use Rattle.std.specs.Prelude.{Option, Some, None, Ok, Err}

-- where a count is 0, no slot passes
counted_none : (test : Slot → Bool) (xs : List Slot) (n : ℕ) → count_of test xs n ≡ 0 → (i : ℕ) → i < n → test (get_or xs i empty_slot) ≡ false
unfolding count_of
counted_none test xs zero e i h = absurd (omega arith)
counted_none test xs (suc n) e i h = go (test (get_or xs n empty_slot)) refl e (counted_none test xs n)
  where
    go : (t : Bool) → test (get_or xs n empty_slot) ≡ t → cond t (count_of test xs n + 1) (count_of test xs n) ≡ 0
        → (count_of test xs n ≡ 0 → (i : ℕ) → i < n → test (get_or xs i empty_slot) ≡ false) → test (get_or xs i empty_slot) ≡ false
    go true q e f = absurd (omega arith)
    go false q e f = at (eqb i n) refl
      where
        at : (t : Bool) → eqb i n ≡ t → test (get_or xs i empty_slot) ≡ false
        at true z = rw (eqb-true i n z) q
        at false z = let ne = eqb-false i n z in f e i (omega arith)

-- ---- one slot's test, from its parts
pub filled_made : (rules : Rules) (last : ℕ) (s : Slot) → FilledSlot rules last s → filled_fine rules last s ≡ true
unfolding filled_fine
filled_made rules last s f =
    rw (f.steps, f.kernel, f.free, f.sides, f.fits, le-leb s.number last f.number, le-leb s.left s.steps f.left)

pub slot_made : (rules : Rules) (r : Service) (s : Slot) → (s.number ≡ 0 → all_zero rules s ≡ true)
    → ((s.number ≡ 0 → ⊥) → FilledSlot rules r.last s × (count_of (has_number s.number) r.slots rules.slot_count ≡ 1))
    → slot_fine rules r s ≡ true
unfolding slot_fine
slot_made rules r s empty filled = go (eqb s.number 0) refl
  where
    go : (t : Bool) → eqb s.number 0 ≡ t → slot_fine rules r s ≡ true
    go true e = rw (e, empty (eqb-true s.number 0 e))
    go false e = let w = filled (eqb-false s.number 0 e) in rw (e, filled_made rules r.last s w.0, w.1)

-- ---- what else order says of a slot
module _ (rules : Rules) (r : Service) (ordered : in_order rules r ≡ true) where
  pub empty_zero : (i : ℕ) → i < rules.slot_count → (slot_at r i).number ≡ 0 → all_zero rules (slot_at r i) ≡ true
  unfolding slot_fine
  empty_zero i h e = rw (eq-eqb (slot_at r i).number 0 e) at (slot_fine_lem rules r ordered i h)

  pub number_once : (i : ℕ) → i < rules.slot_count → ((slot_at r i).number ≡ 0 → ⊥)
      → count_of (has_number (slot_at r i).number) r.slots rules.slot_count ≡ 1
  unfolding slot_fine
  number_once i h ne =
      let s = slot_at r i in
      let e : (filled_fine rules r.last s && unshared rules r.slots s) ≡ true = rw (ne_eqb s.number 0 ne) at (slot_fine_lem rules r ordered i h) in
      eqb-true (count_of (has_number s.number) r.slots rules.slot_count) 1 (both_true (filled_fine rules r.last s) (unshared rules r.slots s) e).1

  module _ (as_many : length r.slots ≡ rules.slot_count) where
    -- no two slots have one number
    pub numbers_differ : (i j : ℕ) → i < rules.slot_count → j < rules.slot_count → (j ≡ i → ⊥) → ((slot_at r i).number ≡ 0 → ⊥)
        → (slot_at r j).number ≡ (slot_at r i).number → ⊥
    numbers_differ i j hi hj away ne e =
        let n = (slot_at r i).number in
        let c = count_set (has_number n) r.slots i empty_slot rules.slot_count hi (omega arith) in
        let old : has_number n (slot_at r i) ≡ true = eq-eqb n n refl in
        let new : has_number n empty_slot ≡ false = ne_eqb 0 n (λ x. ne (sym x)) in
        let d = rw (old, new, number_once i hi ne) at c in
        let z = counted_none (has_number n) (set r.slots i empty_slot) rules.slot_count (omega arith) j hj in
        let q : has_number n (slot_at r j) ≡ false = rw (get_or-set_other r.slots i j empty_slot empty_slot away) at z in
        true≢false (sym (eq-eqb (slot_at r j).number n e) ∙ q)

    -- ---- one slot is set, to one that passes and whose number, if it has one, is no other slot's
    module _ (i : ℕ) (at : i < rules.slot_count) (s : Slot) (last filled served : ℕ) where
      abbrev made : Service
      made = record { slots = set r.slots i s; last = last; filled = filled; served = served }

      set_keeps : r.last ≤ last → filled < rules.slot_count → served < rules.slot_count
          → (s.number ≡ 0 → all_zero rules s ≡ true) → ((s.number ≡ 0 → ⊥) → FilledSlot rules last s)
          → ((j : ℕ) → j < rules.slot_count → (j ≡ i → ⊥) → (s.number ≡ 0 → ⊥) → (slot_at r j).number ≡ s.number → ⊥)
          → in_order rules made ≡ true
      set_keeps grows f v zeros fills apart = order_made rules made f v fine
        where
          inside : i < length r.slots
          inside = omega arith

          own : (s.number ≡ 0 → ⊥) → count_of (has_number s.number) (set r.slots i s) rules.slot_count ≡ 1
          own ne =
              let n = s.number in
              let size = rules.slot_count in
              let a = count_set (has_number n) r.slots i s size at inside in
              let b = count_set (has_number n) r.slots i empty_slot size at inside in
              let mine : has_number n s ≡ true = eq-eqb n n refl in
              let none : has_number n empty_slot ≡ false = ne_eqb 0 n (λ x. ne (sym x)) in
              let others : count_of (has_number n) (set r.slots i empty_slot) size ≡ 0
              = count_none (has_number n) (set r.slots i empty_slot) size (λ j h. go j h (eqb j i) refl none) in
              let c = rw mine at a in
              let d = rw (none, others) at b in
              omega arith
            where
              go : (j : ℕ) → j < rules.slot_count → (t : Bool) → eqb j i ≡ t → has_number s.number empty_slot ≡ false
                  → has_number s.number (get_or (set r.slots i empty_slot) j empty_slot) ≡ false
              go j h true e none = rw (eqb-true j i e, get_or-set_same r.slots i empty_slot empty_slot inside) none
              go j h false e none =
                  let away = eqb-false j i e in
                  rw (get_or-set_other r.slots i j empty_slot empty_slot away) (ne_eqb (slot_at r j).number s.number (apart j h away ne))

          other : (j : ℕ) → j < rules.slot_count → (j ≡ i → ⊥) → ((slot_at r j).number ≡ 0 → ⊥)
              → count_of (has_number (slot_at r j).number) (set r.slots i s) rules.slot_count ≡ 1
          other j h away ne =
              let n = (slot_at r j).number in
              let a = count_set (has_number n) r.slots i s rules.slot_count at inside in
              let old : has_number n (slot_at r i) ≡ false = ne_eqb (slot_at r i).number n (numbers_differ j i h at (λ x. away (sym x)) ne) in
              let new : has_number n s ≡ false = ne_eqb s.number n (λ x. apart j h away (λ z. ne (sym x ∙ z)) (sym x)) in
              let c = rw (old, new, number_once j h ne) at a in
              omega arith

          fine : (j : ℕ) → j < rules.slot_count → slot_fine rules made (slot_at made j) ≡ true
          fine j h = go (eqb j i) refl
            where
              go : (t : Bool) → eqb j i ≡ t → slot_fine rules made (slot_at made j) ≡ true
              go true e = rw (eqb-true j i e, get_or-set_same r.slots i s empty_slot inside) (slot_made rules made s zeros (λ ne. (fills ne, own ne)))
              go false e =
                  let away = eqb-false j i e in
                  rw (get_or-set_other r.slots i j s empty_slot away)
                  (slot_made rules made (slot_at r j) (empty_zero j h)
                  (λ ne. let w = filled_slot rules r ordered j h ne in (
                    record { steps = w.steps; kernel = w.kernel; free = w.free; sides = w.sides; fits = w.fits; number = le_trans w.number grows; left = w.left },
                    other j h away ne,
                  )))

    -- ---- the calls
    module _ (workable : Workable rules) (store : List ℕ) where
      abbrev tests : Shape → ℕ → ℕ → ℕ → List ℕ → List Check
      tests shape k w h pixels = (usable rules r store otherwise RecordOutOfOrder) ∷ submitted_checks shape k w h pixels (room_checks rules r)

      -- the number of a new job is above every other
      submit_keeps : (choice : Choice) (shape : Shape) (k w h : ℕ) (pixels : List ℕ) → in_order rules (submit_of rules r store choice shape k w h pixels).service ≡ true
      unfolding submit_of submit_checks
      submit_keeps choice shape k w h pixels = go (submit_checks rules r store shape k w h pixels) refl (empty_place rules r) refl
        where
          fits : kernel_exists (covariance_xx shape) (covariance_xy shape) (covariance_yy shape) (units_of k) ≡ true
              → free_fine rules (new_slot rules (r.last + 1) choice shape k w h) ≡ true
          fits e = which rules.holds_choice
            where
              which : (t : Bool)
                  → cond t
                  (free_fits (covariance_xx shape) (covariance_xy shape) (covariance_yy shape) (cond t (free_by choice (covariance_xx shape) (covariance_xy shape) (covariance_yy shape) k) 0) (units_of k))
                  true ≡ true
              which true = choice_fits choice (covariance_xx shape) (covariance_xy shape) (covariance_yy shape) k e
              which false = refl

          fills : AllHold (tests shape k w h pixels) → FilledSlot rules (r.last + 1) (new_slot rules (r.last + 1) choice shape k w h)
          fills all =
              record {
                steps = all.1.1.1.0;
                kernel = all.1.1.1.1.1.1.1.0;
                free = fits all.1.1.1.1.1.1.1.0;
                sides = all.1.1.1.1.0;
                fits = all.1.1.1.1.1.1.0;
                number = le_refl (r.last + 1);
                left = le_refl k;
              }

          above : (j : ℕ) → j < rules.slot_count → (slot_at r j).number ≡ r.last + 1 → ⊥
          above j g e = let x = (filled_slot rules r ordered j g (λ z. omega arith)).number in omega arith

          go : (o : Outcome) → submit_checks rules r store shape k w h pixels ≡ o → (f : Option ℕ) → empty_place rules r ≡ f
              → in_order rules (unless_refused o r store pixels (submit_at rules r store choice shape k w h pixels f)).service ≡ true
          go (Err code) e f p = ordered
          go (Ok done) e None p = ordered
          go (Ok done) e (Some i) p =
              set_keeps i (empty_found rules workable r i p).0 (new_slot rules (r.last + 1) choice shape k w h) (r.last + 1) i r.served (omega arith) (empty_found rules workable r i p).0
              (served_lt rules r ordered) (λ z. absurd (omega arith)) (λ ne. fills (all_hold (tests shape k w h pixels) e)) (λ j g away ne x. above j g x)

      -- one step less, with the same number
      tick_keeps : in_order rules (tick_of rules r store).service ≡ true
      unfolding tick_of
      tick_keeps = go (tick_checks rules r store) (served_place rules r) refl
        where
          go : (o : Outcome) → (f : Option ℕ) → served_place rules r ≡ f → in_order rules (unless_refused o r store [] (tick_at rules r store f)).service ≡ true
          go (Err code) f p = ordered
          go (Ok done) None p = ordered
          go (Ok done) (Some i) p =
              let g = served_found rules workable r i p in
              let ne = left_filled rules r ordered i g.0 g.1 in
              let w = filled_slot rules r ordered i g.0 ne in
              set_keeps i g.0 (with_left (slot_at r i) ((slot_at r i).left - 1)) r.last r.filled i (le_refl r.last) (filled_lt rules r ordered) g.0 (λ z. absurd (ne z))
              (λ x. record { steps = w.steps; kernel = w.kernel; free = w.free; sides = w.sides; fits = w.fits; number = w.number; left = omega (arith, w.left) })
              (λ j h away x. numbers_differ i j g.0 h away x)

      -- a slot that is emptied
      emptied_keeps : (i : ℕ) → i < rules.slot_count → in_order rules (emptied r i) ≡ true
      unfolding all_zero
      emptied_keeps i h =
          set_keeps i h empty_slot r.last r.filled r.served (le_refl r.last) (filled_lt rules r ordered) (served_lt rules r ordered) (λ z. zeros rules.holds_choice)
          (λ ne. absurd (ne refl)) (λ j g away ne x. ne refl)
        where
          zeros : (t : Bool) → cond t true true ≡ true
          zeros true = refl
          zeros false = refl

      collect_keeps : (n : ℕ) (lent : List ℕ) → in_order rules (collect_of rules r store n lent).service ≡ true
      unfolding collect_of
      collect_keeps n lent = go (collect_checks rules r store n lent) (place_of rules r n) refl
        where
          go : (o : Outcome) → (f : Option ℕ) → place_of rules r n ≡ f → in_order rules (unless_refused o r store lent (collect_at rules r store n lent f)).service ≡ true
          go (Err code) f p = ordered
          go (Ok done) None p = ordered
          go (Ok done) (Some i) p = emptied_keeps i (place_found rules workable r n i p).0

      withdraw_keeps : (n : ℕ) → in_order rules (withdraw_of rules r store n).service ≡ true
      unfolding withdraw_of
      withdraw_keeps n = go (withdraw_checks rules r n) (place_of rules r n) refl
        where
          go : (o : Outcome) → (f : Option ℕ) → place_of rules r n ≡ f → in_order rules (unless_refused o r store [] (withdraw_at r store n f)).service ≡ true
          go (Err code) f p = ordered
          go (Ok done) None p = ordered
          go (Ok done) (Some i) p = emptied_keeps i (place_found rules workable r n i p).0

pub stays_in_order : (rules : Rules) → Workable rules → (r : Service) → length r.slots ≡ rules.slot_count → in_order rules r ≡ true
    → (store : List ℕ) (c : Call) → in_order rules (call_of rules r store c).service ≡ true
stays_in_order rules workable r as_many ordered store (submit choice shape k w h pixels) = submit_keeps rules r ordered as_many workable store choice shape k w h pixels
stays_in_order rules workable r as_many ordered store tick = tick_keeps rules r ordered as_many workable store
stays_in_order rules workable r as_many ordered store (collect n lent) = collect_keeps rules r ordered as_many workable store n lent
stays_in_order rules workable r as_many ordered store (withdraw n) = withdraw_keeps rules r ordered as_many workable store n
