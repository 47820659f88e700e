-- What a record that is in order says of each slot, and what the calls' searches find in it: the facts that the running calls work
-- with, by any rules. Assumes nothing.
use mathlib.Core.Path.{◌≡◌, refl}
use mathlib.Core.Bool.{Bool, true, false, not, cond, ◌&&◌}
use Prim.Native.Nat.{ℕ, ◌<◌}
use native.Mathlib.Omega.{arith}
use borrow.Author.Tests.{lt-ltb, eqb-true, eqb-false, ne_eqb, ltb-true, leb-true, eq-eqb}
use lib.Dec.{eqb, ltb, leb}
use Rattle.limits.proofs.Laws.{both_true}
use Rattle.limits.specs.Limits.{steps_in_range, sides_in_range, fits_buffer}
use Rattle.kernel.specs.Molecule.{units_of}
use Rattle.kernel.specs.Existence.{kernel_exists}
use Rattle.machine.specs.declared.Slot.{Slot}
use Rattle.machine.specs.declared.Service.{Service}
use Rattle.machine.specs.Rules.{Rules}
use Rattle.machine.specs.Slots.{slot_at, is_empty, has_steps_left, has_number, next_place, first_from, count_of, every_slot}
use Rattle.machine.specs.Store.{Workable}
use Rattle.machine.specs.Calls.{empty_place, served_place, place_of}
use Rattle.machine.proofs.Search.{hit, found, distance, next_lt}
use Rattle.machine.proofs.Counts.{some_empty, every_each, every_made}
use Rattle.machine.specs.Order.{FilledSlot, is_zero, free_zero, free_fine, all_zero, filled_fine, unshared, slot_fine, in_order}
use Rattle.std.specs.Prelude.{Some, None}

module _ (rules : Rules) (r : Service) (ordered : in_order rules r ≡ true) where
  parts : (every_slot (slot_fine rules r) r.slots rules.slot_count ≡ true) × ((ltb r.filled rules.slot_count && ltb r.served rules.slot_count) ≡ true)
  unfolding in_order
  parts = both_true (every_slot (slot_fine rules r) r.slots rules.slot_count) (ltb r.filled rules.slot_count && ltb r.served rules.slot_count) ordered

  pub filled_lt : r.filled < rules.slot_count
  filled_lt = ltb-true r.filled rules.slot_count (both_true (ltb r.filled rules.slot_count) (ltb r.served rules.slot_count) parts.1).0

  pub served_lt : r.served < rules.slot_count
  served_lt = ltb-true r.served rules.slot_count (both_true (ltb r.filled rules.slot_count) (ltb r.served rules.slot_count) parts.1).1

  pub slot_fine_lem : (i : ℕ) → i < rules.slot_count → slot_fine rules r (slot_at r i) ≡ true
  slot_fine_lem i h = every_each (λ k. slot_fine rules r (slot_at r k)) rules.slot_count i h parts.0

  pub filled_slot : (i : ℕ) → i < rules.slot_count → ((slot_at r i).number ≡ 0 → ⊥) → FilledSlot rules r.last (slot_at r i)
  unfolding slot_fine filled_fine
  filled_slot i h ne =
      let s = slot_at r i in
      let e : (filled_fine rules r.last s && unshared rules r.slots s) ≡ true = rw (ne_eqb s.number 0 ne) at (slot_fine_lem i h) in
      let steps = steps_in_range s.steps in
      let kernel = kernel_exists s.xx s.xy s.yy (units_of s.steps) in
      let sides = sides_in_range s.width s.height in
      let fits = fits_buffer s.width s.height in
      let number = leb s.number r.last in
      let left = leb s.left s.steps in
      let free = free_fine rules s in
      let all = (both_true ((steps && (kernel && free)) && (sides && (fits && (number && left)))) (unshared rules r.slots s) e).0 in
      let a = both_true (steps && (kernel && free)) (sides && (fits && (number && left))) all in
      let b = both_true steps (kernel && free) a.0 in
      let k = both_true kernel free b.1 in
      let c = both_true sides (fits && (number && left)) a.1 in
      let d = both_true fits (number && left) c.1 in
      let f = both_true number left d.1 in
      record {
        steps = b.0;
        kernel = k.0;
        free = k.1;
        sides = c.0;
        fits = d.0;
        number = leb-true s.number r.last f.0;
        left = leb-true s.left s.steps f.1;
      }

  -- a slot with steps left is filled
  pub left_filled : (i : ℕ) → i < rules.slot_count → 0 < (slot_at r i).left → (slot_at r i).number ≡ 0 → ⊥
  unfolding slot_fine all_zero
  left_filled i h l e =
      let s = slot_at r i in
      let z : all_zero rules s ≡ true = rw (eq-eqb s.number 0 e) at (slot_fine_lem i h) in
      let a = both_true (is_zero s.xx) (is_zero s.xy && (is_zero s.yy && (eqb s.steps 0 && (eqb s.left 0 && (eqb s.width 0 && (eqb s.height 0 && free_zero rules s)))))) z in
      let b = both_true (is_zero s.xy) (is_zero s.yy && (eqb s.steps 0 && (eqb s.left 0 && (eqb s.width 0 && (eqb s.height 0 && free_zero rules s))))) a.1 in
      let c = both_true (is_zero s.yy) (eqb s.steps 0 && (eqb s.left 0 && (eqb s.width 0 && (eqb s.height 0 && free_zero rules s)))) b.1 in
      let d = both_true (eqb s.steps 0) (eqb s.left 0 && (eqb s.width 0 && (eqb s.height 0 && free_zero rules s))) c.1 in
      let f = both_true (eqb s.left 0) (eqb s.width 0 && (eqb s.height 0 && free_zero rules s)) d.1 in
      let g = eqb-true s.left 0 f.0 in
      omega arith

-- and a record whose slots and named slots pass is in order
pub order_made : (rules : Rules) (r : Service) → r.filled < rules.slot_count → r.served < rules.slot_count
    → ((i : ℕ) → i < rules.slot_count → slot_fine rules r (slot_at r i) ≡ true) → in_order rules r ≡ true
unfolding in_order
order_made rules r f s fine =
    rw (every_made (λ k. slot_fine rules r (slot_at r k)) rules.slot_count fine, lt-ltb r.filled rules.slot_count f, lt-ltb r.served rules.slot_count s)

-- ---- what the calls' searches find: a slot, and one that passes
module _ (rules : Rules) (workable : Workable rules) (r : Service) where
  -- in a search over all slots from the one after a place on
  found_from : (test : Slot → Bool) (from i : ℕ) → first_from test r.slots rules.slot_count (next_place rules.slot_count from) rules.slot_count ≡ Some i
      → (i < rules.slot_count) × (test (slot_at r i) ≡ true)
  found_from test from i e =
      let size = rules.slot_count in
      let some = workable.some_slot in
      found test r.slots size some size (next_place size from) i (next_lt size from some) e

  -- where fewer slots are filled than there are, an empty one is found
  pub empty_there : count_of (λ s. not (is_empty s)) r.slots rules.slot_count < rules.slot_count → (i : ℕ) × (empty_place rules r ≡ Some i)
  empty_there few =
      let size = rules.slot_count in
      let from = next_place size r.filled in
      let start = next_lt size r.filled workable.some_slot in
      let s = some_empty r.slots size few in
      let d = distance size from s.0 start s.1 in
      let g = hit is_empty r.slots size s.0 s.2 s.1 size from d.0 start d.1 d.2 (omega arith) in
      (g.at, g.is)

  pub empty_found : (i : ℕ) → empty_place rules r ≡ Some i → (i < rules.slot_count) × ((slot_at r i).number ≡ 0)
  empty_found i e = let w = found_from is_empty r.filled i e in (w.0, eqb-true (slot_at r i).number 0 w.1)

  pub served_found : (i : ℕ) → served_place rules r ≡ Some i → (i < rules.slot_count) × (0 < (slot_at r i).left)
  served_found i e = let w = found_from has_steps_left r.served i e in (w.0, ltb-true 0 (slot_at r i).left w.1)

  pub place_found : (n i : ℕ) → place_of rules r n ≡ Some i → (i < rules.slot_count) × ((slot_at r i).number ≡ n) × (n ≡ 0 → ⊥)
  place_found n i = go (eqb n 0) refl
    where
      go : (t : Bool) → eqb n 0 ≡ t → cond t None (first_from (has_number n) r.slots rules.slot_count 0 rules.slot_count) ≡ Some i
          → (i < rules.slot_count) × ((slot_at r i).number ≡ n) × (n ≡ 0 → ⊥)
      go true z e = absurd (let q : ◌≡◌ {A = ℕ} 0 1 = cc in omega arith)
      go false z e =
          let w = found (has_number n) r.slots rules.slot_count workable.some_slot rules.slot_count 0 i workable.some_slot e in
          (w.0, eqb-true (slot_at r i).number n w.1, eqb-false n 0 z)
