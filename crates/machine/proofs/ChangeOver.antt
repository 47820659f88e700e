-- A record that has changed over: what its slots are, what searches and counts over them find, and that it is in order exactly where it was.
-- Assumes nothing.
use mathlib.Core.Path.{◌≡◌, refl, ◌∙◌, ap}
use mathlib.Core.Bool.{Bool, true, false, cond, ◌&&◌}
use mathlib.Core.List.{List, [], ◌∷◌, map}
use Prim.Native.Nat.{ℕ, zero, suc}
use lib.Dec.{eqb, leb}
use lib.ListN.{length, length-map, get_or, set}
use Rattle.limits.specs.Limits.{steps_in_range, sides_in_range, fits_buffer}
use Rattle.kernel.specs.declared.Choice.TheVariants.{Smallest}
use Rattle.kernel.specs.Molecule.{units_of}
use Rattle.kernel.specs.Existence.{kernel_exists, free_fits}
use Rattle.kernel.specs.Choice.{free_by}
use Rattle.kernel.proofs.Bounds.{choice_fits}
use Rattle.machine.specs.declared.Slot.{Slot}
use Rattle.machine.specs.declared.Service.{Service}
use Rattle.machine.specs.Rules.{Rules, with_choice}
use Rattle.machine.specs.Slots.{empty_slot, slot_at, is_empty, has_number, next_place, first_from, count_of, every_place}
use Rattle.machine.specs.Order.{is_zero, all_zero, filled_fine, unshared, slot_fine, in_order}
use Rattle.machine.specs.Change.{changed_slot, changed_over}
use Rattle.machine.proofs.Search.{count_same}

-- an entry of a mapped list
pub mapped_at : {A B : Type 0} (f : A → B) (d : A) (xs : List A) (i : ℕ) → get_or (map f xs) i (f d) ≡ f (get_or xs i d)
mapped_at f d [] i = refl
mapped_at f d (x ∷ xs) zero = refl
mapped_at f d (x ∷ xs) (suc i) = mapped_at f d xs i

-- each slot is the one that was there, with its f
pub slot_changed : (r : Service) (i : ℕ) → slot_at (changed_over r) i ≡ changed_slot (slot_at r i)
slot_changed r i = mapped_at changed_slot empty_slot r.slots i

pub many_changed : (r : Service) → length (changed_over r).slots ≡ length r.slots
many_changed r = length-map r.slots changed_slot

-- a slot that is set before the change-over is set after it, with its f
pub set_changed : (xs : List Slot) (i : ℕ) (s : Slot) → map changed_slot (set xs i s) ≡ set (map changed_slot xs) i (changed_slot s)
set_changed [] i s = refl
set_changed (x ∷ xs) zero s = refl
set_changed (x ∷ xs) (suc i) s = ap (λ (l : List Slot). changed_slot x ∷ l) (set_changed xs i s)

-- ---- searches and counts that do not look at f
module _ (test : Slot → Bool) (blind : (s : Slot) → test (changed_slot s) ≡ test s) (xs : List Slot) where
  tested : (i : ℕ) → test (get_or (map changed_slot xs) i empty_slot) ≡ test (get_or xs i empty_slot)
  tested i = ap test (mapped_at changed_slot empty_slot xs i) ∙ blind (get_or xs i empty_slot)

  pub find_changed : (size place n : ℕ) → first_from test (map changed_slot xs) size place n ≡ first_from test xs size place n
  unfolding first_from
  find_changed size place zero = refl
  find_changed size place (suc n) = rw (tested place, find_changed size (next_place size place) n)

  pub count_changed : (n : ℕ) → count_of test (map changed_slot xs) n ≡ count_of test xs n
  count_changed n = count_same test test (map changed_slot xs) xs n (λ i h. tested i)

-- ---- order
every_alike : (a b : ℕ → Bool) (n : ℕ) → ((i : ℕ) → a i ≡ b i) → every_place a n ≡ every_place b n
unfolding every_place
every_alike a b zero f = refl
every_alike a b (suc n) f = rw (every_alike a b n f, f n)

module _ (rules : Rules) (no-choice : rules.holds_choice ≡ false) where
  -- the smallest f lies between its bounds exactly where a kernel exists
  module _ (s : Slot) where
    abbrev exists : Bool
    exists = kernel_exists s.xx s.xy s.yy (units_of s.steps)

    abbrev fits : Bool
    fits = free_fits s.xx s.xy s.yy (free_by Smallest s.xx s.xy s.yy s.steps) (units_of s.steps)

    smallest_fits : (exists && fits) ≡ (exists && true)
    smallest_fits = go exists refl
      where
        go : (t : Bool) → exists ≡ t → (t && fits) ≡ (t && true)
        go true e = choice_fits Smallest s.xx s.xy s.yy s.steps e
        go false e = refl

  -- of an empty slot, whose f is 0 after the change-over, and of a filled one
  of_each : (zeros : Bool → Bool) (filled : ℕ → Bool) (old : Bool) (f : ℕ) → filled f ≡ old → (t : Bool)
      → cond t (zeros (eqb (cond t 0 f) 0)) (filled (cond t 0 f)) ≡ cond t (zeros true) old
  of_each zeros filled old f e true = refl
  of_each zeros filled old f e false = e

  pub fine_changed : (r : Service) (s : Slot) → slot_fine (with_choice rules) (changed_over r) (changed_slot s) ≡ slot_fine rules r s
  unfolding slot_fine all_zero filled_fine
  fine_changed r s =
      let rest = sides_in_range s.width s.height && (fits_buffer s.width s.height && (leb s.number r.last && leb s.left s.steps)) in
      let single = unshared rules r.slots s in
      rw (no-choice, count_changed (has_number s.number) (λ x. refl) r.slots rules.slot_count)
      (of_each
      (λ z. is_zero s.xx && (is_zero s.xy && (is_zero s.yy && (eqb s.steps 0 && (eqb s.left 0 && (eqb s.width 0 && (eqb s.height 0 && z)))))))
      (λ f. ((steps_in_range s.steps && (exists s && free_fits s.xx s.xy s.yy f (units_of s.steps))) && rest) && single)
      (((steps_in_range s.steps && (exists s && true)) && rest) && single)
      (free_by Smallest s.xx s.xy s.yy s.steps)
      (ap (λ b. ((steps_in_range s.steps && b) && rest) && single) (smallest_fits s)) (is_empty s))

  -- THE NEW RECORD IS IN ORDER BY THE NEW RULES EXACTLY WHERE THE OLD ONE IS BY THE OLD
  pub order_changed : (r : Service) → in_order (with_choice rules) (changed_over r) ≡ in_order rules r
  unfolding in_order
  order_changed r =
      rw (every_alike (λ i. slot_fine (with_choice rules) (changed_over r) (slot_at (changed_over r) i)) (λ i. slot_fine rules r (slot_at r i)) rules.slot_count
      (λ i. ap (slot_fine (with_choice rules) (changed_over r)) (slot_changed r i) ∙ fine_changed r (slot_at r i)))
