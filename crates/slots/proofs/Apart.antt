-- The slots whose numbers are new at their places are those whose numbers are unshared, for all of them together, whatever their number: a number that
-- stands at a place occurs more often after it than before. Assumes nothing.
use mathlib.Core.Path.{◌≡◌, refl, sym, ◌∙◌}
use mathlib.Core.Bool.{Bool, true, false, not, cond, ◌&&◌, ◌||◌}
use mathlib.Core.List.{List}
use Prim.Native.Nat.{ℕ, zero, suc, ◌+◌, ◌<◌, ◌≤◌}
use native.Mathlib.Omega.{arith}
use borrow.Author.Tests.{eq-eqb, ne_eqb, eqb-true, eqb-false}
use lib.Dec.{eqb}
use lib.ListN.{length, take, get_or}
use Rattle.std.specs.List.{list_any}
use Rattle.std.proofs.lemmas.List.Folds.{list_any_more}
use Rattle.std.proofs.lemmas.List.{get_or-take, length-take-le}
use Rattle.std.proofs.Math.Bool.{or-true, or-false}
use native.Mathlib.Numerals.{add-one}
use Rattle.limits.proofs.Laws.{both_true}
use Rattle.averaging.proofs.Images.{entry}
use Rattle.machine.specs.declared.Slot.{Slot}
use Rattle.machine.specs.declared.Service.{Service}
use Rattle.machine.specs.Rules.{Rules}
use Rattle.machine.specs.Slots.{slot_at, is_empty, has_number, count_of, every_place, every_slot}
use Rattle.machine.specs.Order.{all_zero, filled_fine, unshared, slot_fine}
use Rattle.machine.proofs.Counts.{every_same}
use Rattle.slots.specs.Numbers.{number_at, numbers_of, occurrences_of, slot_fine_after}

-- ---- the count of a number
module _ (numbers : List ℕ) (number : ℕ) where
  pub occurs_hit : (n m : ℕ) → m ≡ suc n → get_or numbers n 0 ≡ number → occurrences_of numbers number m ≡ occurrences_of numbers number n + 1
  unfolding occurrences_of
  occurs_hit n m q e = rw (q, eq-eqb (get_or numbers n 0) number e)

  pub occurs_miss : (n m : ℕ) → m ≡ suc n → (get_or numbers n 0 ≡ number → ⊥) → occurrences_of numbers number m ≡ occurrences_of numbers number n
  unfolding occurrences_of
  occurs_miss n m q e = rw (q, ne_eqb (get_or numbers n 0) number e)

  occurs_more : (n : ℕ) → occurrences_of numbers number n ≤ occurrences_of numbers number (suc n)
  occurs_more n = go (eqb (get_or numbers n 0) number) refl
    where
      go : (t : Bool) → eqb (get_or numbers n 0) number ≡ t → occurrences_of numbers number n ≤ occurrences_of numbers number (suc n)
      go true e = let q = occurs_hit n (suc n) refl (eqb-true (get_or numbers n 0) number e) in omega arith
      go false e = let q = occurs_miss n (suc n) refl (eqb-false (get_or numbers n 0) number e) in omega arith

  occurs_past : (i n : ℕ) → i < n → get_or numbers i 0 ≡ number → occurrences_of numbers number i < occurrences_of numbers number n
  occurs_past i zero h e = absurd (omega arith)
  occurs_past i (suc n) h e = go (eqb i n) refl (occurs_past i n)
    where
      go : (t : Bool) → eqb i n ≡ t → (i < n → get_or numbers i 0 ≡ number → occurrences_of numbers number i < occurrences_of numbers number n)
          → occurrences_of numbers number i < occurrences_of numbers number (suc n)
      go true q f = let here = occurs_hit i (suc n) (let s = eqb-true i n q in omega arith) e in omega arith
      go false q f = let ne = eqb-false i n q in let less = f (omega arith) e in let more = occurs_more n in omega arith

  -- a number occurs nowhere where it is none of the numbers
  pub occurs_new : (n : ℕ) → n ≤ length numbers → not (list_any (λ m. eqb m number) (take n numbers)) ≡ eqb (occurrences_of numbers number n) 0
  unfolding occurrences_of
  occurs_new zero h = refl
  occurs_new (suc n) h = go (eqb (get_or numbers n 0) number) refl (occurs_new n (omega arith))
    where
      more : list_any (λ m. eqb m number) (take (suc n) numbers) ≡ (list_any (λ m. eqb m number) (take n numbers) || eqb (get_or numbers n 0) number)
      more = rw (← add-one n) (list_any_more (λ m. eqb m number) numbers n 0 (omega arith))

      go : (t : Bool) → eqb (get_or numbers n 0) number ≡ t
          → not (list_any (λ m. eqb m number) (take n numbers)) ≡ eqb (occurrences_of numbers number n) 0
          → not (list_any (λ m. eqb m number) (take (suc n) numbers)) ≡ eqb (cond (eqb (get_or numbers n 0) number) (occurrences_of numbers number n + 1) (occurrences_of numbers number n)) 0
      go true e before = rw (more, e, or-true, ne_eqb (occurrences_of numbers number n + 1) 0 (λ z. omega arith))
      go false e before = rw (more, e, or-false) before

  -- and as often among the first numbers as among all of them, before a place there
  pub occurs_taken : (n m : ℕ) → m ≤ n → occurrences_of (take n numbers) number m ≡ occurrences_of numbers number m
  unfolding occurrences_of
  occurs_taken n zero h = refl
  occurs_taken n (suc m) h = let here = get_or-take n numbers m 0 (omega arith) in rw (here, occurs_taken n m (omega arith))

-- the test of a slot after the numbers before it alone
pub fine_after_taken : (rules : Rules) (last : ℕ) (numbers : List ℕ) (place : ℕ) (s : Slot) → place ≤ length numbers
    → slot_fine_after rules last (take place numbers) (length (take place numbers)) s ≡ slot_fine_after rules last numbers place s
unfolding slot_fine_after
fine_after_taken rules last numbers place s h = rw (length-take-le place numbers h, occurs_taken numbers s.number place place (omega arith))

-- ---- the slots of a record
-- a last test that passes where another does, of a filled slot
in_place_of : (empty a b p q : Bool) → (empty ≡ false → p ≡ true → q ≡ true) → cond empty a (b && p) ≡ true → cond empty a (b && q) ≡ true
in_place_of true a b p q f e = e
in_place_of false a b p q f e = let w = both_true b p e in rw (w.0, f refl w.1)

module _ (rules : Rules) (r : Service) where
  abbrev numbers : List ℕ
  numbers = numbers_of rules.slot_count r.slots

  abbrev occurs : ℕ → ℕ → ℕ
  occurs = occurrences_of numbers

  abbrev fine_after : ℕ → Bool
  fine_after i = slot_fine_after rules r.last numbers i (slot_at r i)

  number_at_lem : (i : ℕ) → i < rules.slot_count → get_or numbers i 0 ≡ (slot_at r i).number
  number_at_lem i h = entry rules.slot_count (number_at r.slots) 0 i h

  count_to : (n m : ℕ) → m ≤ rules.slot_count → count_of (has_number n) r.slots m ≡ occurs n m
  unfolding count_of occurrences_of
  count_to n zero h = refl
  count_to n (suc m) h = rw (number_at_lem m (omega arith), count_to n m (omega arith))

  count_all : (n : ℕ) → count_of (has_number n) r.slots rules.slot_count ≡ occurs n rules.slot_count
  count_all n = count_to n rules.slot_count (omega arith)

  -- a number that stands once stands at no earlier place
  once_after : (i : ℕ) → i < rules.slot_count → slot_fine rules r (slot_at r i) ≡ true → fine_after i ≡ true
  unfolding slot_fine slot_fine_after
  once_after i h =
      let s = slot_at r i in
      let n = s.number in
      in_place_of (is_empty s) (all_zero rules s) (filled_fine rules r.last s) (unshared rules r.slots s) (eqb (occurs n i) 0)
      (λ z e.
      let one = eqb-true (count_of (has_number n) r.slots rules.slot_count) 1 e in
      let all = count_all n in
      let past = occurs_past numbers n i rules.slot_count h (number_at_lem i h) in
      eq-eqb (occurs n i) 0 (omega arith))

  module _ (after : (i : ℕ) → i < rules.slot_count → fine_after i ≡ true) where
    none_before : (n i : ℕ) → i < rules.slot_count → (slot_at r i).number ≡ n → (n ≡ 0 → ⊥) → occurs n i ≡ 0
    unfolding slot_fine_after
    none_before n i h e ne =
        let s = slot_at r i in
        let new = eqb (occurs s.number i) 0 in
        let both : (filled_fine rules r.last s && new) ≡ true = rw (ne_eqb s.number 0 (λ z. ne (sym e ∙ z))) at (after i h) in
        rw e at (eqb-true (occurs s.number i) 0 (both_true (filled_fine rules r.last s) new both).1)

    -- a later slot with the number of a filled one would have it again
    one_past : (n i : ℕ) → (slot_at r i).number ≡ n → (n ≡ 0 → ⊥) → (m : ℕ) → i < m → m ≤ rules.slot_count → occurs n m ≡ 1
    one_past n i e ne zero h k = absurd (omega arith)
    one_past n i e ne (suc m) h k = go (eqb i m) refl (one_past n i e ne m)
      where
        go : (t : Bool) → eqb i m ≡ t → (i < m → m ≤ rules.slot_count → occurs n m ≡ 1) → occurs n (suc m) ≡ 1
        go true q f =
            let same = eqb-true i m q in
            let below : i < rules.slot_count = omega arith in
            let none = none_before n i below e ne in
            let hit = occurs_hit numbers n i (suc m) (omega arith) (number_at_lem i below ∙ e) in
            omega arith
        go false q f =
            let apart = eqb-false i m q in
            let one = f (omega arith) (omega arith) in
            let below : m < rules.slot_count = omega arith in
            let miss = occurs_miss numbers n m (suc m) refl (λ z. let none = none_before n m below (sym (number_at_lem m below) ∙ z) ne in omega arith) in
            omega arith

    after_once : (i : ℕ) → i < rules.slot_count → slot_fine rules r (slot_at r i) ≡ true
    unfolding slot_fine slot_fine_after
    after_once i h =
        let s = slot_at r i in
        let n = s.number in
        in_place_of (is_empty s) (all_zero rules s) (filled_fine rules r.last s) (eqb (occurs n i) 0) (unshared rules r.slots s)
        (λ z e.
        let one = one_past n i refl (eqb-false n 0 z) rules.slot_count h (omega arith) in
        let all = count_all n in
        eq-eqb (count_of (has_number n) r.slots rules.slot_count) 1 (omega arith))
        (after i h)

  pub after_fine : every_place fine_after rules.slot_count ≡ every_slot (slot_fine rules r) r.slots rules.slot_count
  after_fine = every_same fine_after (λ i. slot_fine rules r (slot_at r i)) rules.slot_count after_once (λ f i h. once_after i h (f i h))
