-- Counts of slots, and tests that every one of some places passes. Assumes nothing.
use mathlib.Core.Path.{◌≡◌, refl, sym}
use mathlib.Core.Bool.{Bool, true, false, not, cond, ◌&&◌}
use mathlib.Core.List.{List}
use Prim.Native.Nat.{ℕ, zero, suc, ◌+◌, ◌≤◌, ◌<◌}
use native.Mathlib.Numerals.{add-one}
use native.Mathlib.Omega.{arith}
use borrow.Author.Count.{below_more}
use lib.ListN.{get_or}
use Rattle.limits.proofs.Laws.{both_true}
use Rattle.machine.specs.declared.Slot.{Slot}
use Rattle.machine.specs.Slots.{empty_slot, is_empty, count_of, every_place}

pub count_le : (test : Slot → Bool) (xs : List Slot) (n : ℕ) → count_of test xs n ≤ n
unfolding count_of
count_le test xs zero = omega arith
count_le test xs (suc n) = go (test (get_or xs n empty_slot)) (count_le test xs n)
  where
    go : (t : Bool) → count_of test xs n ≤ n → cond t (count_of test xs n + 1) (count_of test xs n) ≤ suc n
    go true h = omega arith
    go false h = omega arith

-- where fewer than all slots are filled, one is empty
pub some_empty : (xs : List Slot) (n : ℕ) → count_of (λ s. not (is_empty s)) xs n < n → (i : ℕ) × (i < n) × (is_empty (get_or xs i empty_slot) ≡ true)
unfolding count_of
some_empty xs zero h = absurd (omega arith)
some_empty xs (suc n) h = go (is_empty (get_or xs n empty_slot)) refl h (some_empty xs n)
  where
    go : (t : Bool) → is_empty (get_or xs n empty_slot) ≡ t
        → cond (not t) (count_of (λ s. not (is_empty s)) xs n + 1) (count_of (λ s. not (is_empty s)) xs n) < suc n
        → (count_of (λ s. not (is_empty s)) xs n < n → (i : ℕ) × (i < n) × (is_empty (get_or xs i empty_slot) ≡ true))
        → (i : ℕ) × (i < suc n) × (is_empty (get_or xs i empty_slot) ≡ true)
    go true e h f = (n, omega arith, e)
    go false e h f = let w = f (omega arith) in (w.0, omega (arith, w.1), w.2)

-- ---- a test of the first n places
module _ (test : ℕ → Bool) where
  pub every_none : every_place test 0 ≡ true
  unfolding every_place
  every_none = refl

  pub every_more : (n : ℕ) → every_place test (n + 1) ≡ (every_place test n && test n)
  unfolding every_place
  every_more n = rw (add-one n)

  pub every_each : (n i : ℕ) → i < n → every_place test n ≡ true → test i ≡ true
  unfolding every_place
  every_each zero i h e = absurd (omega arith)
  every_each (suc n) i h e =
      let w = both_true (every_place test n) (test n) e in
      below_more (λ (k : ℕ). test k ≡ true) n (λ k l. every_each n k l w.0) w.1 i (omega arith)

  pub every_made : (n : ℕ) → ((i : ℕ) → i < n → test i ≡ true) → every_place test n ≡ true
  unfolding every_place
  every_made zero f = refl
  every_made (suc n) f = rw (every_made n (λ i h. f i (omega arith)), f n (omega arith))

-- two tests, of which each passes all places where the other does
pub every_same : (a b : ℕ → Bool) (n : ℕ)
    → (((i : ℕ) → i < n → a i ≡ true) → (i : ℕ) → i < n → b i ≡ true)
    → (((i : ℕ) → i < n → b i ≡ true) → (i : ℕ) → i < n → a i ≡ true)
    → every_place a n ≡ every_place b n
every_same a b n f g =
    go (every_place a n) (every_place b n) (λ e. every_made b n (f (λ i h. every_each a n i h e))) (λ e. every_made a n (g (λ i h. every_each b n i h e)))
  where
    go : (p q : Bool) → (p ≡ true → q ≡ true) → (q ≡ true → p ≡ true) → p ≡ q
    go true q there back = sym (there refl)
    go false true there back = back refl
    go false false there back = refl
