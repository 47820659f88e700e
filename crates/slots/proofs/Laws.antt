-- The searches one turn of a loop at a time, a count of places, and signed fields that pass through a call. Assumes nothing.
use mathlib.Core.Path.{◌≡◌, refl, sym}
use mathlib.Core.Bool.{Bool, true, false, cond, ◌&&◌}
use mathlib.Core.List.{List}
use Prim.Native.Nat.{ℕ, zero, suc, ◌+◌, ◌-◌, ◌^◌, ◌<◌, ◌≤◌}
use native.Mathlib.Numerals.{add-one, sub-one}
use native.Mathlib.Omega.{arith}
use borrow.Author.Tests.{ne_eqb, lt-ltb, le-ltb}
use lib.ListN.{length, take, get_or}
use lib.IntN.{ℤ, pos, negsuc}
use lib.Signed.{mag}
use lib.Signed.{lt_z}
use Rattle.std.proofs.Common.{is_eq, Less, Greater, Equal}
use mir.Syntax.{w32}
use mir.Val.{to_z, of_z}
use mir.ValLaws.{to_z-of_z}
use Rattle.std.specs.List.{count_by}
use Rattle.std.proofs.lemmas.List.Sums.{count_by_more_yes, count_by_more_no}
use Rattle.kernel.specs.Existence.{kernel_exists, free_fits}
use Rattle.kernel.proofs.Bounds.{fits_exists}
use Rattle.machine.specs.declared.Slot.{Slot}
use Rattle.machine.specs.Slots.{empty_slot, next_place, first_from, count_of}
use Rattle.machine.specs.Order.{is_zero}
use Rattle.std.specs.Prelude.{Some, None}

module _ (test : Slot → Bool) (slots : List Slot) where
  pub first_hit : (size place n : ℕ) → 0 < n → test (get_or slots place empty_slot) ≡ true → first_from test slots size place n ≡ Some place
  unfolding first_from
  first_hit size place zero h e = absurd (omega arith)
  first_hit size place (suc n) h e = rw e

  pub first_miss : (size place n : ℕ) → 0 < n → test (get_or slots place empty_slot) ≡ false
      → first_from test slots size place n ≡ first_from test slots size (next_place size place) (n - 1)
  unfolding first_from
  first_miss size place zero h e = absurd (omega arith)
  first_miss size place (suc n) h e = rw (e, sub-one)

  pub first_none : (size place n : ℕ) → n ≤ 0 → first_from test slots size place n ≡ None
  unfolding first_from
  first_none size place zero h = refl
  first_none size place (suc n) h = absurd (omega arith)

-- a signed field, as a call is handed it
pub passed_on : (z : ℤ) → mag z < 2 ^ 31 → to_z w32 (of_z w32 z) ≡ z
passed_on z h = to_z-of_z w32 z (record { sfits = h })

-- a signed number is equal to 0 where its size is
pub zero_alike : (z : ℤ) → is_eq (cond (lt_z z (pos 0)) Less (cond (lt_z (pos 0) z) Greater Equal)) ≡ is_zero z
zero_alike (pos zero) = refl
zero_alike (pos (suc n)) = rw (lt-ltb 0 (suc n) (omega arith), le-ltb (suc n) 0 (omega arith)) (let z : is_zero (pos (suc n)) ≡ false = ne_eqb (suc n) 0 (λ e. omega arith) in sym z)
zero_alike (negsuc n) = let z : is_zero (negsuc n) ≡ false = ne_eqb (suc n) 0 (λ e. omega arith) in sym z

-- where f lies between its bounds a kernel exists, so that the test of f alone is that of both
pub bounds_alone : (x z y : ℤ) (f m : ℕ) (rest : Bool) → (free_fits x z y f m && rest) ≡ (kernel_exists x z y m && (free_fits x z y f m && rest))
bounds_alone x z y f m rest = go (free_fits x z y f m) refl
  where
    none : (b : Bool) → (b && false) ≡ false
    none true = refl
    none false = refl

    go : (t : Bool) → free_fits x z y f m ≡ t → (free_fits x z y f m && rest) ≡ (kernel_exists x z y m && (free_fits x z y f m && rest))
    go true e = rw (e, fits_exists x z y f m e)
    go false e = rw e (sym (none (kernel_exists x z y m)))

-- a count over the places of a list is that over its elements
pub counted : (test : Slot → Bool) (slots : List Slot) (n : ℕ) → n ≤ length slots → count_of test slots n ≡ count_by test (take n slots)
unfolding count_of
counted test slots zero h = refl
counted test slots (suc n) h = go (test (get_or slots n empty_slot)) refl (counted test slots n (omega arith))
  where
    more : count_by test (take (suc n) slots) ≡ count_by test (take (n + 1) slots)
    more = rw (add-one n)

    go : (t : Bool) → test (get_or slots n empty_slot) ≡ t → count_of test slots n ≡ count_by test (take n slots) → cond (test (get_or slots n empty_slot)) (count_of test slots n + 1) (count_of test slots n) ≡ count_by test (take (suc n) slots)
    go true e before = let c = count_by_more_yes test slots n empty_slot (omega arith) e in rw e (omega (arith, more))
    go false e before = let c = count_by_more_no test slots n empty_slot (omega arith) e in rw e (omega (arith, more))
