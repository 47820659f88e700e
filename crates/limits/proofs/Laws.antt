-- What a passed test says: of a pair of tests each half, and of a range its two ends. Assumes nothing.
use mathlib.Core.Path.{◌≡◌, refl, sym}
use mathlib.Core.Bool.{Bool, true, false, ◌&&◌, true≢false}
use Prim.Native.Nat.{ℕ, ◌≤◌}
use borrow.Author.Tests.{leb-true}
use lib.Dec.{leb}
use Rattle.limits.specs.Limits.{within_of}

pub both_true : (p q : Bool) → p && q ≡ true → (p ≡ true) × (q ≡ true)
both_true true true h = (refl, refl)
both_true true false h = absurd (true≢false (sym h))
both_true false q h = absurd (true≢false (sym h))

pub in_range_lem : (low high n : ℕ) → within_of low high n ≡ true → (low ≤ n) × (n ≤ high)
in_range_lem low high n h =
    let e = both_true (leb low n) (leb n high) h in
    (leb-true low n e.0, leb-true n high e.1)
