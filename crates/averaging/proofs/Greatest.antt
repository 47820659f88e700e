-- The greatest and the least pixel of a picture: no pixel lies outside them, and a picture whose pixels stay within every range of
-- another's lies between them. Assumes nothing.
use mathlib.Core.Path.{◌≡◌}
use mathlib.Core.List.{List, [], ◌∷◌}
use Prim.Native.Nat.{ℕ, zero, suc, ◌*◌, ◌≤◌, ◌<◌, suc-le-suc}
use native.Mathlib.Nat.{le_refl, le_trans, mul_assoc, mul-le-mul_left, le_of_suc-le-suc, not-suc-le-zero}
use native.Mathlib.Omega.{arith}
use lib.ListN.{length, get_or}
use Rattle.averaging.specs.Extrema.{greatest, least, WithinExtremes}

-- no pixel is above the greatest
pub below_greatest : (l : List ℕ) (i : ℕ) → i < length l → get_or l i 0 ≤ greatest l
unfolding greatest
below_greatest [] i h = absurd (not-suc-le-zero h)
below_greatest (p ∷ ps) zero h = omega arith
below_greatest (p ∷ ps) (suc i) h = let g = below_greatest ps i (le_of_suc-le-suc h) in omega arith

-- and where none is above c, the greatest is not
pub greatest_at_most : (l : List ℕ) (c : ℕ) → ((i : ℕ) → i < length l → get_or l i 0 ≤ c) → greatest l ≤ c
unfolding greatest
greatest_at_most [] c f = omega arith
greatest_at_most (p ∷ ps) c f =
    let first = f 0 (omega arith) in
    let rest = greatest_at_most ps c (λ i h. f (suc i) (suc-le-suc h)) in
    omega arith

-- no pixel is below the least
pub above_least : (l : List ℕ) (i : ℕ) → i < length l → least l ≤ get_or l i 0
unfolding least
above_least [] i h = absurd (not-suc-le-zero h)
above_least (p ∷ []) zero h = le_refl p
above_least (p ∷ []) (suc i) h = absurd (not-suc-le-zero (le_of_suc-le-suc h))
above_least (p ∷ q ∷ ps) zero h = omega arith
above_least (p ∷ q ∷ ps) (suc i) h = let g = above_least (q ∷ ps) i (le_of_suc-le-suc h) in omega arith

-- and where none is below c, the least is not, if there is one
pub least_at_least : (l : List ℕ) (c : ℕ) → 0 < length l → ((i : ℕ) → i < length l → c ≤ get_or l i 0) → c ≤ least l
unfolding least
least_at_least [] c some f = absurd (not-suc-le-zero some)
least_at_least (p ∷ []) c some f = f 0 some
least_at_least (p ∷ q ∷ ps) c some f =
    let first = f 0 (omega arith) in
    let rest = least_at_least (q ∷ ps) c (omega arith) (λ i h. f (suc i) (suc-le-suc h)) in
    omega arith

-- a picture of as many pixels that stays, times the unit, within every range in which the other lies
pub extremes_between : (unit : ℕ) (before after : List ℕ) → length after ≡ length before
    → ((low high : ℕ) → ((i : ℕ) → i < length before → (low ≤ get_or before i 0) × (get_or before i 0 ≤ high))
    → (i : ℕ) → i < length after → (unit * low ≤ get_or after i 0) × (get_or after i 0 ≤ unit * high))
    → WithinExtremes unit before after
unfolding least
extremes_between unit before [] same stays =
    record { greatest_never_rises = greatest_at_most [] _ (λ i h. absurd (not-suc-le-zero h)); least_never_falls = none before same }
  where
    none : (before : List ℕ) → length {A = ℕ} [] ≡ length before → unit * least before ≤ least []
    none [] e = omega arith
    none (p ∷ ps) e = absurd (omega (arith, e))
extremes_between unit before (p ∷ ps) same stays =
    let between = stays (least before) (greatest before) (λ i h. (above_least before i h, below_greatest before i h)) in
    record {
      greatest_never_rises = greatest_at_most (p ∷ ps) _ (λ i h. (between i h).1);
      least_never_falls = least_at_least (p ∷ ps) _ (omega arith) (λ i h. (between i h).0);
    }

-- a picture lies within itself
pub extremes_own : (pixels : List ℕ) → WithinExtremes 1 pixels pixels
extremes_own pixels = record { greatest_never_rises = omega arith; least_never_falls = omega arith }

-- and within what a picture lies within that lies within it
pub extremes_then : (u v : ℕ) (first second third : List ℕ) → WithinExtremes u first second → WithinExtremes v second third
    → WithinExtremes (v * u) first third
extremes_then u v first second third a b =
    record {
      greatest_never_rises =
          le_trans b.greatest_never_rises (rw (mul_assoc v u (greatest first)) (mul-le-mul_left v a.greatest_never_rises));
      least_never_falls = le_trans (rw (mul_assoc v u (least first)) (mul-le-mul_left v a.least_never_falls)) b.least_never_falls;
    }
