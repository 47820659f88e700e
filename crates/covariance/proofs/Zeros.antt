-- The floats 0 and −0, and 1 and −1, in products and sums. Each is written in one way, so a float that equals one of them is
-- that float. A product by 0 is a zero of either sign; a product by 1, and a sum with a zero, change no value, and so no
-- number of units; a sum is the same from either side. Assumes nothing.
use Rattle.std.proofs.Common.{◌≡◌, ℕ, zero, suc, ◌-◌, ◌*◌, ◌<◌, ◌≤◌, Bool, true, false, cond, not, ◌||◌, T, eqb, ltb, ℤ, pos, sym, refl, ap, ◌∙◌, subst, true≢false, add-zero, mul_assoc, mul_comm, add_comm, one-mul, mul-zero, zero-mul, mul-one, arith, lit<, eqb→eq, ltb→lt, nltb→le, le-ltb}
use mathlib.Core.Bool.{beq}
use native.Mathlib.Nat.{sub-zero}
use lib.Ieee.{Float, nan, inf, fin, binary64, up, down, unlike, round, add, sum, mul, eq, fits}
use lib.Ieee.Fits.{down_pos, and_l}
use lib.Ieee.Exact.{HasValue}
use lib.Ieee.Back.{whole_unique}
use lib.Ieee.Scale.{round_same}
use Rattle.limits.specs.Limits.{units_per_square_pixel}
use Rattle.covariance.specs.Floats.{◌⊕◌, ◌⊗◌}
use Rattle.covariance.specs.Units.{nearest_whole, nearest_units}
use Rattle.covariance.specs.Cuts.{Within}
use Rattle.covariance.specs.Axes.{is_zero, is_unit}
use Rattle.covariance.proofs.Fractions.{signed, nearest_same}
use Rattle.covariance.proofs.Exact.{Scaled, scaled, round_shifted}
use Rattle.covariance.proofs.Halves.{units_at, units_of_zero}

-- ---- the floats 0 and −0, and 1 and −1
abbrev pub zero_of : Bool → Float
zero_of s = fin s 0 (pos 0)

abbrev pub unit_of : Bool → Float
unit_of s = fin s 1 (pos 0)

-- a float that equals the whole number n or −n, where n is written with no exponent, has that size
equals : (n : ℕ) (x : Float) (t : Bool) → eq x (fin t n (pos 0)) ≡ true → (s : Bool) × HasValue x s n 1
unfolding eq
equals n nan t h = absurd (true≢false (sym h))
equals n (inf s) t h = absurd (true≢false (sym h))
equals n (fin s m e) t h =
    let a = m * up e * 1 in
    let b = n * 1 * down e in
    (s, (refl, eqb→eq a b (and_l (eqb a b) (beq s t || eqb a 0) (subst T (sym h) tt)) ∙ ap (λ k. k * down e) (mul-one n)))

pub zero_value : (x : Float) → is_zero x ≡ true → (s : Bool) × HasValue x s 0 1
unfolding is_zero
zero_value x h = equals 0 x false h

pub unit_value : (x : Float) → is_unit x ≡ true → (s : Bool) × HasValue x s 1 1
unfolding is_unit
unit_value x h = go (eq x (unit_of false)) refl h
  where
    go : (p : Bool) → eq x (unit_of false) ≡ p → p || eq x (unit_of true) ≡ true → (s : Bool) × HasValue x s 1 1
    go true e h = equals 1 x false e
    go false e h = equals 1 x true h

-- and where the format holds it, it is that float
only_one : (n : ℕ) (x : Float) (s : Bool) → T (fits binary64 x) → T (fits binary64 (fin s n (pos 0))) → HasValue x s n 1 → x ≡ fin s n (pos 0)
only_one n x s v f h = whole_unique binary64 x (fin s n (pos 0)) s n v f h (refl, mul-one (n * 1))

pub is_zero_lem : (x : Float) → T (fits binary64 x) → is_zero x ≡ true → (s : Bool) × (x ≡ zero_of s)
unfolding fits
is_zero_lem x v h = let z = zero_value x h in (z.0, only_one 0 x z.0 v tt z.1)

pub is_unit_lem : (x : Float) → T (fits binary64 x) → is_unit x ≡ true → (s : Bool) × (x ≡ unit_of s)
unfolding fits
is_unit_lem x v h = let u = unit_value x h in (u.0, only_one 1 x u.0 v tt u.1)

-- ---- the products of a direction along an axis
pub unit_square : (s : Bool) → unit_of s ⊗ unit_of s ≡ unit_of false
unfolding mul
unit_square true = refl
unit_square false = refl

pub zero_square : (s : Bool) → zero_of s ⊗ zero_of s ≡ zero_of false
unfolding mul
zero_square true = refl
zero_square false = refl

zero_rounds : (s : Bool) (n d : ℕ) → 0 < d → n ≡ 0 → round binary64 s n d ≡ zero_of s
unfolding round
zero_rounds s n d p z = round_same binary64 s n d 0 1 p (lit< tt) (mul-one n ∙ z ∙ sym (zero-mul d)) ∙ go s
  where
    go : (s : Bool) → round binary64 s 0 1 ≡ zero_of s
    go true = refl
    go false = refl

pub unit_times_zero : (s t : Bool) → unit_of s ⊗ zero_of t ≡ zero_of (unlike s t)
unfolding mul
unit_times_zero true true = refl
unit_times_zero true false = refl
unit_times_zero false true = refl
unit_times_zero false false = refl

pub zero_times_unit : (s t : Bool) → zero_of s ⊗ unit_of t ≡ zero_of (unlike s t)
unfolding mul
zero_times_unit true true = refl
zero_times_unit true false = refl
zero_times_unit false true = refl
zero_times_unit false false = refl

pub times_zero : (b : ℕ) (x : Float) (t : Bool) → Within b x → (s : Bool) × (x ⊗ zero_of t ≡ zero_of s)
unfolding mul
times_zero b nan t h = absurd h
times_zero b (inf s) t h = absurd h
times_zero b (fin s m e) t h = (unlike s t, zero_rounds (unlike s t) (m * up e * 0) (down e * 1) (subst (λ d. 0 < d) (sym (mul-one (down e))) (down_pos e)) (mul-zero (m * up e)))

-- ---- the units of a float, by the fraction that it equals
units_of_value : (x : Float) (s : Bool) (n d : ℕ) → 0 < d → HasValue x s n d → nearest_units x ≡ nearest_whole (signed s (units_per_square_pixel * n)) d
units_of_value nan s n d p v = absurd v
units_of_value (inf t) s n d p v = absurd v
units_of_value (fin t m e) s n d p v =
    units_at t m e ∙ ap (λ t. nearest_whole (signed t (units_per_square_pixel * (m * up e))) (down e)) v.0
    ∙ nearest_same s (units_per_square_pixel * (m * up e)) (down e) (units_per_square_pixel * n) d (down_pos e) p
    (mul_assoc units_per_square_pixel (m * up e) d ∙ ap (λ k. units_per_square_pixel * k) v.1 ∙ sym (mul_assoc units_per_square_pixel n (down e)))

fits_either : (s t : Bool) (m : ℕ) (e : ℤ) → T (fits binary64 (fin s m e)) → T (fits binary64 (fin t m e))
unfolding fits
fits_either s t zero e v = v
fits_either s t (suc m) e v = v

module _ (m : ℕ) (e : ℤ) (v : T (fits binary64 (fin false m e))) (h : m * up e ≤ 64 * down e) where
  rounded : (s : Bool) → nearest_units (round binary64 s (m * up e) (down e)) ≡ nearest_units (fin s m e)
  rounded s =
      units_of_value _ s (m * up e) (down e) (down_pos e) (rw one-mul at (round_shifted 0 64 (lit< tt) s m e (fits_either false s m e v) h))
      ∙ sym (units_at s m e)

  sum_with_zero : (s t : Bool) → nearest_units (sum binary64 s (m * up e) t 0 (down e)) ≡ nearest_units (fin s m e)
  unfolding sum
  sum_with_zero true true = rw add-zero (rounded true)
  sum_with_zero false false = rw add-zero (rounded false)
  sum_with_zero false true = rw (le-ltb (m * up e) 0 (omega arith), sub-zero) (rounded false)
  sum_with_zero true false = rw (le-ltb (m * up e) 0 (omega arith), sub-zero) (go (ltb 0 (m * up e)) (nltb→le 0 (m * up e)))
    where
      go : (b : Bool) → (T (not b) → m * up e ≤ 0) → nearest_units (round binary64 b (m * up e) (down e)) ≡ nearest_units (fin true m e)
      go true f = rounded true
      go false f =
          let l = f tt in
          let z : m * up e ≡ 0 = omega arith in
          rounded false ∙ units_of_zero false m e z ∙ sym (units_of_zero true m e z)

pub plus_zero : (x : Float) (t : Bool) → T (fits binary64 x) → Within 64 x → nearest_units (x ⊕ zero_of t) ≡ nearest_units x
unfolding add
plus_zero nan t v h = absurd h
plus_zero (inf s) t v h = absurd h
plus_zero (fin s m e) t v h = rw (mul-one (m * up e), zero-mul (down e), mul-one (down e)) (sum_with_zero m e (fits_either s false m e v) h s t)

pub times_unit : (x : Float) → T (fits binary64 x) → Within 64 x → nearest_units (x ⊗ unit_of false) ≡ nearest_units x
times_unit x v h = go x (scaled 0 64 (lit< tt) x v h)
  where
    go : (x : Float) → Scaled 0 x (x ⊗ unit_of false) → nearest_units (x ⊗ unit_of false) ≡ nearest_units x
    go nan w = absurd w
    go (inf s) w = absurd w
    go (fin s m e) w = units_of_value _ s (m * up e) (down e) (down_pos e) (rw one-mul at w) ∙ sym (units_at s m e)

-- ---- a sum is the same from either side
unlike_signs : (a b c : ℕ) → cond (ltb a b) (round binary64 false (b - a) c) (round binary64 (ltb b a) (a - b) c) ≡ cond (ltb b a) (round binary64 true (a - b) c) (round binary64 false (b - a) c)
unlike_signs a b c = go (ltb a b) (ltb b a) (ltb→lt a b) (ltb→lt b a) (nltb→le a b) (nltb→le b a)
  where
    go : (p q : Bool) → (T p → a < b) → (T q → b < a) → (T (not p) → b ≤ a) → (T (not q) → a ≤ b)
        → cond p (round binary64 false (b - a) c) (round binary64 q (a - b) c) ≡ cond q (round binary64 true (a - b) c) (round binary64 false (b - a) c)
    go true true f g k l = let x = f tt in let y = g tt in absurd (omega arith)
    go true false f g k l = refl
    go false true f g k l = refl
    go false false f g k l =
        let x = k tt in
        let y = l tt in
        let e : a - b ≡ b - a = omega arith in
        ap (λ n. round binary64 false n c) e

sum_comm : (s : Bool) (a : ℕ) (t : Bool) (b c : ℕ) → sum binary64 s a t b c ≡ sum binary64 t b s a c
unfolding sum
sum_comm true a true b c = rw (add_comm a b)
sum_comm false a false b c = rw (add_comm a b)
sum_comm true a false b c = unlike_signs a b c
sum_comm false a true b c = sym (unlike_signs b a c)

pub plus_comm : (a b : ℕ) (x y : Float) → Within a x → Within b y → x ⊕ y ≡ y ⊕ x
unfolding add
plus_comm a b nan y h k = absurd h
plus_comm a b (inf s) y h k = absurd h
plus_comm a b (fin s m e) nan h k = absurd k
plus_comm a b (fin s m e) (inf t) h k = absurd k
plus_comm a b (fin s m e) (fin t n d) h k = sum_comm s (m * up e * down d) t (n * up d * down e) (down e * down d) ∙ ap (λ c. sum binary64 t (n * up d * down e) s (m * up e * down d) c) (mul_comm (down e) (down d))
