-- 4096 times a float v to the nearest whole number by way of x, which is 8192 times v. Where x is not below zero, the nearest
-- is half of one more than the whole number below x; where it is, half of the whole number above the size of x, negated.
-- Assumes nothing.
use Rattle.std.proofs.Common.{◌≡◌, ℕ, ◌+◌, ◌-◌, ◌*◌, ◌/◌, ◌<◌, ◌≤◌, Bool, true, false, ltb, ℤ, pos, neg_ℤ, sym, refl, ap, ◌∙◌, true≢false, le_trans, le_of_eq, mul-le-mul_right, mul_assoc, mul_comm, add-mul, mul-le-mul_left, zero-mul, le_of_mul-le-mul_right, arith, ltb-false, ltb-true}
use native.Mathlib.Nat.{add-div_right, div-div-eq-div-mul, div-eq_of_lt, zero-div, eq_of_mul-eq-mul_right}
use lib.Ieee.{Float, nan, inf, fin, up, down, lt, neg}
use lib.Ieee.Fits.{down_pos}
use lib.Ieee.Nearest.{div_same}
use Rattle.limits.specs.Limits.{units_per_square_pixel}
use Rattle.covariance.specs.Units.{nearest_whole, nearest_units}
use Rattle.covariance.specs.Cuts.{most_squares, most_halves, Within, UpTo, whole_below, whole_above}
use Rattle.covariance.proofs.Fractions.{under, under_same, times_negative, nearest_negative, signed}
use Rattle.covariance.proofs.Exact.{Scaled}

-- ---- the nearest whole number, by the fraction that a float is
pub units_at : (s : Bool) (m : ℕ) (e : ℤ) → nearest_units (fin s m e) ≡ nearest_whole (signed s (units_per_square_pixel * (m * up e))) (down e)
unfolding nearest_units
units_at false m e = refl
units_at true m e = ap (λ z. nearest_whole z (down e)) (times_negative units_per_square_pixel (m * up e))

pub units_of_zero : (s : Bool) (m : ℕ) (e : ℤ) → m * up e ≡ 0 → nearest_units (fin s m e) ≡ pos 0
units_of_zero s m e z = units_at s m e ∙ ap (λ n. nearest_whole (signed s (units_per_square_pixel * n)) (down e)) z ∙ go s
  where
    none : (d : ℕ) → 0 < d → (0 + d) / (2 * d) ≡ 0
    none d p = div-eq_of_lt (omega arith)

    go : (s : Bool) → nearest_whole (signed s 0) (down e) ≡ pos 0
    go false = ap pos (none (down e) (down_pos e))
    go true = ap pos (none (down e) (down_pos e))

-- ---- x / 2, from a fraction n / d for the size of x
half_up : (a d : ℕ) → 0 < d → (8192 * a / d + 1) / 2 ≡ (2 * (4096 * a) + d) / (2 * d)
half_up a d p =
    ap (λ q. q / 2) (sym (add-div_right (8192 * a) p)) ∙ div-div-eq-div-mul (8192 * a + d) d 2
    ∙ ap (λ n. n / (d * 2)) (omega arith) ∙ ap (λ n. (2 * (4096 * a) + d) / n) (mul_comm d 2)

half_down : (a d : ℕ) → under (8192 * a + d) d / 2 ≡ under (2 * (4096 * a) + d) (2 * d)
half_down a d =
    div-div-eq-div-mul (8192 * a + d - 1) d 2
    ∙ ap (λ n. n / (d * 2)) (omega arith) ∙ ap (λ n. (2 * (4096 * a) + d - 1) / n) (mul_comm d 2)

bounded : (n k a d : ℕ) → 0 < d → n * d ≡ 8192 * a * k → a ≤ most_squares * d → n ≤ most_halves * k
bounded n k a d p e h =
    le_of_mul-le-mul_right
    (le_trans (le_of_eq e) (le_trans (mul-le-mul_right k (mul-le-mul_left 8192 h)) (le_of_eq (simp (mul_assoc, mul_comm d k) (omega arith)))))
    p

nothing : (n k a d : ℕ) → 0 < k → n * d ≡ 8192 * a * k → n ≡ 0 → a ≡ 0
nothing n k a d p e z =
    let w : 8192 * a ≡ 0 = eq_of_mul-eq-mul_right k p (8192 * a) 0 (sym e ∙ rw z (zero-mul d ∙ sym (zero-mul k))) in
    omega arith

moved : (n k a d : ℕ) → n * d ≡ 8192 * a * k → (n + k) * d ≡ (8192 * a + d) * k
moved n k a d e = omega (arith, add-mul n k d, add-mul (8192 * a) d k, mul_comm k d)

zero_left : (x y : ℕ) → ltb 0 (x * 1 + y) ≡ false → x ≡ 0
zero_left x y h = omega (arith, ltb-false 0 (x * 1 + y) h)

pub not_below_zero : (v x : Float) → Within most_squares v → Scaled 13 v x → lt x (fin false 0 (pos 0)) ≡ false
    → UpTo most_halves x × (pos ((whole_below x + 1) / 2) ≡ nearest_units v)
unfolding lt
not_below_zero nan x b s h = absurd s
not_below_zero (inf t) x b s h = absurd s
not_below_zero (fin t m e) nan b s h = absurd s
not_below_zero (fin t m e) (inf u) b s h = absurd s
not_below_zero (fin false m e) (fin false n k) b s h = (
  bounded (n * up k) (down k) (m * up e) (down e) (down_pos e) s.1 b,
  ap pos
      (ap (λ q. (q + 1) / 2) (div_same (n * up k) (down k) (8192 * (m * up e)) (down e) (down_pos k) (down_pos e) s.1) ∙ half_up (m * up e) (down e) (down_pos e))
      ∙ sym (units_at false m e),
)
not_below_zero (fin true m e) (fin false n k) b s h = absurd (true≢false (sym s.0))
not_below_zero (fin false m e) (fin true n k) b s h = absurd (true≢false s.0)
not_below_zero (fin true m e) (fin true n k) b s h =
    let z : n * up k ≡ 0 = zero_left (n * up k) (0 * down k) h in (
      z,
      ap pos (ap (λ a. (a / down k + 1) / 2) z ∙ ap (λ q. (q + 1) / 2) (zero-div (down k)))
          ∙ sym (units_of_zero true m e (nothing (n * up k) (down k) (m * up e) (down e) (down_pos k) s.1 z)),
    )

pub below_zero : (v x : Float) → Within most_squares v → Scaled 13 v x → lt x (fin false 0 (pos 0)) ≡ true
    → UpTo most_halves (neg x) × (neg_ℤ (pos (whole_above (neg x) / 2)) ≡ nearest_units v)
unfolding lt neg
below_zero nan x b s h = absurd s
below_zero (inf t) x b s h = absurd s
below_zero (fin t m e) nan b s h = absurd s
below_zero (fin t m e) (inf u) b s h = absurd s
below_zero (fin t m e) (fin false n k) b s h = absurd (never (n * up k * 1) (down k) (ltb-true (n * up k * 1) (0 * down k) h))
  where
    never : (a d : ℕ) → a < 0 * d → ⊥
    never a d h = omega arith
below_zero (fin false m e) (fin true n k) b s h = absurd (true≢false s.0)
below_zero (fin true m e) (fin true n k) b s h =
    let a = m * up e in
    let d = down e in
    let x = n * up k in
    let y = down k in (
      bounded x y a d (down_pos e) s.1 b,
      ap (λ q. neg_ℤ (pos q))
          (ap (λ q. q / 2) (under_same (x + y) y (8192 * a + d) d (more x y (down_pos k)) (down_pos k) (more (8192 * a) d (down_pos e)) (down_pos e) (moved x y a d s.1)) ∙ half_down a d)
          ∙ sym (units_at true m e ∙ nearest_negative (units_per_square_pixel * a) d (down_pos e)),
    )
  where
    more : (a d : ℕ) → 0 < d → 0 < a + d
    more a d p = omega arith
