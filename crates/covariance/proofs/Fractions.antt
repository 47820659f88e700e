-- Fractions of natural numbers to whole numbers. The quotient a / d rounds a fraction down; `under a d`, the largest whole
-- number that is below a / d, serves where a fraction is rounded up and where a half goes to zero. Each sees only the
-- fraction's value, and so does `nearest_whole`, which is a quotient above zero and an `under` below it. Assumes nothing.
use Rattle.std.proofs.Common.{◌≡◌, ℕ, zero, suc, ◌+◌, ◌-◌, ◌*◌, ◌/◌, ◌<◌, ◌≤◌, Bool, true, false, cond, not, T, ltb, ℤ, pos, negsuc, ◌+ℤ◌, ◌*ℤ◌, neg_ℤ, nat_abs, sym, refl, ap, ◌∙◌, le_trans, le_of_eq, le_of_suc-le-suc, mul-le-mul_right, mul_assoc, mul_comm, div-lt_iff_lt-mul, add-mul, le_antisymm, mul-zero, mul_right_comm, le_of_mul-le-mul_right, mul_left_comm, add-one, arith, ltb→lt, nltb→le}
use native.Mathlib.Nat.{add-div_right, div-eq_of_lt, lt-div-mul-add}
use lib.Signed.{shr_z}
use lib.Ieee.Nearest.{div_same}
use Rattle.covariance.specs.Units.{nearest_whole}

-- ---- the largest whole number below a / d, for a and d above 0
abbrev pub under : ℕ → ℕ → ℕ
under a d = (a - 1) / d

under_mono : (a b c d : ℕ) → 0 < a → 0 < b → 0 < d → a * d ≤ c * b → under a b ≤ under c d
under_mono a b c d A B D h =
    let q = under c d in
    let top : c ≤ (q + 1) * d = omega (arith, lt-div-mul-add {a = c - 1} D, add-mul q 1 d) in
    let all : a ≤ (q + 1) * b = le_of_mul-le-mul_right (le_trans h (le_trans (mul-le-mul_right b top) (le_of_eq (mul_right_comm (q + 1) d b)))) D in
    le_of_suc-le-suc ((div-lt_iff_lt-mul B).1 (omega (arith, ap (λ x. x * b) (add-one q))))

pub under_same : (a b c d : ℕ) → 0 < a → 0 < b → 0 < c → 0 < d → a * d ≡ c * b → under a b ≡ under c d
under_same a b c d A B C D e = le_antisymm (under_mono a b c d A B D (le_of_eq e)) (under_mono c d a b C D B (le_of_eq (sym e)))

-- ---- `nearest_whole` below zero
pub size_of_negative : (z : ℤ) → nat_abs (neg_ℤ z) ≡ nat_abs z
size_of_negative (pos zero) = refl
size_of_negative (pos (suc n)) = refl
size_of_negative (negsuc n) = refl

pub times_negative : (k n : ℕ) → pos k *ℤ neg_ℤ (pos n) ≡ neg_ℤ (pos (k * n))
times_negative k zero = rw mul-zero
times_negative k (suc n) = refl

none : (a d : ℕ) → a < d → a / d ≡ 0
none a d h = div-eq_of_lt h

half_below : (n d : ℕ) → 0 < d → shr_z (neg_ℤ (pos n) +ℤ pos d) (2 * d) ≡ neg_ℤ (pos (under (n + d) (2 * d)))
half_below zero d p = rw (none (0 + d) (2 * d) (omega arith), none (0 + d - 1) (2 * d) (omega arith))
half_below (suc n) d p = go (ltb d (suc n)) (ltb→lt d (suc n)) (nltb→le d (suc n))
  where
    go : (t : Bool) → (T t → d < suc n) → (T (not t) → suc n ≤ d)
        → shr_z (cond t (negsuc (suc n - suc d)) (pos (d - suc n))) (2 * d) ≡ neg_ℤ (pos (under (suc n + d) (2 * d)))
    go true f g =
        let h = f tt in
        let e : suc n + d - 1 ≡ suc n - suc d + 2 * d = omega arith in
        let q : 0 < 2 * d = omega arith in
        rw (e, add-div_right (suc n - suc d) q, add-one)
    go false f g =
        let h = g tt in
        rw (none (suc n + d - 1) (2 * d) (omega arith), none (d - suc n) (2 * d) (omega arith))

pub nearest_negative : (n d : ℕ) → 0 < d → nearest_whole (neg_ℤ (pos n)) d ≡ neg_ℤ (pos (under (2 * n + d) (2 * d)))
nearest_negative n d p = ap (λ z. shr_z (z +ℤ pos d) (2 * d)) (times_negative 2 n) ∙ half_below (2 * n) d p

-- ---- a fraction with a sign, rounded by `nearest_whole`
abbrev pub signed : Bool → ℕ → ℤ
signed false n = pos n
signed true n = neg_ℤ (pos n)

spread : (a b d : ℕ) → (2 * a + b) * (2 * d) ≡ 4 * (a * d) + 2 * (b * d)
spread a b d =
    let x : 2 * a * (2 * d) ≡ 2 * (2 * (a * d)) = simp (mul_assoc, mul_left_comm) in
    let y : b * (2 * d) ≡ 2 * (b * d) = mul_left_comm b 2 d in
    omega (arith, add-mul (2 * a) b (2 * d))

wide : (a b c d : ℕ) → a * d ≡ c * b → (2 * a + b) * (2 * d) ≡ (2 * c + d) * (2 * b)
wide a b c d e = omega (arith, spread a b d, spread c d b, mul_comm b d)

pub nearest_same : (s : Bool) (a b c d : ℕ) → 0 < b → 0 < d → a * d ≡ c * b → nearest_whole (signed s a) b ≡ nearest_whole (signed s c) d
nearest_same false a b c d B D e = ap pos (div_same (2 * a + b) (2 * b) (2 * c + d) (2 * d) (omega arith) (omega arith) (wide a b c d e))
nearest_same true a b c d B D e =
    nearest_negative a b B
    ∙ ap (λ n. neg_ℤ (pos n)) (under_same (2 * a + b) (2 * b) (2 * c + d) (2 * d) (omega arith) (omega arith) (omega arith) (omega arith) (wide a b c d e))
    ∙ sym (nearest_negative c d D)
