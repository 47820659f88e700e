-- A float times a power of two is exact where it does not overflow: `round` changes no fraction that is q × 2 ^ j times the
-- format's smallest value with q below 2 ^ 53, and the product keeps the float's own digits. Assumes nothing.
use Rattle.std.proofs.Common.{◌≡◌, ℕ, zero, suc, ◌+◌, ◌-◌, ◌*◌, ◌%◌, ◌^◌, ◌<◌, ◌≤◌, Bool, true, false, ◌&&◌, T, eqb, ltb, leb, ℤ, pos, negsuc, sym, ap, ◌∙◌, le_trans, le_of_eq, lt_of_lt_of_le, le_of_suc-le-suc, lt_of_le_of_lt, lt_irrefl, mul-le-mul_right, mul_assoc, mul_comm, mul-le-mul_left, one-mul, lt_of_not-le, mul-zero, zero-mul, mul-one, le_of_mul-le-mul_right, mul_left_comm, arith, lit<, ltb→lt, leb→le, pow-add}
use lib.Pow.{pow-lt}
use lib.Ieee.{Float, nan, inf, fin, binary64, up, down, round, mul, fits}
use lib.Ieee.Fits.{down_pos, and_l, and_r}
use lib.Ieee.Exact.{HasValue, round_exact}
use Rattle.covariance.specs.Cuts.{Within}

-- what `fits` says of a number that is not zero
digits : (s : Bool) (m : ℕ) (e : ℤ) → T (fits binary64 (fin s (suc m) e)) → (suc m < 2 ^ 53) × (down e ≤ 2 ^ 1074)
unfolding fits
digits s m e t =
    let odd = eqb (suc m % 2) 1 in
    let short = ltb (suc m) (2 ^ 53) in
    let high = leb (down e) (2 ^ 1074) in
    let all : T (odd && short && high) = and_l (odd && short && high) (ltb (suc m * up e) (2 ^ 1024 * down e)) t in
    (ltb→lt (suc m) (2 ^ 53) (and_r odd short (and_l (odd && short) high all)), leb→le (down e) (2 ^ 1074) (and_r (odd && short) high all))

exponent_le : (j : ℕ) → 2 ^ j ≤ 2 ^ 1074 → j ≤ 1074
exponent_le j h = le_of_suc-le-suc (lt_of_not-le (λ (g : 1075 ≤ j). lt_irrefl (2 ^ 1074) (lt_of_lt_of_le (pow-lt g) h)))

-- 2 ^ k times m × 2 ^ j, and times m / 2 ^ j, in units of the smallest value
raised : (k m j : ℕ) → 2 ^ k * (m * 2 ^ j) * 2 ^ 1074 ≡ m * 2 ^ (k + j + 1074) * 1
raised k m j =
    ap (λ x. x * 2 ^ 1074) (mul_left_comm (2 ^ k) m (2 ^ j) ∙ ap (λ x. m * x) (sym (pow-add 2 k j)))
    ∙ mul_assoc m (2 ^ (k + j)) (2 ^ 1074) ∙ ap (λ x. m * x) (sym (pow-add 2 (k + j) 1074)) ∙ sym (mul-one (m * 2 ^ (k + j + 1074)))

lowered : (k m j : ℕ) → j ≤ 1074 → 2 ^ k * (m * 1) * 2 ^ 1074 ≡ m * 2 ^ (k + (1074 - j)) * 2 ^ j
lowered k m j h =
    let whole : 1074 - j + j ≡ 1074 = omega arith in
    ap (λ x. x * 2 ^ 1074) (mul_left_comm (2 ^ k) m 1 ∙ ap (λ x. m * x) (mul-one (2 ^ k)))
    ∙ ap (λ x. m * 2 ^ k * 2 ^ x) (sym whole) ∙ ap (λ x. m * 2 ^ k * x) (pow-add 2 (1074 - j) j)
    ∙ sym (mul_assoc (m * 2 ^ k) (2 ^ (1074 - j)) (2 ^ j))
    ∙ ap (λ x. x * 2 ^ j) (mul_assoc m (2 ^ k) (2 ^ (1074 - j)) ∙ ap (λ x. m * x) (sym (pow-add 2 k (1074 - j))))

module _ (k b : ℕ) (room : 2 ^ k * b * 2 ^ 1074 < 2 ^ 2098) (s : Bool) (m : ℕ) (e : ℤ) (h : m * up e ≤ b * down e) where
  no_overflow : (q j : ℕ) → 2 ^ k * (m * up e) * 2 ^ 1074 ≡ q * 2 ^ j * down e → q * 2 ^ j < 2 ^ 2098
  no_overflow q j v =
      lt_of_le_of_lt
      (le_of_mul-le-mul_right (le_trans (le_of_eq (sym v)) (le_trans (mul-le-mul_right (2 ^ 1074) (mul-le-mul_left (2 ^ k) h)) (le_of_eq (simp (mul_assoc, mul_comm, mul_left_comm))))) (down_pos e))
      room

  at_digits : (q j : ℕ) → q < 2 ^ 53 → 2 ^ k * (m * up e) * 2 ^ 1074 ≡ q * 2 ^ j * down e
      → HasValue (round binary64 s (2 ^ k * (m * up e)) (down e)) s (2 ^ k * (m * up e)) (down e)
  at_digits q j small v = round_exact binary64 s (2 ^ k * (m * up e)) (down e) q j (down_pos e) small (no_overflow q j v) v

pub round_shifted : (k b : ℕ) → 2 ^ k * b * 2 ^ 1074 < 2 ^ 2098 → (s : Bool) (m : ℕ) (e : ℤ) → T (fits binary64 (fin s m e)) → m * up e ≤ b * down e
    → HasValue (round binary64 s (2 ^ k * (m * up e)) (down e)) s (2 ^ k * (m * up e)) (down e)
round_shifted k b room s zero e t h = at_digits k b room s 0 e h 0 0 (lit< tt) (simp (zero-mul, mul-zero))
round_shifted k b room s (suc m) (pos j) t h = at_digits k b room s (suc m) (pos j) h (suc m) (k + j + 1074) (digits s m (pos j) t).0 (raised k (suc m) j)
round_shifted k b room s (suc m) (negsuc j) t h =
    let d = digits s m (negsuc j) t in
    at_digits k b room s (suc m) (negsuc j) h (suc m) (k + (1074 - suc j)) d.0 (lowered k (suc m) (suc j) (exponent_le (suc j) d.1))

-- y has the sign of x, and 2 ^ k times its size
abbrev pub Scaled : ℕ → Float → Float → Type 0
Scaled k nan y = ⊥
Scaled k (inf s) y = ⊥
Scaled k (fin s m e) y = HasValue y s (2 ^ k * (m * up e)) (down e)

pub scaled : (k b : ℕ) → 2 ^ k * b * 2 ^ 1074 < 2 ^ 2098 → (x : Float) → T (fits binary64 x) → Within b x → Scaled k x (mul binary64 x (fin false 1 (pos k)))
unfolding mul
scaled k b room nan t h = h
scaled k b room (inf s) t h = h
scaled k b room (fin true m e) t h = rw (one-mul, mul-one, mul_comm (m * up e) (2 ^ k)) (round_shifted k b room true m e t h)
scaled k b room (fin false m e) t h = rw (one-mul, mul-one, mul_comm (m * up e) (2 ^ k)) (round_shifted k b room false m e t h)
