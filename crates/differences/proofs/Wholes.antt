-- Whole numbers as 64-bit floats: sums and products of them are exact while they stay up to 2 ^ 53 in size, where the format has
-- no gaps. A zero of either sign is the whole number 0. Assumes nothing.
use mathlib.Core.Path.{◌≡◌, refl, sym, ap, ap₂, subst, subst₂, ◌∙◌}
use mathlib.Core.Bool.{Bool, true, false, not, cond, ◌&&◌, ◌||◌, beq, not-not, or-false, true≢false}
use Prim.Native.Nat.{ℕ, zero, suc, ◌+◌, ◌-◌, ◌*◌, ◌^◌, ◌≤◌, ◌<◌}
use native.Mathlib.Nat.{le_of_lt, mul-one, mul-zero, zero-mul, mul_comm, mul-pos, mul_assoc, mul-mul-mul_comm, mul-sub, add-mul, mul-le-mul_left, mul-le-mul_right, mul-lt-mul_of_pos_right}
use native.Mathlib.Omega.{arith}
use lib.Dec.{T, ltb, eqb, lit<, ltb→lt, nltb→le}
use borrow.Author.Tests.{lt-ltb, le-ltb, eqb-true}
use lib.IntN.{ℤ, pos, negsuc, neg_ℤ, nat_abs, ◌+ℤ◌, ◌*ℤ◌, *ℤ_comm, zero-*ℤ, +ℤ_comm, neg_ℤ-+ℤ}
use lib.Ieee.{Float, nan, inf, fin, binary64, up, down, unlike, round, sum, add, mul, eq, of_int}
use lib.Ieee.Fits.{down_pos}
use lib.Ieee.Exact.{HasValue}
use lib.Ieee.Back.{round_whole}
use lib.Ieee.Scale.{round_same}
use Rattle.kernel.proofs.Signs.{is_pos, equal, neg_parts}
use Rattle.limits.proofs.Laws.{both_true}
use Rattle.covariance.specs.Floats.{◌⊕◌, ◌⊗◌}
use Rattle.covariance.specs.Axes.{is_zero, is_unit}
use Rattle.covariance.proofs.Fractions.{signed, times_negative}
use Rattle.differences.specs.Directional.{IsWhole}
use Rattle.differences.proofs.Stencils.{less_diff}

-- x is finite, and its value is z
pub record Exact (x : Float) (z : ℤ) : Type 0 where
  pub sign : Bool
  pub size : ℕ
  pub has : HasValue x sign size 1
  pub is : signed sign size ≡ z

-- ---- signed sizes
size_of : (s : Bool) (n : ℕ) → nat_abs (signed s n) ≡ n
size_of false n = refl
size_of true zero = refl
size_of true (suc n) = refl

pub unit_size : (s : Bool) → nat_abs (signed s 1) ≡ 1
unit_size s = size_of s 1

product : (s t : Bool) (n k : ℕ) → signed (unlike s t) (n * k) ≡ signed s n *ℤ signed t k
product false false n k = refl
product false true n k = sym (times_negative n k)
product true false n k = ap (λ i. neg_ℤ (pos i)) (mul_comm n k) ∙ sym (times_negative k n) ∙ *ℤ_comm (pos k) (neg_ℤ (pos n))
product true true zero k = ap pos (zero-mul k) ∙ sym (zero-*ℤ (neg_ℤ (pos k)))
product true true (suc n) zero = rw mul-zero
product true true (suc n) (suc k) = refl

-- ---- a fraction that is a whole number is rounded to it
rounded : (s : Bool) (a c n : ℕ) → 0 < c → a ≡ n * c → n ≤ 2 ^ 53 → HasValue (round binary64 s a c) s n 1
rounded s a c n p e b = subst (λ r. HasValue r s n 1) (sym (round_same binary64 s a c n 1 p (lit< tt) (mul-one a ∙ e))) (round_whole binary64 s n b)

-- ---- products
mul_has : (x y : Float) (s t : Bool) (n k : ℕ) → HasValue x s n 1 → HasValue y t k 1 → n * k ≤ 2 ^ 53 → HasValue (x ⊗ y) (unlike s t) (n * k) 1
unfolding mul
mul_has nan y s t n k p q b = absurd p
mul_has (inf u) y s t n k p q b = absurd p
mul_has (fin u m e) nan s t n k p q b = absurd q
mul_has (fin u m e) (inf v) s t n k p q b = absurd q
mul_has (fin u m e) (fin v l f) s t n k p q b =
    rw (p.0, q.0)
    (rounded (unlike s t) (m * up e * (l * up f)) (down e * down f) (n * k) (mul-pos (down_pos e) (down_pos f))
    (ap₂ ◌*◌ (sym (mul-one (m * up e)) ∙ p.1) (sym (mul-one (l * up f)) ∙ q.1) ∙ mul-mul-mul_comm n (down e) k (down f)) b)

pub sized : {x : Float} {z : ℤ} (e : Exact x z) → nat_abs z ≡ e.size
sized e = ap nat_abs (sym e.is) ∙ size_of e.sign e.size

pub exact_mul : {x y : Float} {a b : ℤ} → Exact x a → Exact y b → nat_abs a * nat_abs b ≤ 2 ^ 53 → Exact (x ⊗ y) (a *ℤ b)
exact_mul {x} {y} p q l =
    record {
      sign = unlike p.sign q.sign;
      size = p.size * q.size;
      has = mul_has x y p.sign q.sign p.size q.size p.has q.has (subst₂ (λ i j. i * j ≤ 2 ^ 53) (sized p) (sized q) l);
      is = product p.sign q.sign p.size q.size ∙ ap₂ ◌*ℤ◌ p.is q.is;
    }

-- ---- sums

-- the larger less the smaller, with the larger's sign
apart : (s : Bool) (i j : ℕ) → i ≤ j → signed s (j - i) ≡ signed (not s) i +ℤ signed s j
apart false i j l = sym (is_pos j i (j - i) (omega arith)) ∙ sym (less_diff j i) ∙ +ℤ_comm (pos j) (neg_ℤ (pos i))
apart true i j l = neg_parts (pos (j - i)) ∙ equal 0 (j - i) i j (omega arith) ∙ sym (less_diff i j)

-- nothing has either sign
either_sign : (s t : Bool) (n : ℕ) → n ≡ 0 → signed s n ≡ signed t n
either_sign s t n z = rw z (go s ∙ sym (go t))
  where
    go : (s : Bool) → signed s 0 ≡ pos 0
    go true = refl
    go false = refl

-- ± n and ± k over one divisor c, as `sum` has them: n × c and k × c
module _ (c n k : ℕ) (some : 0 < c) (room : n + k ≤ 2 ^ 53) where
  exactly : (s : Bool) (m : ℕ) → m ≤ n + k → {a : ℕ} → a ≡ m * c → Exact (round binary64 s a c) (signed s m)
  exactly s m l e = record { sign = s; size = m; has = rounded s _ c m some e (omega arith); is = refl }

  less_times : (i j : ℕ) → i * c - j * c ≡ (i - j) * c
  less_times i j = ap₂ ◌-◌ (mul_comm i c) (mul_comm j c) ∙ sym (mul-sub c i j) ∙ mul_comm c (i - j)

  compared : (i j : ℕ) → ltb (i * c) (j * c) ≡ ltb i j
  compared i j = go (ltb i j) (ltb→lt i j) (nltb→le i j)
    where
      go : (t : Bool) → (T t → i < j) → (T (not t) → j ≤ i) → ltb (i * c) (j * c) ≡ t
      go true f g = lt-ltb (i * c) (j * c) (mul-lt-mul_of_pos_right (f tt) some)
      go false f g = le-ltb (i * c) (j * c) (mul-le-mul_right c (g tt))

  -- a sum of 0 has the sign that `sum` gives it
  kept : (s : Bool) → k ≤ n → signed (s && ltb k n) (n - k) ≡ signed s (n - k)
  kept false l = refl
  kept true l = go (ltb k n) (nltb→le k n)
    where
      go : (t : Bool) → (T (not t) → n ≤ k) → signed t (n - k) ≡ signed true (n - k)
      go true f = refl
      go false f = let h = f tt in either_sign false true (n - k) (omega arith)

  unlike_signs : (s : Bool) → Exact (cond (ltb n k) (round binary64 (not s) (k * c - n * c) c) (round binary64 (s && ltb k n) (n * c - k * c) c)) (signed s n +ℤ signed (not s) k)
  unlike_signs s = go (ltb n k) (ltb→lt n k) (nltb→le n k)
    where
      go : (t : Bool) → (T t → n < k) → (T (not t) → k ≤ n)
          → Exact (cond t (round binary64 (not s) (k * c - n * c) c) (round binary64 (s && ltb k n) (n * c - k * c) c)) (signed s n +ℤ signed (not s) k)
      go true f g =
          let l : n ≤ k = le_of_lt (f tt) in
          subst (Exact (round binary64 (not s) (k * c - n * c) c)) (apart (not s) n k l ∙ ap (λ t. signed t n +ℤ signed (not s) k) (not-not s))
          (exactly (not s) (k - n) (omega arith) (less_times k n))
      go false f g =
          let l = g tt in
          subst (Exact (round binary64 (s && ltb k n) (n * c - k * c) c)) (kept s l ∙ apart s k n l ∙ +ℤ_comm (signed (not s) k) (signed s n))
          (exactly (s && ltb k n) (n - k) (omega arith) (less_times n k))

  sums : (s t : Bool) → Exact (sum binary64 s (n * c) t (k * c) c) (signed s n +ℤ signed t k)
  unfolding sum
  sums false false = exactly false (n + k) (omega arith) (sym (add-mul n k c))
  sums true true = subst (Exact (round binary64 true (n * c + k * c) c)) (neg_ℤ-+ℤ (pos n) (pos k)) (exactly true (n + k) (omega arith) (sym (add-mul n k c)))
  sums false true = rw (compared n k) (unlike_signs false)
  sums true false = rw (compared n k, compared k n) (unlike_signs true)

add_has : (x y : Float) (s t : Bool) (n k : ℕ) → HasValue x s n 1 → HasValue y t k 1 → n + k ≤ 2 ^ 53 → Exact (x ⊕ y) (signed s n +ℤ signed t k)
unfolding add
add_has nan y s t n k p q b = absurd p
add_has (inf u) y s t n k p q b = absurd p
add_has (fin u m e) nan s t n k p q b = absurd q
add_has (fin u m e) (inf v) s t n k p q b = absurd q
add_has (fin u m e) (fin v l f) s t n k p q b =
    let c = down e * down f in
    let first : m * up e * down f ≡ n * c = over (m * up e) n (down e) (down f) p.1 in
    let second : l * up f * down e ≡ k * c = over (l * up f) k (down f) (down e) q.1 ∙ ap (λ i. k * i) (mul_comm (down f) (down e)) in
    rw (p.0, q.0, first, second) (sums c n k (mul-pos (down_pos e) (down_pos f)) b s t)
  where
    over : (i n a b : ℕ) → i * 1 ≡ n * a → i * b ≡ n * (a * b)
    over i n a b h = ap (λ j. j * b) (sym (mul-one i) ∙ h) ∙ mul_assoc n a b

pub exact_add : {x y : Float} {a b : ℤ} → Exact x a → Exact y b → nat_abs a + nat_abs b ≤ 2 ^ 53 → Exact (x ⊕ y) (a +ℤ b)
exact_add {x} {y} p q l =
    subst (Exact (x ⊕ y)) (ap₂ ◌+ℤ◌ p.is q.is)
    (add_has x y p.sign q.sign p.size q.size p.has q.has (subst₂ (λ i j. i + j ≤ 2 ^ 53) (sized p) (sized q) l))

-- ---- whole numbers

-- an integer converted
pub exact_of_lem : (z : ℤ) → nat_abs z ≤ 2 ^ 53 → Exact (of_int binary64 z) z
unfolding of_int
exact_of_lem (pos n) l = record { sign = false; size = n; has = round_whole binary64 false n l; is = refl }
exact_of_lem (negsuc n) l = record { sign = true; size = suc n; has = round_whole binary64 true (suc n) l; is = refl }

-- a float that equals a whole number; one that equals 0 may have either sign
pub exact_eq : (x : Float) (t : Bool) (n : ℕ) → eq x (fin t n (pos 0)) ≡ true → Exact x (signed t n)
unfolding eq
exact_eq nan t n h = absurd (true≢false (sym h))
exact_eq (inf s) t n h = absurd (true≢false (sym h))
exact_eq (fin s m e) t n h =
    let a = m * up e * 1 in
    let b = n * 1 * down e in
    let tests = both_true (eqb a b) (beq s t || eqb a 0) h in
    let value : a ≡ n * down e = eqb-true a b tests.0 ∙ ap (λ i. i * down e) (mul-one n) in
    record { sign = s; size = n; has = (refl, value); is = go s t (λ z. omega (arith, value, z, mul-le-mul_left n (down_pos e))) tests.1 }
  where
    go : (s t : Bool) → (m * up e * 1 ≡ 0 → n ≡ 0) → beq s t || eqb (m * up e * 1) 0 ≡ true → signed s n ≡ signed t n
    go true true f h = refl
    go false false f h = refl
    go true false f h = either_sign true false n (f (eqb-true (m * up e * 1) 0 h))
    go false true f h = either_sign false true n (f (eqb-true (m * up e * 1) 0 h))

pub is_none : (x : Float) → is_zero x ≡ true → Exact x (pos 0)
unfolding is_zero
is_none x h = exact_eq x false 0 h

pub is_unit_lem : (u : Float) → is_unit u ≡ true → (s : Bool) × (Exact u (signed s 1) × (eq u (fin true 1 (pos 0)) ≡ s))
unfolding is_unit
is_unit_lem u h = go (eq u (fin true 1 (pos 0))) refl
  where
    go : (t : Bool) → eq u (fin true 1 (pos 0)) ≡ t → (s : Bool) × (Exact u (signed s 1) × (eq u (fin true 1 (pos 0)) ≡ s))
    go true e = (true, (exact_eq u true 1 e, e))
    go false e = (false, (exact_eq u false 1 (sym (or-false (eq u (fin false 1 (pos 0)))) ∙ sym (ap (λ t. eq u (fin false 1 (pos 0)) || t) e) ∙ h), e))

-- the exact value by numerator and denominator
pub is_whole : {x : Float} {z : ℤ} → Exact x z → IsWhole x z
is_whole {x} p = subst (IsWhole x) p.is (go x p.sign p.size p.has)
  where
    go : (x : Float) (s : Bool) (n : ℕ) → HasValue x s n 1 → IsWhole x (signed s n)
    go nan s n v = absurd v
    go (inf t) s n v = absurd v
    go (fin false m e) false n v = record { is_finite = tt; value = ap pos (sym (mul-one (m * up e)) ∙ v.1) }
    go (fin true m e) true n v = record { is_finite = tt; value = ap (λ i. neg_ℤ (pos i)) (sym (mul-one (m * up e)) ∙ v.1) ∙ product true false n (down e) }
    go (fin false m e) true n v = absurd (true≢false (sym v.0))
    go (fin true m e) false n v = absurd (true≢false v.0)
