-- Bounds on the size of a float. Rounding takes no fraction of at most b past b, for a whole number b below 2 ^ 53: so a
-- product is within the product of its operands' bounds, and a sum or a difference within their sum, whatever the signs. A
-- test of a range bounds what passes it. So no entry of an accepted shape is above 128 square pixels. Assumes nothing.
use Rattle.std.proofs.Common.{◌≡◌, ℕ, ◌+◌, ◌-◌, ◌*◌, ◌/◌, ◌^◌, ◌<◌, ◌≤◌, Bool, true, false, cond, ◌&&◌, ◌||◌, T, eqb, ltb, ℤ, pos, sym, ap, ◌∙◌, subst, true≢false, le_trans, le_of_eq, lt_of_lt_of_le, lt_of_le_of_lt, le_of_lt, mul-le-mul_right, mul_assoc, mul_comm, add-mul, mul-le-mul, mul-lt-mul_of_pos_right, mul-pos, mul-one, mul_right_comm, le_of_mul-le-mul_right, div-one, mul_left_comm, arith, lit<, lit≤, eqb→eq, ltb→lt, pow_pos, pow-add}
use mathlib.Core.Bool.{beq}
use native.Mathlib.Nat.{div-le_of_le-mul, mod-one}
use lib.Ieee.{Float, nan, inf, fin, binary64, up, down, size, unlike, round, add, sum, sub, mul, neg, le}
use lib.Ieee.Fits.{down_pos, and_l, round_is}
use lib.Ieee.Digits.{size-le}
use lib.Ieee.Exact.{HasValue, units_val}
use lib.Ieee.Nearest.{closest, closest_mono}
use Rattle.limits.proofs.Laws.{both_true}
use Rattle.covariance.specs.declared.Direction.{Direction}
use Rattle.covariance.specs.declared.Shape.TheVariants.{Round, Oval}
use Rattle.covariance.specs.Floats.{◌⊕◌, ◌⊖◌, ◌⊗◌, in_range}
use Rattle.covariance.specs.Cuts.{most_squares, Within}
use Rattle.covariance.specs.Shapes.{variance_in_range, cosine_in_range, square_in_range, direction_in_range, variances_fine, direction_fine, oval_xx, oval_xy, oval_yy}

-- ---- rounding
of_value : (x : Float) (s : Bool) (n d b : ℕ) → 0 < d → HasValue x s n d → n ≤ b * d → Within b x
of_value nan s n d b p v h = v
of_value (inf t) s n d b p v h = v
of_value (fin t m e) s n d b p v h =
    le_of_mul-le-mul_right (le_trans (le_of_eq v.1) (le_trans (mul-le-mul_right (down e) h) (le_of_eq (mul_right_comm b d (down e))))) p

closest_to_whole : (c : ℕ) → closest c 1 ≡ c
closest_to_whole c = simp (div-one, mod-one)

split : (k : ℕ) → k ≤ 1074 → 2 ^ (1074 - k) * 2 ^ k ≡ 2 ^ 1074
split k h =
    let whole : 1074 - k + k ≡ 1074 = omega arith in
    sym (pow-add 2 (1074 - k) k) ∙ ap (λ x. 2 ^ x) whole

module _ (s : Bool) (n d b : ℕ) (p : 0 < d) (small : b < 2 ^ 53) (h : n ≤ b * d) where
  in_units : n * 2 ^ 1074 ≤ b * d * 2 ^ 1074
  in_units = mul-le-mul_right (2 ^ 1074) h

  room : b * 2 ^ 1074 < 2 ^ 1127
  room = mul-lt-mul_of_pos_right small (pow_pos 1074)

  dropped : size (n * 2 ^ 1074 / d) - 53 ≤ 1074
  dropped =
      let z = size (n * 2 ^ 1074 / d) in
      let fits : z ≤ 1127 = size-le (n * 2 ^ 1074 / d) 1127 (lt_of_le_of_lt (div-le_of_le-mul d (le_trans in_units (le_of_eq (mul_right_comm b d (2 ^ 1074) ∙ mul_comm (b * 2 ^ 1074) d)))) room) in
      omega arith

  -- the result is q × 2 ^ k units of the format's smallest value, and b is c × 2 ^ k of them, so q is at most c
  pub within_round : Within b (round binary64 s n d)
  within_round =
      let k = size (n * 2 ^ 1074 / d) - 53 in
      let q = closest (n * 2 ^ 1074) (d * 2 ^ k) in
      let c = b * 2 ^ (1074 - k) in
      let same : b * d * 2 ^ 1074 ≡ c * (d * 2 ^ k) = ap (λ x. b * d * x) (sym (split k dropped)) ∙ simp (mul_assoc, mul_comm, mul_left_comm) in
      let most : q ≤ c = le_trans (closest_mono (n * 2 ^ 1074) (d * 2 ^ k) c 1 (mul-pos p (pow_pos k)) (lit< tt) (le_trans (le_of_eq (mul-one (n * 2 ^ 1074))) (le_trans in_units (le_of_eq same)))) (le_of_eq (closest_to_whole c)) in
      let all : q * 2 ^ k ≤ b * 2 ^ 1074 = le_trans (mul-le-mul_right (2 ^ k) most) (le_of_eq (mul_assoc b (2 ^ (1074 - k)) (2 ^ k) ∙ ap (λ x. b * x) (split k dropped))) in
      of_value (round binary64 s n d) s (q * 2 ^ k) (2 ^ 1074) b (pow_pos 1074)
      (subst (λ x. HasValue x s (q * 2 ^ k) (2 ^ 1074)) (sym (round_is binary64 s n d))
      (units_val binary64 s q k (lt_of_le_of_lt all (lt_of_lt_of_le room (lit≤ tt))))) all

-- ---- the operations
product : (m d a n e b : ℕ) → m ≤ a * d → n ≤ b * e → m * n ≤ a * b * (d * e)
product m d a n e b h k = le_trans (mul-le-mul h k) (le_of_eq (simp (mul_assoc, mul_comm, mul_left_comm)))

pub within_mul : (a b : ℕ) (x y : Float) → a * b < 2 ^ 53 → Within a x → Within b y → Within (a * b) (x ⊗ y)
unfolding mul
within_mul a b nan y r h k = absurd h
within_mul a b (inf s) y r h k = absurd h
within_mul a b (fin s m e) nan r h k = absurd k
within_mul a b (fin s m e) (inf t) r h k = absurd k
within_mul a b (fin s m e) (fin t n d) r h k =
    within_round (unlike s t) (m * up e * (n * up d)) (down e * down d) (a * b) (mul-pos (down_pos e) (down_pos d)) r (product (m * up e) (down e) a (n * up d) (down d) b h k)

within_cond : (b : ℕ) (t : Bool) (x y : Float) → Within b x → Within b y → Within b (cond t x y)
within_cond b true x y h k = h
within_cond b false x y h k = k

within_sum : (a b : ℕ) (s : Bool) (m : ℕ) (t : Bool) (n d : ℕ) → 0 < d → a + b < 2 ^ 53 → m ≤ a * d → n ≤ b * d → Within (a + b) (sum binary64 s m t n d)
unfolding sum
within_sum a b s m t n d p r h k =
    let both = add-mul a b d in
    within_cond (a + b) (beq s t) _ _ (within_round s (m + n) d (a + b) p r (omega arith))
    (within_cond (a + b) (ltb m n) _ _ (within_round t (n - m) d (a + b) p r (omega arith))
    (within_round (s && ltb n m) (m - n) d (a + b) p r (omega arith)))

pub within_add : (a b : ℕ) (x y : Float) → a + b < 2 ^ 53 → Within a x → Within b y → Within (a + b) (x ⊕ y)
unfolding add
within_add a b nan y r h k = absurd h
within_add a b (inf s) y r h k = absurd h
within_add a b (fin s m e) nan r h k = absurd k
within_add a b (fin s m e) (inf t) r h k = absurd k
within_add a b (fin s m e) (fin t n d) r h k =
    within_sum a b s (m * up e * down d) t (n * up d * down e) (down e * down d) (mul-pos (down_pos e) (down_pos d)) r
    (le_trans (mul-le-mul_right (down d) h) (le_of_eq (mul_assoc a (down e) (down d))))
    (le_trans (mul-le-mul_right (down e) k) (le_of_eq (simp (mul_assoc, mul_comm))))

pub within_sub : (a b : ℕ) (x y : Float) → a + b < 2 ^ 53 → Within a x → Within b y → Within (a + b) (x ⊖ y)
unfolding sub neg
within_sub a b x y r h k = within_add a b x (neg y) r h (negated y k)
  where
    negated : (y : Float) → Within b y → Within b (neg y)
    negated nan k = k
    negated (inf s) k = k
    negated (fin s m e) k = k

pub wider : (a b : ℕ) (x : Float) → a ≤ b → Within a x → Within b x
wider a b nan r h = h
wider a b (inf s) r h = h
wider a b (fin s m e) r h = le_trans h (mul-le-mul_right (down e) r)

-- ---- a test of a range whose ends are whole numbers, at most b in size
less_or_equal : (a b : ℕ) (q : Bool) → (T q → a ≡ b) → ltb a b || q ≡ true → a ≤ b
less_or_equal a b q e h = go (ltb a b) q (ltb→lt a b) e h
  where
    go : (p q : Bool) → (T p → a < b) → (T q → a ≡ b) → p || q ≡ true → a ≤ b
    go true q f g h = le_of_lt (f tt)
    go false true f g h = le_of_eq (g tt)
    go false false f g h = absurd (true≢false (sym h))

from_below : (s : Bool) (l i m : ℕ) (e : ℤ) → le (fin s l (pos i)) (fin true m e) ≡ true → m * up e * 1 ≤ l * 2 ^ i * down e
unfolding le
from_below true l i m e h =
    let p = m * up e * 1 in
    let q = l * 2 ^ i * down e in
    less_or_equal p q (eqb q p && true) (λ t. sym (eqb→eq q p (and_l (eqb q p) true t))) h
from_below false l i m e h =
    let p = m * up e * 1 in
    let q = l * 2 ^ i * down e in
    le_of_eq (sym (eqb→eq q p (and_l (eqb q p) (eqb q 0) (subst T (sym h) tt))))

from_above : (h i m : ℕ) (e : ℤ) → le (fin false m e) (fin false h (pos i)) ≡ true → m * up e * 1 ≤ h * 2 ^ i * down e
unfolding le
from_above h i m e t =
    let p = m * up e * 1 in
    let q = h * 2 ^ i * down e in
    less_or_equal p q (eqb p q && true) (λ t. eqb→eq p q (and_l (eqb p q) true t)) t

pub within_range : (s : Bool) (l i h j b : ℕ) → l * 2 ^ i ≤ b → h * 2 ^ j ≤ b → (x : Float) → in_range (fin s l (pos i)) (fin false h (pos j)) x ≡ true → Within b x
unfolding in_range le
within_range s l i h j b L H nan t = absurd (true≢false (sym t))
within_range s l i h j b L H (inf true) t = absurd (true≢false (sym t))
within_range s l i h j b L H (inf false) t = absurd (true≢false (sym t))
within_range s l i h j b L H (fin true m e) t =
    le_trans (le_of_eq (sym (mul-one (m * up e)))) (le_trans (from_below s l i m e (both_true (le (fin s l (pos i)) (fin true m e)) (le (fin true m e) (fin false h (pos j))) t).0) (mul-le-mul_right (down e) L))
within_range s l i h j b L H (fin false m e) t =
    le_trans (le_of_eq (sym (mul-one (m * up e)))) (le_trans (from_above h j m e (both_true (le (fin s l (pos i)) (fin false m e)) (le (fin false m e) (fin false h (pos j))) t).1) (mul-le-mul_right (down e) H))

pub variance_within : (x : Float) → variance_in_range x ≡ true → Within 64 x
unfolding variance_in_range
variance_within x h = within_range false 0 0 1 6 64 (lit≤ tt) (lit≤ tt) x h

cosine_within : (x : Float) → cosine_in_range x ≡ true → Within 1 x
unfolding cosine_in_range
cosine_within x h = within_range true 1 0 1 0 1 (lit≤ tt) (lit≤ tt) x h

pub round_within : (v : Float) → variances_fine (Round v) ≡ true → Within 64 v
unfolding variances_fine
round_within v h = variance_within v h

-- ---- the three floats of an oval
pub weighted : (a x y : Float) → Within 64 a → Within 1 x → Within 1 y → Within 64 (a ⊗ (x ⊗ y))
weighted a x y h k l = within_mul 64 1 a (x ⊗ y) (lit< tt) h (within_mul 1 1 x y (lit< tt) k l)

weighted_sum : (a b x y : Float) → Within 64 a → Within 64 b → Within 1 x → Within 1 y → Within most_squares (a ⊗ (x ⊗ x) ⊕ b ⊗ (y ⊗ y))
weighted_sum a b x y A B X Y = within_add 64 64 (a ⊗ (x ⊗ x)) (b ⊗ (y ⊗ y)) (lit< tt) (weighted a x x A X X) (weighted b y y B Y Y)

module _ (long short : Float) (d : Direction) (W : variances_fine (Oval long short d) ≡ true) (D : direction_fine (Oval long short d) ≡ true) where
  variances_within : Within 64 long × Within 64 short
  unfolding variances_fine
  variances_within =
      let h = both_true (variance_in_range long) (variance_in_range short) W in
      (variance_within long h.0, variance_within short h.1)

  direction_within : Within 1 d.cosine × Within 1 d.sine
  unfolding direction_fine direction_in_range
  direction_within =
      let c = cosine_in_range d.cosine in
      let s = cosine_in_range d.sine in
      let h = both_true c s (both_true (c && s) (square_in_range (d.cosine ⊗ d.cosine ⊕ d.sine ⊗ d.sine)) D).0 in
      (cosine_within d.cosine h.0, cosine_within d.sine h.1)

  pub xx_within : Within most_squares (oval_xx long short d)
  xx_within = weighted_sum long short d.cosine d.sine variances_within.0 variances_within.1 direction_within.0 direction_within.1

  pub yy_within : Within most_squares (oval_yy long short d)
  yy_within = weighted_sum long short d.sine d.cosine variances_within.0 variances_within.1 direction_within.1 direction_within.0

  pub xy_within : Within most_squares (oval_xy long short d)
  xy_within =
      within_mul 128 1 (long ⊖ short) (d.cosine ⊗ d.sine) (lit< tt)
      (within_sub 64 64 long short (lit< tt) variances_within.0 variances_within.1)
      (within_mul 1 1 d.cosine d.sine (lit< tt) direction_within.0 direction_within.1)
