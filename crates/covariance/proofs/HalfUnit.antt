-- The nearest whole number of 4096 times a float lies within half a unit of it, for every finite float: so do all numbers of
-- a Round and of an Oval that are accepted. Assumes nothing.
use Rattle.std.proofs.Common.{◌≡◌, ℕ, zero, suc, ◌+◌, ◌-◌, ◌*◌, ◌/◌, ◌<◌, ◌≤◌, Bool, true, false, cond, not, T, ltb, pos, negsuc, ◌-ℤ◌, ◌*ℤ◌, neg_ℤ, nat_abs, sym, ap, ◌∙◌, subst, mul_assoc, mul_comm, div-mul-le_self, arith, ltb→lt, nltb→le}
use native.Mathlib.Nat.{lt-div-mul-add}
use lib.IntN.{neg_ℤ-+ℤ}
use lib.Ieee.{Float, nan, inf, fin, up, down}
use lib.Ieee.Fits.{down_pos}
use lib.Ieee.Scale.{finite}
use Rattle.limits.specs.Limits.{units_per_square_pixel}
use Rattle.covariance.specs.declared.Direction.{Direction}
use Rattle.covariance.specs.declared.Shape.TheVariants.{Round, Oval}
use Rattle.covariance.specs.Units.{nearest_whole, nearest_units, WithinHalfUnit}
use Rattle.covariance.specs.Cuts.{most_squares, Within}
use Rattle.covariance.specs.Shapes.{variances_fine, direction_fine, oval_xx, oval_xy, oval_yy, covariance_xx, covariance_xy, covariance_yy}
use Rattle.covariance.proofs.Fractions.{under, signed, size_of_negative, times_negative, nearest_negative}
use Rattle.covariance.proofs.Halves.{units_at}
use Rattle.covariance.proofs.Sizes.{round_within, xx_within, xy_within, yy_within}

-- ---- a distance of signed numbers
gap : (x y d : ℕ) → 2 * x ≤ 2 * y + d → 2 * y ≤ 2 * x + d → 2 * nat_abs (pos x -ℤ pos y) ≤ d
gap x zero d h k = omega arith
gap x (suc y) d h k = go (ltb x (suc y)) (ltb→lt x (suc y)) (nltb→le x (suc y))
  where
    go : (t : Bool) → (T t → x < suc y) → (T (not t) → suc y ≤ x) → 2 * nat_abs (cond t (negsuc (suc y - suc x)) (pos (x - suc y))) ≤ d
    go true f g = let l = f tt in omega arith
    go false f g = let l = g tt in omega arith

-- q is nearest to n / d
near : (s : Bool) (n d q : ℕ) → 2 * (d * q) ≤ 2 * n + d → 2 * n ≤ 2 * (d * q) + d → 2 * nat_abs (pos d *ℤ signed s q -ℤ signed s n) ≤ d
near false n d q h k = gap (d * q) n d h k
near true n d q h k =
    let turned : nat_abs (pos (d * q) -ℤ pos n) ≡ nat_abs (neg_ℤ (pos (d * q)) -ℤ neg_ℤ (pos n)) = sym (size_of_negative (pos (d * q) -ℤ pos n)) ∙ ap nat_abs (neg_ℤ-+ℤ (pos (d * q)) (neg_ℤ (pos n))) in
    rw (times_negative d q) (subst (λ a. 2 * a ≤ d) turned (gap (d * q) n d h k))

quotient : (q d : ℕ) → q * (2 * d) ≡ 2 * (d * q)
quotient q d = mul_comm q (2 * d) ∙ mul_assoc 2 d q

nearest_near : (s : Bool) (n d : ℕ) → 0 < d → 2 * nat_abs (pos d *ℤ nearest_whole (signed s n) d -ℤ signed s n) ≤ d
nearest_near false n d p =
    let q = (2 * n + d) / (2 * d) in
    let l = div-mul-le_self (2 * n + d) (2 * d) in
    let r = lt-div-mul-add {a = 2 * n + d} {b = 2 * d} (omega arith) in
    near false n d q (omega (arith, quotient q d)) (omega (arith, quotient q d))
nearest_near true n d p =
    let q = under (2 * n + d) (2 * d) in
    let l = div-mul-le_self (2 * n + d - 1) (2 * d) in
    let r = lt-div-mul-add {a = 2 * n + d - 1} {b = 2 * d} (omega arith) in
    rw (nearest_negative n d p) (near true n d q (omega (arith, quotient q d)) (omega (arith, quotient q d)))

pub half_unit : (x : Float) → T (finite x) → WithinHalfUnit (nearest_units x) x
unfolding WithinHalfUnit
half_unit nan t = absurd t
half_unit (inf s) t = absurd t
half_unit (fin false m e) t = (tt, rw (units_at false m e) (nearest_near false (units_per_square_pixel * (m * up e)) (down e) (down_pos e)))
half_unit (fin true m e) t = (tt, rw (units_at true m e, times_negative units_per_square_pixel (m * up e)) (nearest_near true (units_per_square_pixel * (m * up e)) (down e) (down_pos e)))

within_half_unit : (b : ℕ) (x : Float) → Within b x → WithinHalfUnit (nearest_units x) x
within_half_unit b nan h = absurd h
within_half_unit b (inf s) h = absurd h
within_half_unit b (fin s m e) h = half_unit (fin s m e) tt

-- ---- the numbers of accepted shapes
pub round_half_unit : (v : Float) → variances_fine (Round v) ≡ true → WithinHalfUnit (covariance_xx (Round v)) v × WithinHalfUnit (covariance_yy (Round v)) v
unfolding covariance_xx covariance_yy
round_half_unit v h = let w = within_half_unit 64 v (round_within v h) in (w, w)

pub oval_half_unit : (long short : Float) (d : Direction) → variances_fine (Oval long short d) ≡ true → direction_fine (Oval long short d) ≡ true
    → WithinHalfUnit (covariance_xx (Oval long short d)) (oval_xx long short d)
    × WithinHalfUnit (covariance_xy (Oval long short d)) (oval_xy long short d)
    × WithinHalfUnit (covariance_yy (Oval long short d)) (oval_yy long short d)
unfolding covariance_xx covariance_xy covariance_yy
oval_half_unit long short d W D = (
  within_half_unit most_squares (oval_xx long short d) (xx_within long short d W D),
  within_half_unit most_squares (oval_xy long short d) (xy_within long short d W D),
  within_half_unit most_squares (oval_yy long short d) (yy_within long short d W D),
)
