-- No accepted shape's numbers leave the range of the cast to an i32: a float of at most b square pixels gives at most b × 4096
-- units in size. Assumes nothing.
use Rattle.std.proofs.Common.{◌≡◌, ℕ, suc, ◌+◌, ◌-◌, ◌*◌, ◌/◌, ◌<◌, ◌≤◌, Bool, true, false, pos, nat_abs, ap, ◌∙◌, le_of_suc-le-suc, mul_assoc, div-lt_iff_lt-mul, add-mul, mul-le-mul_left, mul_left_comm, arith}
use lib.Ieee.{Float, nan, inf, fin, up, down}
use lib.Ieee.Fits.{down_pos}
use Rattle.limits.specs.Limits.{units_per_square_pixel}
use Rattle.covariance.specs.declared.Direction.{Direction}
use Rattle.covariance.specs.declared.Shape.TheVariants.{Round, Oval}
use Rattle.covariance.specs.Units.{nearest_whole, nearest_units}
use Rattle.covariance.specs.Cuts.{most_squares, most_units, Within}
use Rattle.covariance.specs.Shapes.{variances_fine, direction_fine, oval_xx, oval_xy, oval_yy, covariance_xx, covariance_xy, covariance_yy}
use Rattle.covariance.proofs.Fractions.{under, signed, size_of_negative, nearest_negative}
use Rattle.covariance.proofs.Halves.{units_at}
use Rattle.covariance.proofs.Sizes.{round_within, xx_within, xy_within, yy_within}

at_most : (k x d : ℕ) → 0 < d → x < 2 * (k * d) + 2 * d → x / (2 * d) ≤ k
at_most k x d p h =
    let top : (k + 1) * (2 * d) ≡ 2 * (k * d) + 2 * d = add-mul k 1 (2 * d) ∙ ap (λ n. n + 1 * (2 * d)) (mul_left_comm k 2 d) ∙ omega arith in
    let e : suc k * (2 * d) ≡ (k + 1) * (2 * d) = ap (λ n. n * (2 * d)) (omega arith) in
    le_of_suc-le-suc ((div-lt_iff_lt-mul (omega arith)).1 (omega arith))

nearest_le : (s : Bool) (n d k : ℕ) → 0 < d → n ≤ k * d → nat_abs (nearest_whole (signed s n) d) ≤ k
nearest_le false n d k p h = at_most k (2 * n + d) d p (omega arith)
nearest_le true n d k p h = rw (nearest_negative n d p, size_of_negative (pos (under (2 * n + d) (2 * d)))) (at_most k (2 * n + d - 1) d p (omega arith))

pub units_le : (b : ℕ) (x : Float) → Within b x → nat_abs (nearest_units x) ≤ units_per_square_pixel * b
units_le b nan h = absurd h
units_le b (inf s) h = absurd h
units_le b (fin s m e) h =
    let all : units_per_square_pixel * (m * up e) ≤ units_per_square_pixel * b * down e = omega (arith, mul-le-mul_left units_per_square_pixel h, mul_assoc units_per_square_pixel b (down e)) in
    rw (units_at s m e) (nearest_le s (units_per_square_pixel * (m * up e)) (down e) (units_per_square_pixel * b) (down_pos e) all)

pub round_range : (v : Float) → variances_fine (Round v) ≡ true
    → (nat_abs (covariance_xx (Round v)) ≤ units_per_square_pixel * 64) × (nat_abs (covariance_yy (Round v)) ≤ units_per_square_pixel * 64)
unfolding covariance_xx covariance_yy
round_range v h = let r = units_le 64 v (round_within v h) in (r, r)

pub oval_range : (long short : Float) (d : Direction) → variances_fine (Oval long short d) ≡ true → direction_fine (Oval long short d) ≡ true
    → (nat_abs (covariance_xx (Oval long short d)) ≤ most_units)
    × (nat_abs (covariance_xy (Oval long short d)) ≤ most_units)
    × (nat_abs (covariance_yy (Oval long short d)) ≤ most_units)
unfolding covariance_xx covariance_xy covariance_yy
oval_range long short d W D = (
  units_le most_squares (oval_xx long short d) (xx_within long short d W D),
  units_le most_squares (oval_xy long short d) (xy_within long short d W D),
  units_le most_squares (oval_yy long short d) (yy_within long short d W D),
)
