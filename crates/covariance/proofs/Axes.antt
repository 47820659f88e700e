-- An Oval along an axis is accepted, and has exactly the axis-aligned covariance: the units of its two variances, and xy 0.
-- The squares of the cosine and the sine are 1 and 0, so each sum has one variance times 1 and the other times 0 (proofs/Zeros).
-- Assumes nothing.
use Rattle.std.proofs.Common.{◌≡◌, Bool, true, false, T, ℤ, pos, refl, ap, ◌∙◌, lit<, lit≤}
use lib.Ieee.{Float, binary64, unlike, fits}
use lib.Ieee.Fits.{mul-fits}
use Rattle.limits.proofs.Laws.{both_true}
use Rattle.covariance.specs.declared.Direction.{Direction}
use Rattle.covariance.specs.declared.Shape.TheVariants.{Oval}
use Rattle.std.specs.Prelude.{Ok}
use Rattle.covariance.specs.Floats.{◌⊕◌, ◌⊖◌, ◌⊗◌}
use Rattle.covariance.specs.Units.{nearest_units}
use Rattle.covariance.specs.Cuts.{Within}
use Rattle.covariance.specs.Shapes.{variance_in_range, direction_in_range, variances_fine, direction_fine, oval_xx, oval_xy, oval_yy, covariance_xx, covariance_xy, covariance_yy}
use Rattle.covariance.specs.Answer.{covariance_answer}
use Rattle.covariance.specs.Axes.{is_zero, is_unit, along_x, along_y}
use Rattle.covariance.proofs.Halves.{units_of_zero}
use Rattle.covariance.proofs.Sizes.{within_mul, within_sub, variance_within, weighted}
use Rattle.covariance.proofs.Accepted.{accepted_along_x, accepted_along_y}
use Rattle.covariance.proofs.Zeros.{zero_of, unit_of, is_zero_lem, is_unit_lem, unit_square, zero_square, unit_times_zero, zero_times_unit, times_zero, plus_zero, times_unit, plus_comm}

-- ---- an oval's floats, where one of cosine and sine is 1 or −1 and the other a zero
module _ (p q : Float) (v : T (fits binary64 p)) (P : Within 64 p) (Q : Within 64 q) (s t : Bool) where
  first : nearest_units (p ⊗ (unit_of s ⊗ unit_of s) ⊕ q ⊗ (zero_of t ⊗ zero_of t)) ≡ nearest_units p
  first =
      let z = times_zero 64 q false Q in
      rw (unit_square s, zero_square t, z.1)
      (plus_zero (p ⊗ unit_of false) z.0 (mul-fits binary64 p (unit_of false)) (within_mul 64 1 p (unit_of false) (lit< tt) P (lit≤ tt))
      ∙ times_unit p v P)

  second : nearest_units (q ⊗ (zero_of t ⊗ zero_of t) ⊕ p ⊗ (unit_of s ⊗ unit_of s)) ≡ nearest_units p
  second =
      ap nearest_units
      (plus_comm 64 64 (q ⊗ (zero_of t ⊗ zero_of t)) (p ⊗ (unit_of s ⊗ unit_of s))
      (weighted q (zero_of t) (zero_of t) Q (lit≤ tt) (lit≤ tt)) (weighted p (unit_of s) (unit_of s) P (lit≤ tt) (lit≤ tt)))
      ∙ first

mixed : (p q z : Float) (t : Bool) → Within 64 p → Within 64 q → z ≡ zero_of t → nearest_units ((p ⊖ q) ⊗ z) ≡ pos 0
mixed p q z t P Q e =
    let w = times_zero 128 (p ⊖ q) t (within_sub 64 64 p q (lit< tt) P Q) in
    rw (e, w.1) (units_of_zero w.0 0 (pos 0) refl)

module _ (long short : Float) (L : variance_in_range long ≡ true) (S : variance_in_range short ≡ true) where
  answered : (d : Direction) (xx xy yy : ℤ) → direction_in_range d ≡ true
      → nearest_units (oval_xx long short d) ≡ xx → nearest_units (oval_xy long short d) ≡ xy → nearest_units (oval_yy long short d) ≡ yy
      → covariance_answer (Oval long short d) ≡ Ok (record { xx = xx; xy = xy; yy = yy })
  unfolding variances_fine direction_fine covariance_xx covariance_xy covariance_yy
  answered d xx xy yy D x z y = rw (L, S, D, x, z, y)

  module _ (l : T (fits binary64 long)) (k : T (fits binary64 short)) where
    x_axis : (d : Direction) (s t : Bool) → d.cosine ≡ unit_of s → d.sine ≡ zero_of t → direction_in_range d ≡ true
        → covariance_answer (Oval long short d) ≡ Ok (record { xx = (nearest_units long); xy = (pos 0); yy = (nearest_units short) })
    x_axis d s t u z D =
        answered d (nearest_units long) (pos 0) (nearest_units short) D
        (rw (u, z) (first long short l (variance_within long L) (variance_within short S) s t))
        (mixed long short (d.cosine ⊗ d.sine) (unlike s t) (variance_within long L) (variance_within short S) (rw (u, z) (unit_times_zero s t)))
        (rw (u, z) (second short long k (variance_within short S) (variance_within long L) s t))

    y_axis : (d : Direction) (s t : Bool) → d.cosine ≡ zero_of s → d.sine ≡ unit_of t → direction_in_range d ≡ true
        → covariance_answer (Oval long short d) ≡ Ok (record { xx = (nearest_units short); xy = (pos 0); yy = (nearest_units long) })
    y_axis d s t z u D =
        answered d (nearest_units short) (pos 0) (nearest_units long) D
        (rw (z, u) (second short long k (variance_within short S) (variance_within long L) t s))
        (mixed long short (d.cosine ⊗ d.sine) (unlike s t) (variance_within long L) (variance_within short S) (rw (z, u) (zero_times_unit s t)))
        (rw (z, u) (first long short l (variance_within long L) (variance_within short S) t s))

    -- "where one of c, s is 0 and the other 1 or −1 (the two zeros count as equal)": a cosine of 1 or −1 leaves the variances in
    -- their places, and a sine of 1 or −1 exchanges them
    module _ (d : Direction) (c : T (fits binary64 d.cosine)) (s : T (fits binary64 d.sine)) where
      pub aligned_x : along_x d ≡ true → covariance_answer (Oval long short d) ≡ Ok (record { xx = (nearest_units long); xy = (pos 0); yy = (nearest_units short) })
      unfolding along_x
      aligned_x h =
          let tests = both_true (is_unit d.cosine) (is_zero d.sine) h in
          let u = is_unit_lem d.cosine c tests.0 in
          let z = is_zero_lem d.sine s tests.1 in
          x_axis d u.0 z.0 u.1 z.1 (accepted_along_x d h)

      pub aligned_y : along_y d ≡ true → covariance_answer (Oval long short d) ≡ Ok (record { xx = (nearest_units short); xy = (pos 0); yy = (nearest_units long) })
      unfolding along_y
      aligned_y h =
          let tests = both_true (is_zero d.cosine) (is_unit d.sine) h in
          let z = is_zero_lem d.cosine c tests.0 in
          let u = is_unit_lem d.sine s tests.1 in
          y_axis d z.0 u.0 z.1 u.1 (accepted_along_y d h)
