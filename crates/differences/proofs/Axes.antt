-- The directional difference along an axis is exact: the cosine and the sine are the whole numbers 0 and 1 or −1, and whole
-- numbers are multiplied and added exactly. So it has the value of an undivided first difference, or of its negative. Assumes
-- nothing.
use mathlib.Core.Path.{◌≡◌, refl, sym, ap, subst, subst₂, ◌∙◌}
use mathlib.Core.Bool.{Bool, true, false, not, cond}
use mathlib.Core.List.{List}
use Prim.Native.Nat.{ℕ, zero, suc, ◌+◌, ◌*◌, ◌^◌, ◌≤◌, ◌<◌}
use native.Mathlib.Nat.{le_trans, one-mul}
use native.Mathlib.Omega.{arith}
use lib.Dec.{T, ltb, ltb→lt, nltb→le, lit≤}
use lib.ListN.{length, get_or, get_or-eq_default}
use lib.IntN.{ℤ, pos, negsuc, neg_ℤ, nat_abs, ◌+ℤ◌, ◌*ℤ◌, +ℤ_idl, +ℤ_idr, zero-*ℤ}
use lib.Ieee.{Float, nan, binary64, of_int}
use Rattle.limits.specs.Limits.{largest_pixel}
use Rattle.limits.proofs.Laws.{both_true}
use Rattle.covariance.specs.declared.Direction.{Direction}
use Rattle.covariance.specs.Floats.{◌⊗◌}
use Rattle.covariance.specs.Axes.{is_zero, is_unit, along_x, along_y}
use Rattle.covariance.proofs.Fractions.{signed}
use Rattle.image.specs.Image.{nearest_place, pixel_at}
use Rattle.averaging.proofs.Images.{every_place_lem, image_entry}
use Rattle.differences.specs.declared.Difference.{Difference}
use Rattle.differences.specs.declared.Difference.TheVariants.{FirstX, FirstY, SecondX, SecondY, Mixed}
use Rattle.differences.specs.Stencils.{stencil_at, stencil_of, differences_of}
use Rattle.differences.specs.Directional.{directional, directional_of, IsWhole, turned_by}
use Rattle.differences.specs.Distances.{total_size}
use Rattle.differences.proofs.Stencils.{small_sum}
use Rattle.differences.proofs.Wholes.{Exact, unit_size, exact_mul, exact_add, exact_of_lem, is_none, is_unit_lem, is_whole}

-- ---- 1, −1 and 0 times a whole number
turned : Bool → ℤ → ℤ
turned s z = cond s (neg_ℤ z) z

unit_times : (s : Bool) (z : ℤ) → signed s 1 *ℤ z ≡ turned s z
unfolding turned
unit_times false (pos n) = ap pos (one-mul n)
unit_times false (negsuc n) = ap (λ i. neg_ℤ (pos i)) (one-mul (suc n))
unit_times true (pos n) = ap (λ i. neg_ℤ (pos i)) (one-mul n)
unit_times true (negsuc n) = ap pos (one-mul (suc n))

turned_size : (s : Bool) (z : ℤ) → nat_abs (turned s z) ≡ nat_abs z
unfolding turned
turned_size false z = refl
turned_size true (pos zero) = refl
turned_size true (pos (suc n)) = refl
turned_size true (negsuc n) = refl

module _ (z : ℤ) (small : nat_abs z ≤ 2 ^ 53) {u : Float} where
  by_unit : (s : Bool) → Exact u (signed s 1) → Exact (u ⊗ of_int binary64 z) (turned s z)
  by_unit s e = subst (Exact (u ⊗ of_int binary64 z)) (unit_times s z) (exact_mul e (exact_of_lem z small) (rw (unit_size s) (omega arith)))

  by_none : Exact u (pos 0) → Exact (u ⊗ of_int binary64 z) (pos 0)
  by_none e = subst (Exact (u ⊗ of_int binary64 z)) (zero-*ℤ z) (exact_mul e (exact_of_lem z small) (omega arith))

-- ---- a direction along an axis, over any two differences of a size that floats hold
module _ (dx dy : ℤ) (X : nat_abs dx ≤ 2 ^ 53) (Y : nat_abs dy ≤ 2 ^ 53) (d : Direction) where
  along_x_lem : along_x d ≡ true → IsWhole (directional d dx dy) (turned_by d.cosine dx)
  unfolding along_x turned
  along_x_lem h =
      let tests = both_true (is_unit d.cosine) (is_zero d.sine) h in
      let u = is_unit_lem d.cosine tests.0 in
      is_whole (subst (Exact (directional d dx dy)) (+ℤ_idr (turned u.0 dx) ∙ ap (λ s. turned s dx) (sym u.1.1))
      (exact_add (by_unit dx X u.0 u.1.0) (by_none dy Y (is_none d.sine tests.1)) (rw (turned_size u.0 dx) (omega arith))))

  along_y_lem : along_y d ≡ true → IsWhole (directional d dx dy) (turned_by d.sine dy)
  unfolding along_y turned
  along_y_lem h =
      let tests = both_true (is_zero d.cosine) (is_unit d.sine) h in
      let u = is_unit_lem d.sine tests.1 in
      is_whole (subst (Exact (directional d dx dy)) (+ℤ_idl (turned u.0 dy) ∙ ap (λ s. turned s dy) (sym u.1.1))
      (exact_add (by_none dx X (is_none d.cosine tests.0)) (by_unit dy Y u.0 u.1.0) (rw (turned_size u.0 dy) (omega arith))))

-- ---- over a picture, at every place
module _ (w h : ℕ) (pixels : List ℕ) (bound : (i : ℕ) → i < length pixels → get_or pixels i 0 ≤ largest_pixel) where
  pixel_bound : (x y : ℤ) → pixel_at w h pixels x y ≤ largest_pixel
  unfolding pixel_at
  pixel_bound x y = let i = nearest_place h y * w + nearest_place w x in go i (ltb i (length pixels)) (ltb→lt i (length pixels)) (nltb→le i (length pixels))
    where
      go : (i : ℕ) (t : Bool) → (T t → i < length pixels) → (T (not t) → length pixels ≤ i) → get_or pixels i 0 ≤ largest_pixel
      go i true f g = bound i (f tt)
      go i false f g = rw (get_or-eq_default pixels 0 (g tt)) (omega arith)

  -- every difference is one of the whole numbers up to 2 ^ 53, among which floats have no gaps
  held : (which : Difference) (x y : ℕ) → nat_abs (stencil_at (stencil_of which) w h pixels x y) ≤ 2 ^ 53
  held which x y =
      le_trans (small_sum (λ dx dy. pixel_at w h pixels (pos x +ℤ dx) (pos y +ℤ dy)) largest_pixel (λ dx dy. pixel_bound (pos x +ℤ dx) (pos y +ℤ dy)) (stencil_of which))
      (few which)
    where
      few : (which : Difference) → total_size (stencil_of which) * largest_pixel ≤ 2 ^ 53
      few FirstX = lit≤ tt
      few FirstY = lit≤ tt
      few SecondX = lit≤ tt
      few SecondY = lit≤ tt
      few Mixed = lit≤ tt

  -- CONVERTED EXACTLY: the float that a difference is converted to has its value, at every place
  pub converted_exactly : (which : Difference) (i : ℕ) → i < w * h
      → IsWhole (of_int binary64 (get_or (differences_of which w h pixels) i (pos 0))) (get_or (differences_of which w h pixels) i (pos 0))
  unfolding differences_of
  converted_exactly which =
      every_place_lem w h (λ i. IsWhole (of_int binary64 (get_or (differences_of which w h pixels) i (pos 0))) (get_or (differences_of which w h pixels) i (pos 0)))
      (λ x y p q. subst (λ z. IsWhole (of_int binary64 z) z) (sym (image_entry w h (stencil_at (stencil_of which) w h pixels) (pos 0) x y p q))
      (is_whole (exact_of_lem (stencil_at (stencil_of which) w h pixels x y) (held which x y))))

  -- what holds at every column and row of the two first differences holds of every entry
  every_entry : (which : Difference) (d : Direction) (u : Float)
      → ((x y : ℕ) → IsWhole (directional d (stencil_at (stencil_of FirstX) w h pixels x y) (stencil_at (stencil_of FirstY) w h pixels x y)) (turned_by u (stencil_at (stencil_of which) w h pixels x y)))
      → (i : ℕ) → i < w * h → IsWhole (get_or (directional_of d w h pixels) i nan) (turned_by u (get_or (differences_of which w h pixels) i (pos 0)))
  unfolding differences_of directional_of
  every_entry which d u exact =
      every_place_lem w h (λ i. IsWhole (get_or (directional_of d w h pixels) i nan) (turned_by u (get_or (differences_of which w h pixels) i (pos 0))))
      (λ x y p q. subst₂ (λ v z. IsWhole v (turned_by u z))
      (sym (image_entry w h (λ x y. directional d (stencil_at (stencil_of FirstX) w h pixels x y) (stencil_at (stencil_of FirstY) w h pixels x y)) nan x y p q))
      (sym (image_entry w h (stencil_at (stencil_of which) w h pixels) (pos 0) x y p q)) (exact x y))

  -- EXACT ALONG X: where the cosine is 1 or −1 and the sine is a zero of either sign, every entry of the directional difference
  -- has the value of the first difference in x, or of its negative
  pub exact_along_x : (d : Direction) → along_x d ≡ true → (i : ℕ) → i < w * h
      → IsWhole (get_or (directional_of d w h pixels) i nan) (turned_by d.cosine (get_or (differences_of FirstX w h pixels) i (pos 0)))
  exact_along_x d h = every_entry FirstX d d.cosine (λ x y. along_x_lem _ _ (held FirstX x y) (held FirstY x y) d h)

  -- EXACT ALONG Y: where the cosine is a zero of either sign and the sine is 1 or −1, every entry has the value of the first
  -- difference in y, or of its negative
  pub exact_along_y : (d : Direction) → along_y d ≡ true → (i : ℕ) → i < w * h
      → IsWhole (get_or (directional_of d w h pixels) i nan) (turned_by d.sine (get_or (differences_of FirstY w h pixels) i (pos 0)))
  exact_along_y d h = every_entry FirstY d d.sine (λ x y. along_y_lem _ _ (held FirstX x y) (held FirstY x y) d h)
