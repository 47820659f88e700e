-- The distance of the differences of a rounded run from those of the exact run, for every stencil at once: each entry is within
-- half a unit for a step, and counts as often as its coefficient is large. Assumes nothing.
use mathlib.Core.Path.{◌≡◌, refl, sym, ap, ap₂, subst₂, ◌∙◌}
use mathlib.Core.Bool.{true}
use mathlib.Core.List.{List, [], ◌∷◌}
use Prim.Native.Nat.{ℕ, ◌+◌, ◌*◌, ◌/◌, ◌^◌, ◌≤◌, ◌<◌}
use native.Mathlib.Nat.{mul-le-mul_left}
use native.Mathlib.Omega.{arith}
use lib.ListN.{length, get_or}
use lib.IntN.{ℤ, pos, nat_abs, neg_ℤ, ◌+ℤ◌, ◌-ℤ◌, ◌*ℤ◌}
use Rattle.limits.specs.Limits.{steps_in_range}
use Rattle.kernel.specs.Molecule.{sum_of}
use Rattle.kernel.specs.Sound.{Sound}
use Rattle.kernel.specs.declared.Choice.{Choice}
use Rattle.kernel.specs.declared.Kernel.{Kernel}
use Rattle.kernel.proofs.Signs.{diff, plus, minus, equal, crossed, parts, neg_parts, sum, times}
use Rattle.kernel.proofs.Theorems.{sound_by}
use Rattle.covariance.specs.declared.Shape.{Shape}
use Rattle.covariance.specs.Shapes.{covariance_xx, covariance_xy, covariance_yy, shape_has_kernel, kernel_of_shape_by}
use Rattle.image.specs.Image.{pixel_at}
use Rattle.averaging.specs.Steps.{steps_of, exact_of}
use Rattle.averaging.specs.Distances.{Differ, Distance}
use Rattle.averaging.proofs.Images.{every_place_lem, image_entry}
use Rattle.averaging.proofs.Runs.{length_steps, pixels_related}
use Rattle.averaging.proofs.Distance.{distance}
use Rattle.differences.specs.declared.Difference.{Difference}
use Rattle.differences.specs.declared.Difference.TheVariants.{FirstX, FirstY, SecondX, SecondY, Mixed}
use Rattle.differences.specs.Stencils.{Term, stencil_sum, stencil_at, stencil_of, differences_of}
use Rattle.differences.specs.Distances.{total_size, units_per_step, CloseTo}
use Rattle.differences.proofs.Stencils.{size_diff, part, split, all_parts}

-- ---- differences of naturals
neg_diff : (a b : ℕ) → neg_ℤ (diff a b) ≡ diff b a
neg_diff a b =
    let z = diff a b in
    neg_parts z ∙ equal (minus z) (plus z) b a (omega (arith, crossed a b (plus z) (minus z) (parts z)))

minus_diff : (a b c d : ℕ) → diff a b -ℤ diff c d ≡ diff (a + d) (b + c)
minus_diff a b c d = ap (λ z. diff a b +ℤ z) (neg_diff c d) ∙ sum a b d c

-- ---- a stencil over two pictures
module _ (m c : ℕ) (f g : ℤ → ℤ → ℕ) (near : (dx dy : ℤ) → Differ c (2 * m * f dx dy) (2 * g dx dy)) where
  part_above : (side : ℤ → ℕ) (ts : List Term) → 2 * (m * part side ts f) ≤ 2 * part side ts g + part side ts (λ dx dy. c)
  part_above side [] = omega arith
  part_above side (t ∷ ts) = omega (arith, mul-le-mul_left (side t.coefficient) (near t.dx t.dy).above, part_above side ts)

  part_below : (side : ℤ → ℕ) (ts : List Term) → 2 * part side ts g ≤ 2 * (m * part side ts f) + part side ts (λ dx dy. c)
  part_below side [] = omega arith
  part_below side (t ∷ ts) = omega (arith, mul-le-mul_left (side t.coefficient) (near t.dx t.dy).below, part_below side ts)

  apart : (ts : List Term) → pos m *ℤ stencil_sum ts f -ℤ stencil_sum ts g ≡ diff (m * part plus ts f + part minus ts g) (m * part minus ts f + part plus ts g)
  apart ts =
      ap₂ ◌-ℤ◌ (ap (λ z. pos m *ℤ z) (split ts f) ∙ times m (part plus ts f) (part minus ts f)) (split ts g)
      ∙ minus_diff (m * part plus ts f) (m * part minus ts f) (part plus ts g) (part minus ts g)

  -- THE LAW OF STENCILS: where the entries of one picture, times m, are within c / 2 of another's, the sums of a stencil are
  -- within the total size of its coefficients times c / 2
  pub stencil_close : (ts : List Term) → 2 * nat_abs (pos m *ℤ stencil_sum ts f -ℤ stencil_sum ts g) ≤ total_size ts * c
  stencil_close ts =
      let most = size_diff (m * part plus ts f + part minus ts g) (m * part minus ts f + part plus ts g) (total_size ts * c / 2) in
      let all = all_parts ts c in
      rw (apart ts)
      (omega (arith, most (omega (arith, all, part_above plus ts, part_below minus ts)) (omega (arith, all, part_below plus ts, part_above minus ts))))

-- ---- a rounded run and the exact run

-- half the total size of the coefficients is 1, 2 and 2
half_size : (which : Difference) → total_size (stencil_of which) ≡ 2 * units_per_step which
half_size FirstX = refl
half_size FirstY = refl
half_size SecondX = refl
half_size SecondY = refl
half_size Mixed = refl

module _ (kernel : Kernel) (k : ℕ) (sound : Sound kernel k) (w h : ℕ) (pixels : List ℕ) (fills : length pixels ≡ w * h) (j : ℕ) where
  -- every stencil, at every column and row
  pub stencils_after_run : (ts : List Term) (x y : ℕ) → x < w → y < h
      → 2 * nat_abs (pos (kernel.sum ^ j) *ℤ stencil_at ts w h (steps_of kernel w h j pixels) x y -ℤ stencil_at ts w h (exact_of kernel w h j pixels) x y)
      ≤ total_size ts * (j * kernel.sum ^ j)
  stencils_after_run ts x y a b =
      let r = steps_of kernel w h j pixels in
      let e = exact_of kernel w h j pixels in
      let length-r = length_steps kernel w h pixels fills j in
      let near = pixels_related w h (Distance kernel.sum j) r e length-r (distance kernel k sound w h pixels fills j) (omega arith) (omega arith) in
      stencil_close (kernel.sum ^ j) (j * kernel.sum ^ j) (λ dx dy. pixel_at w h r (pos x +ℤ dx) (pos y +ℤ dy))
      (λ dx dy. pixel_at w h e (pos x +ℤ dx) (pos y +ℤ dy)) (λ dx dy. near (pos x +ℤ dx) (pos y +ℤ dy)) ts

  -- THE DISTANCE OF DIFFERENCES: for a kernel that a call can answer and a picture of w × h pixels, each of the five differences
  -- after j rounded steps lies within j, 2j and 2j units of the same difference after j exact steps, at every place; with j = k
  -- these are the ends of a k-step run
  pub differences_after_run : (which : Difference) (i : ℕ) → i < w * h
      → CloseTo (units_per_step which) kernel.sum j (get_or (differences_of which w h (steps_of kernel w h j pixels)) i (pos 0))
      (get_or (differences_of which w h (exact_of kernel w h j pixels)) i (pos 0))
  unfolding differences_of
  differences_after_run which =
      let r = steps_of kernel w h j pixels in
      let e = exact_of kernel w h j pixels in
      let d = kernel.sum in
      let scale = j * d ^ j in
      every_place_lem w h
      (λ i. CloseTo (units_per_step which) d j (get_or (differences_of which w h r) i (pos 0)) (get_or (differences_of which w h e) i (pos 0)))
      (λ x y a b. subst₂ (CloseTo (units_per_step which) d j)
      (sym (image_entry w h (stencil_at (stencil_of which) w h r) (pos 0) x y a b))
      (sym (image_entry w h (stencil_at (stencil_of which) w h e) (pos 0) x y a b))
      (omega (arith, stencils_after_run (stencil_of which) x y a b, ap (λ n. n * scale) (half_size which))))

-- "After a k-step run they lie within k, 2k and 2k units of the exact run's", of the kernel of a shape by each choice: the rounded
-- run and the exact one by the same
pub differences_by_choice : (choice : Choice) (shape : Shape) (k w h : ℕ) (pixels : List ℕ) → steps_in_range k ≡ true
    → shape_has_kernel shape k ≡ true → length pixels ≡ w * h → (which : Difference) (i : ℕ) → i < w * h
    → CloseTo (units_per_step which) (sum_of k) k (get_or (differences_of which w h (steps_of (kernel_of_shape_by choice shape k) w h k pixels)) i (pos 0))
    (get_or (differences_of which w h (exact_of (kernel_of_shape_by choice shape k) w h k pixels)) i (pos 0))
differences_by_choice choice shape k w h pixels steps exists fills which i l =
    let kernel = kernel_of_shape_by choice shape k in
    let sound = sound_by choice (covariance_xx shape) (covariance_xy shape) (covariance_yy shape) k steps exists in
    rw (← sound.sum) (differences_after_run kernel k sound w h pixels fills k which i l)
