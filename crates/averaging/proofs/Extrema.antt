-- S-1: a local maximum does not rise in a step and a local minimum does not fall; no pixel leaves the range of the whole picture; and
-- two pictures stay as near to each other as they were. All follow from this: an average with weights of sum `sum` of numbers that are
-- at most c is at most `sum` × c, and what is done to it afterwards, rounding or nothing, keeps that. So each is one law for the rounded
-- and the exact step. Assumes nothing.
use mathlib.Core.Path.{◌≡◌, refl, sym, subst, ◌∙◌}
use mathlib.Core.List.{List}
use Prim.Native.Nat.{ℕ, zero, suc, ◌+◌, ◌*◌, ◌^◌, ◌≤◌, ◌<◌}
use native.Mathlib.Nat.{pow-zero, pow-succ', zero-add, suc-add, le_refl}
use native.Mathlib.Omega.{arith}
use borrow.Author.Tests.{leb-true}
use lib.ListN.{length}
use lib.Dec.{leb}
use lib.IntN.{ℤ, pos, nat_abs, ◌+ℤ◌}
use Rattle.limits.specs.Limits.{most_steps}
use Rattle.kernel.specs.Offsets.{Offset, offsets, total, weighted}
use Rattle.kernel.specs.Molecule.{units_of, kernel_with}
use Rattle.kernel.specs.Sound.{Sound}
use Rattle.kernel.specs.declared.Kernel.{Kernel}
use Rattle.kernel.proofs.Plain.{Between}
use Rattle.kernel.proofs.Theorems.{with_sound}
use Rattle.image.specs.Image.{pixel_at}
use Rattle.averaging.specs.Steps.{nearest, weighted_at, step_of, exact_step_of, iterate, steps_of, exact_of}
use Rattle.averaging.specs.Extrema.{NonEnhancement, WithinExtremes, BrightSpots}
use Rattle.averaging.proofs.Averages.{each, average_at_least, average_at_most}
use Rattle.averaging.proofs.Rounding.{nearest_at_least, nearest_at_most}
use Rattle.averaging.proofs.Images.{length_image, image_entry}
use Rattle.averaging.proofs.Runs.{Normalized, normalized, step_with, length_steps, length_exact, step_related}
use Rattle.averaging.proofs.Neighbours.{nearest_own, each_neighbour_lem, nine_pixels}
use Rattle.averaging.proofs.Bounds.{steps_differ, exact_differ}
use Rattle.averaging.proofs.Greatest.{extremes_between, extremes_own, extremes_then}

-- what is done to a sum of weight times pixel: where that is at most `sum` times a whole number, the outcome is at most `unit` times
-- it, and at least likewise
pub record Finishes (sum unit : ℕ) (finish : ℕ → ℕ) : Type 0 where
  pub at_most : (s c : ℕ) → s ≤ sum * c → finish s ≤ unit * c
  pub at_least : (s c : ℕ) → sum * c ≤ s → unit * c ≤ finish s

-- rounding to the nearest ..
rounded : (sum : ℕ) → 0 < sum → Finishes sum 1 (λ s. nearest s sum)
rounded sum some =
    record {
      at_most = λ s c h. let n = nearest_at_most s c sum some h in omega arith;
      at_least = λ s c h. let n = nearest_at_least s c sum some h in omega arith;
    }

-- .. and leaving it as it is
kept : (sum : ℕ) → Finishes sum sum (λ s. s)
kept sum = record { at_most = λ s c h. h; at_least = λ s c h. h }

module _ (ws : List ℕ) (sum unit : ℕ) (finish : ℕ → ℕ) (whole : total ws ≡ sum) (f : Finishes sum unit finish) (w h : ℕ) where
  -- the pixel at a place after a step
  step_pixel : (pixels : List ℕ) (x y : ℕ) → x < w → y < h
      → pixel_at w h (step_with finish ws w h pixels) (pos x) (pos y) ≡ finish (weighted_at ws w h pixels x y)
  unfolding pixel_at
  step_pixel pixels x y a b = rw (nearest_own w x a, nearest_own h y b) (image_entry w h (λ x y. finish (weighted_at ws w h pixels x y)) 0 x y a b)

  step_enhances_none : (pixels : List ℕ) → NonEnhancement unit w h pixels (step_with finish ws w h pixels)
  unfolding weighted_at
  step_enhances_none pixels =
      record {
        no_rise = λ x y a b top.
            let p = pixel_at w h pixels (pos x) (pos y) in
            let around : Offset → ℕ = λ d. pixel_at w h pixels (pos x +ℤ d.dx) (pos y +ℤ d.dy) in
            let low = nine_pixels w h pixels x y (λ q. q ≤ p) a b (le_refl p)
            (λ u v c d across down other. leb-true _ p ((each_neighbour_lem w h pixels x y (λ q p. leb q p)).0 top u v c d across down other)) in
            subst (λ q. q ≤ unit * p) (sym (step_pixel pixels x y a b))
            (f.at_most (weighted around ws) p (rw whole at (average_at_most around p ws low)));
        no_fall = λ x y a b bottom.
            let p = pixel_at w h pixels (pos x) (pos y) in
            let around : Offset → ℕ = λ d. pixel_at w h pixels (pos x +ℤ d.dx) (pos y +ℤ d.dy) in
            let high = nine_pixels w h pixels x y (λ q. p ≤ q) a b (le_refl p)
            (λ u v c d across down other. leb-true p _ ((each_neighbour_lem w h pixels x y (λ q p. leb p q)).0 bottom u v c d across down other)) in
            subst (λ q. unit * p ≤ q) (sym (step_pixel pixels x y a b))
            (f.at_least (weighted around ws) p (rw whole at (average_at_least around p ws high)));
      }

  step_within : (pixels : List ℕ) → length pixels ≡ w * h → WithinExtremes unit pixels (step_with finish ws w h pixels)
  step_within pixels fills =
      extremes_between unit pixels (step_with finish ws w h pixels) (length_image w h _ ∙ sym fills)
      (λ low high between. (step_related w h ws finish finish (λ a b. (low ≤ a) × (a ≤ high)) (λ a b. (unit * low ≤ a) × (a ≤ unit * high))
      (λ p q near.
      let least = average_at_least p low ws (each (λ o. low ≤ p o) (λ o. (near o).0) offsets) in
      let most = average_at_most p high ws (each (λ o. p o ≤ high) (λ o. (near o).1) offsets) in
      (f.at_least (weighted p ws) low (rw whole at least), f.at_most (weighted p ws) high (rw whole at most)))
      pixels pixels fills (record { lengths = refl; each = between })).each)

  -- n steps more
  steps_within : (pixels : List ℕ) → ((j : ℕ) → length (iterate (step_with finish ws w h) j pixels) ≡ w * h) → (i n : ℕ)
      → WithinExtremes (unit ^ n) (iterate (step_with finish ws w h) i pixels) (iterate (step_with finish ws w h) (n + i) pixels)
  unfolding iterate
  steps_within pixels long i zero = rw (pow-zero unit, zero-add i) (extremes_own (iterate (step_with finish ws w h) i pixels))
  steps_within pixels long i (suc n) =
      let before = iterate (step_with finish ws w h) (n + i) pixels in
      rw (pow-succ' unit n, suc-add n i)
      (extremes_then (unit ^ n) unit (iterate (step_with finish ws w h) i pixels) before (step_with finish ws w h before)
      (steps_within pixels long i n) (step_within before (long (n + i))))

one_pow : (n : ℕ) → 1 ^ n ≡ 1
one_pow zero = pow-zero 1
one_pow (suc n) = pow-succ' 1 n ∙ omega (arith, one_pow n)

-- S-1 OF EVERY KERNEL WHOSE WEIGHTS SUM TO WHAT A STEP DIVIDES BY ..
pub bright_spots_normalized : (kernel : Kernel) → Normalized kernel → (w h : ℕ) → BrightSpots kernel w h
unfolding step_of exact_step_of iterate
bright_spots_normalized kernel good w h =
    let ws = kernel.weights in
    let d = kernel.sum in
    let round = rounded d good.positive in
    let keep = kept d in
    record {
      steps_enhance_none = λ pixels j. step_enhances_none ws d 1 (λ s. nearest s d) good.whole round w h (steps_of kernel w h j pixels);
      exact_enhances_none = λ pixels j. step_enhances_none ws d d (λ s. s) good.whole keep w h (exact_of kernel w h j pixels);
      steps_differ = steps_differ kernel good w h;
      exact_differs = exact_differ kernel good w h;
      steps_within = λ pixels fills i n.
          rw (one_pow n) at (steps_within ws d 1 (λ s. nearest s d) good.whole round w h pixels (length_steps kernel w h pixels fills) i n);
      exact_within = λ pixels fills. steps_within ws d d (λ s. s) good.whole keep w h pixels (length_exact kernel w h pixels fills);
    }

-- .. so of every kernel that is sound ..
pub bright_spots : (kernel : Kernel) (k : ℕ) → Sound kernel k → (w h : ℕ) → BrightSpots kernel w h
bright_spots kernel k sound = bright_spots_normalized kernel (normalized kernel k sound)

-- .. and so of the molecule with every free number n between its two bounds, whichever of them a call chooses
pub bright_spots_every_free_number : (a : ℕ) (xy : ℤ) (b n k : ℕ) → 1 ≤ k → k ≤ most_steps → Between a (nat_abs xy) b n (units_of k)
    → (w h : ℕ) → BrightSpots (kernel_with (pos a) xy (pos b) (pos n) k) w h
bright_spots_every_free_number a xy b n k low high between =
    bright_spots (kernel_with (pos a) xy (pos b) (pos n) k) k (with_sound a xy b n k low high between)
