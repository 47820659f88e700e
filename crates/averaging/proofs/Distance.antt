-- The distance of the rounded run from the exact run: after j steps at most j / 2 at each place. A step's rounding adds at
-- most a half, and an average moves no further than its values. Assumes nothing.
use mathlib.Core.Path.{◌≡◌, refl}
use mathlib.Core.List.{List}
use Prim.Native.Nat.{ℕ, suc, ◌+◌, ◌*◌, ◌^◌, ◌≤◌, ◌<◌}
use native.Mathlib.Nat.{pow-zero, pow-suc, mul-le-mul_left, le_of_lt}
use native.Mathlib.Omega.{arith}
use lib.ListN.{length, get_or}
use Rattle.kernel.specs.Offsets.{Offset, weighted}
use Rattle.kernel.specs.Sound.{Sound}
use Rattle.kernel.specs.declared.Kernel.{Kernel}
use Rattle.averaging.specs.Steps.{nearest, step_of, exact_step_of, steps_of, exact_of}
use Rattle.averaging.specs.Distances.{Entrywise, Differ, Distance}
use Rattle.averaging.proofs.Averages.{average_differs, average_multiple}
use Rattle.averaging.proofs.Rounding.{nearest_above, nearest_below}
use Rattle.averaging.proofs.Runs.{Normalized, normalized, length_steps, runs_related}

-- a rounded step adds at most a half: s and e are the sums of weight times value, r is s over d
grows : (d j s e r : ℕ) → Differ (d * (j * d ^ j)) (2 * d ^ j * s) (2 * e) → 2 * s ≤ 2 * d * r + d → 2 * d * r ≤ 2 * s + d
    → Distance d (suc j) r e
grows d j s e r before up down =
    let above = mul-le-mul_left (d ^ j) down in
    let below = mul-le-mul_left (d ^ j) up in
    let a = before.above in
    let b = before.below in
    rw (pow-suc d j) (record { above = omega arith; below = omega arith })

module _ (kernel : Kernel) (good : Normalized kernel) where
  hands_on : (j : ℕ) (f g : Offset → ℕ) → ((d : Offset) → Distance kernel.sum j (f d) (g d))
      → Distance kernel.sum (suc j) (nearest (weighted f kernel.weights) kernel.sum) (weighted g kernel.weights)
  hands_on j f g near =
      let d = kernel.sum in
      let ws = kernel.weights in
      let averages = average_differs (λ o. 2 * d ^ j * f o) (λ o. 2 * g o) (j * d ^ j) ws near in
      grows d j (weighted f ws) (weighted g ws) (nearest (weighted f ws) d)
      (rw (average_multiple (2 * d ^ j) f ws, average_multiple 2 g ws, good.whole) at averages)
      (le_of_lt (nearest_above (weighted f ws) d good.even good.positive)) (nearest_below (weighted f ws) d good.even)

  start : (p : List ℕ) → Entrywise (Distance kernel.sum 0) p p
  start p = record { lengths = refl; each = λ i l. rw (pow-zero kernel.sum) (record { above = omega arith; below = omega arith }) }

  -- for any weights whose sum is the divisor, an even number
  pub distance_normalized : (w h : ℕ) (pixels : List ℕ) → length pixels ≡ w * h → (j : ℕ)
      → Entrywise (Distance kernel.sum j) (steps_of kernel w h j pixels) (exact_of kernel w h j pixels)
  unfolding step_of exact_step_of
  distance_normalized w h pixels fills =
      runs_related w h kernel.weights (λ s. nearest s kernel.sum) (λ s. s) (Distance kernel.sum) hands_on
      pixels pixels fills (start pixels)

-- THE DISTANCE: for a kernel that a call can answer, a picture of w × h pixels and every number of steps j, the pictures
-- after j rounded and after j exact steps are of equal length and lie within j / 2 of each other at each place
pub distance : (kernel : Kernel) (k : ℕ) → Sound kernel k → (w h : ℕ) (pixels : List ℕ) → length pixels ≡ w * h → (j : ℕ)
    → Entrywise (Distance kernel.sum j) (steps_of kernel w h j pixels) (exact_of kernel w h j pixels)
distance kernel k sound = distance_normalized kernel (normalized kernel k sound)

-- the same at one place
pub distance_at : (kernel : Kernel) (k : ℕ) → Sound kernel k → (w h : ℕ) (pixels : List ℕ) → length pixels ≡ w * h → (j i : ℕ) → i < w * h
    → Distance kernel.sum j (get_or (steps_of kernel w h j pixels) i 0) (get_or (exact_of kernel w h j pixels) i 0)
distance_at kernel k sound w h pixels fills j i l =
    (distance kernel k sound w h pixels fills j).each i (omega (arith, length_steps kernel w h pixels fills j, l))
