-- What a run keeps: bounds of the pixels, and the distance of two pictures that are smoothed with one kernel. Assumes
-- nothing.
use mathlib.Core.Path.{◌≡◌, refl, subst}
use mathlib.Core.List.{List}
use Prim.Native.Nat.{ℕ, suc, ◌*◌, ◌^◌, ◌≤◌, ◌<◌}
use native.Mathlib.Nat.{pow-zero, pow-suc}
use native.Mathlib.Omega.{arith}
use lib.ListN.{length, get_or}
use Rattle.limits.specs.Limits.{largest_pixel}
use Rattle.kernel.specs.Offsets.{offsets, total, weighted}
use Rattle.kernel.specs.Sound.{Sound}
use Rattle.kernel.specs.declared.Kernel.{Kernel}
use Rattle.averaging.specs.Steps.{nearest, step_of, exact_step_of, steps_of, exact_of}
use Rattle.averaging.specs.Distances.{Entrywise, Differ}
use Rattle.averaging.proofs.Averages.{each, average_at_least, average_at_most, average_differs}
use Rattle.averaging.proofs.Rounding.{nearest_at_least, nearest_at_most, nearest_moves}
use Rattle.averaging.proofs.Runs.{Normalized, normalized, length_steps, runs_related}

module _ (kernel : Kernel) (good : Normalized kernel) (w h : ℕ) where
  -- a rounded run never falls below the least pixel nor rises above the largest
  pub stays_between : (low high : ℕ) (pixels : List ℕ) → length pixels ≡ w * h
      → ((i : ℕ) → i < length pixels → (low ≤ get_or pixels i 0) × (get_or pixels i 0 ≤ high))
      → (j i : ℕ) → i < w * h → (low ≤ get_or (steps_of kernel w h j pixels) i 0) × (get_or (steps_of kernel w h j pixels) i 0 ≤ high)
  unfolding step_of
  stays_between low high pixels fills bounds j i l =
      let ws = kernel.weights in
      let d = kernel.sum in
      (runs_related w h ws (λ s. nearest s d) (λ s. nearest s d) (λ j a b. (low ≤ a) × (a ≤ high))
      (λ j f g around.
      let least = average_at_least f low ws (each (λ o. low ≤ f o) (λ o. (around o).0) offsets) in
      let most = average_at_most f high ws (each (λ o. f o ≤ high) (λ o. (around o).1) offsets) in (
        nearest_at_least (weighted f ws) low d good.positive (rw good.whole at least),
        nearest_at_most (weighted f ws) high d good.positive (rw good.whole at most),
      ))
      pixels pixels fills (record { lengths = refl; each = bounds }) j).each i (omega (arith, length_steps kernel w h pixels fills j, l))

  -- two pictures that differ by at most c at each place still do after j rounded steps with one kernel
  pub steps_differ : (c : ℕ) (p q : List ℕ) → length p ≡ w * h → Entrywise (Differ c) p q
      → (j : ℕ) → Entrywise (Differ c) (steps_of kernel w h j p) (steps_of kernel w h j q)
  unfolding step_of
  steps_differ c p q fills differ =
      let ws = kernel.weights in
      let d = kernel.sum in
      runs_related w h ws (λ s. nearest s d) (λ s. nearest s d) (λ j. Differ c)
      (λ j f g near.
      let averages = subst (λ t. Differ (t * c) (weighted f ws) (weighted g ws)) good.whole (average_differs f g c ws near) in
      record {
        above = nearest_moves (weighted f ws) (weighted g ws) c d good.positive averages.above;
        below = nearest_moves (weighted g ws) (weighted f ws) c d good.positive averages.below;
      })
      p q fills differ

  -- and so they do in the exact run, whose numbers stand over (4 × M) ^ j
  pub exact_differ : (c : ℕ) (p q : List ℕ) → length p ≡ w * h → Entrywise (Differ c) p q
      → (j : ℕ) → Entrywise (Differ (c * kernel.sum ^ j)) (exact_of kernel w h j p) (exact_of kernel w h j q)
  unfolding exact_step_of
  exact_differ c p q fills differ =
      let ws = kernel.weights in
      let d = kernel.sum in
      runs_related w h ws (λ s. s) (λ s. s) (λ j. Differ (c * d ^ j))
      (λ j f g near.
      let scale : total ws * (c * d ^ j) ≡ c * d ^ suc j = rw (good.whole, pow-suc d j) (omega arith) in
      subst (λ t. Differ t (weighted f ws) (weighted g ws)) scale (average_differs f g (c * d ^ j) ws near))
      p q fills (subst (λ t. Entrywise (Differ t) p q) (rw (pow-zero d) (omega arith)) differ)

-- PIXELS STAY PIXELS: where every pixel of a picture is at most 65535, so is every one after j steps
pub stays_pixel : (kernel : Kernel) (k : ℕ) → Sound kernel k → (w h : ℕ) (pixels : List ℕ) → length pixels ≡ w * h
    → ((i : ℕ) → i < length pixels → get_or pixels i 0 ≤ largest_pixel)
    → (j i : ℕ) → i < w * h → get_or (steps_of kernel w h j pixels) i 0 ≤ largest_pixel
stays_pixel kernel k sound w h pixels fills bound j i l =
    (stays_between kernel (normalized kernel k sound) w h 0 largest_pixel pixels fills (λ i m. (omega arith, bound i m)) j i l).1
