-- docs/REFERENCE.md, "Bright spots": what is claimed of the steps of one kernel. The paper calls its first
-- sentence the non-enhancement of local extrema (definition A.4). Definitions only; `proofs/Extrema` shows it of every kernel that is
-- sound.
use Rattle.std.specs.Prelude.{◌≡◌, true, List, [], ◌∷◌, ℕ, suc, ◌+◌, ◌*◌, ◌^◌, ◌≤◌, ◌<◌, min, max, length, pos}
use Rattle.kernel.specs.declared.Kernel.{Kernel}
use Rattle.image.specs.Image.{pixel_at}
use Rattle.averaging.specs.Steps.{steps_of, exact_of}
use Rattle.averaging.specs.Distances.{Entrywise, Differ}
use Rattle.averaging.specs.Neighbours.{is_local_maximum, is_local_minimum}

-- "a pixel at least as large as its neighbours does not rise in a step, one at most as large does not fall": at every place of a
-- picture of w × h pixels and of the next one, whose numbers stand over `unit`: 1 where pixels are rounded, 4 × M in the exact run
pub record NonEnhancement (unit w h : ℕ) (before after : List ℕ) : Type 0 where
  pub no_rise : (x y : ℕ) → x < w → y < h → is_local_maximum w h before x y ≡ true
      → pixel_at w h after (pos x) (pos y) ≤ unit * pixel_at w h before (pos x) (pos y)
  pub no_fall : (x y : ℕ) → x < w → y < h → is_local_minimum w h before x y ≡ true
      → unit * pixel_at w h before (pos x) (pos y) ≤ pixel_at w h after (pos x) (pos y)

-- the greatest pixel of a picture, and the least one
unfoldable pub greatest : List ℕ → ℕ
greatest [] = 0
greatest (p ∷ ps) = max p (greatest ps)

unfoldable pub least : List ℕ → ℕ
least [] = 0
least (p ∷ []) = p
least (p ∷ q ∷ ps) = min p (least (q ∷ ps))

-- the pixels of a picture lie between the least and the greatest one of an earlier picture; `unit` as above, for as many steps as
-- lie between the two
pub record WithinExtremes (unit : ℕ) (before after : List ℕ) : Type 0 where
  pub greatest_never_rises : greatest after ≤ unit * greatest before
  pub least_never_falls : unit * least before ≤ least after

-- S-1 of a kernel and of pictures of w × h pixels: "Both concern the rounded run as well as the exact one"
pub record BrightSpots (kernel : Kernel) (w h : ℕ) : Type 0 where
  -- in every step of a run: from step j to step j + 1
  pub steps_enhance_none : (pixels : List ℕ) (j : ℕ) → NonEnhancement 1 w h (steps_of kernel w h j pixels) (steps_of kernel w h (suc j) pixels)
  pub exact_enhances_none : (pixels : List ℕ) (j : ℕ)
      → NonEnhancement kernel.sum w h (exact_of kernel w h j pixels) (exact_of kernel w h (suc j) pixels)
  -- "two pictures of equal sides that differ by at most d at each pixel .. still differ by at most d"
  pub steps_differ : (d : ℕ) (p q : List ℕ) → length p ≡ w * h → Entrywise (Differ d) p q
      → (j : ℕ) → Entrywise (Differ d) (steps_of kernel w h j p) (steps_of kernel w h j q)
  pub exact_differs : (d : ℕ) (p q : List ℕ) → length p ≡ w * h → Entrywise (Differ d) p q
      → (j : ℕ) → Entrywise (Differ (d * kernel.sum ^ j)) (exact_of kernel w h j p) (exact_of kernel w h j q)
  -- of a whole picture the greatest pixel never rises, nor does the least fall, however many steps n follow on step i
  pub steps_within : (pixels : List ℕ) → length pixels ≡ w * h → (i n : ℕ)
      → WithinExtremes 1 (steps_of kernel w h i pixels) (steps_of kernel w h (n + i) pixels)
  pub exact_within : (pixels : List ℕ) → length pixels ≡ w * h → (i n : ℕ)
      → WithinExtremes (kernel.sum ^ n) (exact_of kernel w h i pixels) (exact_of kernel w h (n + i) pixels)
