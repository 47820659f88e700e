-- Bands of a step within one image: whole rows that are made at one time, from the rows as they stand, and wait in a line. Definitions
-- only.
use Rattle.std.specs.Prelude.{◌≡◌, List, ℕ, ◌+◌, ◌-◌, ◌*◌, ◌≤◌, ◌<◌, min, take, drop}
use Rattle.limits.specs.Limits.{longest_side}
use Rattle.kernel.specs.declared.Kernel.{Kernel}
use Rattle.averaging.specs.Steps.{step_of}
use Rattle.row_core.specs.Rows.{part}
use Rattle.row_core.specs.Stretches.{column_in, average_of, stretch_of, Inside}
use Rattle.row_core.specs.declared.Starts.{Starts}

-- n pixels are an image of width w and height h
pub record OnePicture (n w h : ℕ) : Type 0 where
  pub wide : 1 ≤ w
  pub high : 1 ≤ h
  pub narrow : w ≤ longest_side
  pub pixels : n ≡ w * h

-- the n pixels that a step makes from three rows of an image, as they stand
abbrev pub stretch_from : Kernel → ℕ → List ℕ → Starts → List ℕ
stretch_from k n pixels v = stretch_of k n (part v.above (n + 2) pixels) (part v.at (n + 2) pixels) (part v.below (n + 2) pixels)

-- the pixel that a step makes at column x of row j of a band
abbrev pub band_pixel : Kernel → ℕ → List ℕ → Starts → ℕ → ℕ → ℕ
band_pixel k w pixels v j x =
    average_of k (column_in pixels v (j * w + min (x - 1) (w - 1))) (column_in pixels v (j * w + x)) (column_in pixels v (j * w + min (x + 1) (w - 1)))

-- a row of w pixels, i pixels after the beginning of a band, lies inside an image of n pixels and a line of m
pub record RowInside (n : ℕ) (v : Starts) (m i w : ℕ) : Type 0 where
  pub some : 1 ≤ w
  pub image : Inside n v (i + w)
  pub line : i + w ≤ m

-- so does a band of rows
pub record BandInside (n : ℕ) (v : Starts) (m rows w : ℕ) : Type 0 where
  pub some : 1 ≤ w
  pub image : Inside n v (rows * w)
  pub line : rows * w ≤ m

-- the band of n rows from row y on of an image of height h: at least one unless it stands at the end
pub record Place (h y n : ℕ) : Type 0 where
  pub inside : y + n ≤ h
  pub more : y < h → 1 ≤ n

-- the pixels before i are made, those from i on are as they were, and s made ones wait in a line
pub record Waiting (k : Kernel) (w h : ℕ) (old picture line : List ℕ) (i s : ℕ) : Type 0 where
  pub made : take i picture ≡ take i (step_of k w h old)
  pub kept : drop i picture ≡ drop i old
  pub waits : take s line ≡ part i s (step_of k w h old)

-- room for n rows in a line
pub record Room (w n : ℕ) : Type 0 where
  pub some : 1 ≤ n
  pub line : n * w ≤ longest_side
