-- A stretch of the next image from pixels as they stand: three rows that begin at three places of an image, with a pixel more on both
-- sides. Definitions only.
use Rattle.std.specs.Prelude.{◌≡◌, List, ℕ, ◌+◌, ◌≤◌, get_or}
use Rattle.limits.specs.Limits.{largest_pixel}
use Rattle.kernel.specs.Offsets.{weighted}
use Rattle.kernel.specs.declared.Kernel.{Kernel}
use Rattle.image.specs.Image.{entries}
use Rattle.averaging.specs.Steps.{nearest}
use Rattle.row_core.specs.Rows.{column_of, pixel_in}
use Rattle.row_core.specs.declared.Column.{Column}
use Rattle.row_core.specs.declared.Starts.{Starts}

-- the column x places on from where the three rows begin
abbrev pub column_in : List ℕ → Starts → ℕ → Column
column_in pixels v x = record { above = get_or pixels (v.above + x) 0; at = get_or pixels (v.at + x) 0; below = get_or pixels (v.below + x) 0 }

-- "A step sums weight times pixel and divides by 4 × M, nearest, halves up", around the middle of three columns
abbrev pub average_of : Kernel → Column → Column → Column → ℕ
average_of k left here right = nearest (weighted (pixel_in left here right) k.weights) k.sum

-- the n pixels that a step makes from three rows, between the columns 0 and n + 1
unfoldable pub stretch_of : Kernel → ℕ → List ℕ → List ℕ → List ℕ → List ℕ
stretch_of k n up mid down = entries n (λ x. average_of k (column_of up mid down x) (column_of up mid down (x + 1)) (column_of up mid down (x + 2)))

-- three pixels
pub record Pixels (c : Column) : Type 0 where
  pub above : c.above ≤ largest_pixel
  pub at : c.at ≤ largest_pixel
  pub below : c.below ≤ largest_pixel

-- three rows for a stretch of n pixels
pub record Long (a b c n : ℕ) : Type 0 where
  pub up : a ≡ n + 2
  pub mid : b ≡ n + 2
  pub down : c ≡ n + 2

-- n columns lie inside an image of m pixels
pub record Inside (m : ℕ) (v : Starts) (n : ℕ) : Type 0 where
  pub above : v.above + n ≤ m
  pub at : v.at + n ≤ m
  pub below : v.below + n ≤ m
