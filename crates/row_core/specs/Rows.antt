-- One row of a step from three lines, each a row with a pixel more on both sides. A line holds twice each pixel and one more: the sum of
-- weight times such numbers is twice what a step divides, half the weights' sum for rounding included. Definitions only.
use Rattle.std.specs.Prelude.{◌≡◌, List, ℕ, ◌+◌, ◌*◌, ◌/◌, ◌≤◌, length, get_or, take, drop, pos, negsuc, ◌+ℤ◌}
use Rattle.limits.specs.Limits.{largest_pixel}
use Rattle.kernel.specs.Offsets.{Offset, weighted}
use Rattle.kernel.specs.declared.Kernel.{Kernel}
use Rattle.image.specs.Image.{nearest_place, beside, entries}
use Rattle.row_core.specs.declared.Column.{Column}

-- n elements from i on, as a row of an image
abbrev pub part : ℕ → ℕ → List ℕ → List ℕ
part i n l = take n (drop i l)

-- what a line holds for a pixel
abbrev pub doubled : ℕ → ℕ
doubled pixel = 2 * pixel + 1

-- the line of a row, from the place before its first pixel to the place after its last: "Outside the picture the nearest pixel is
-- used"
unfoldable pub padded_of : List ℕ → List ℕ
padded_of row = entries (length row + 2) (λ i. doubled (get_or row (nearest_place (length row) (pos i +ℤ negsuc 0)) 0))

abbrev pub column_of : List ℕ → List ℕ → List ℕ → ℕ → Column
column_of up mid down x = record { above = get_or up x 0; at = get_or mid x 0; below = get_or down x 0 }

-- what stands at an offset from the middle of three columns
abbrev pub pixel_in : Column → Column → Column → Offset → ℕ
pixel_in left here right d =
    beside (beside left here right d.dx).above (beside left here right d.dx).at (beside left here right d.dx).below d.dy

-- the row of w pixels that a step makes from three lines
unfoldable pub row_of : Kernel → ℕ → List ℕ → List ℕ → List ℕ → List ℕ
row_of k w up mid down =
    entries w (λ x. weighted (pixel_in (column_of up mid down x) (column_of up mid down (x + 1)) (column_of up mid down (x + 2))) k.weights / (2 * k.sum))

-- ---- pixels, and what lines hold for them

abbrev pub AllPixels : List ℕ → Type 0
AllPixels l = (i : ℕ) → get_or l i 0 ≤ largest_pixel

abbrev pub AllDoubled : List ℕ → Type 0
AllDoubled l = (i : ℕ) → get_or l i 0 ≤ doubled largest_pixel

pub record Doubled (c : Column) : Type 0 where
  pub above : c.above ≤ doubled largest_pixel
  pub at : c.at ≤ doubled largest_pixel
  pub below : c.below ≤ doubled largest_pixel

-- three lines for a row of w pixels
pub record Lines (a b c : List ℕ) (w : ℕ) : Type 0 where
  pub up : length a ≡ w + 2
  pub mid : length b ≡ w + 2
  pub down : length c ≡ w + 2
  pub up_doubled : AllDoubled a
  pub mid_doubled : AllDoubled b
  pub down_doubled : AllDoubled c
