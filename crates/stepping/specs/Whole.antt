-- An image that is loaded whole: its rows, padded, in lines one after the other. Definitions only.
use Rattle.std.specs.Prelude.{◌≡◌, List, ℕ, ◌+◌, ◌*◌, ◌≤◌, ◌<◌, length}
use Rattle.limits.specs.Limits.{buffer_pixels}
use Rattle.row_core.specs.Rows.{part, padded_of, AllDoubled}

-- room for the lines of a small image
abbrev pub small_lines : ℕ
small_lines = buffer_pixels + 2 * 64

-- n pixels are an image of width w and height h, and m numbers are room for its lines
pub record Loads (n m w h : ℕ) : Type 0 where
  pub wide : 1 ≤ w
  pub high : 1 ≤ h
  pub source : n ≡ w * h
  pub room : h * (w + 2) ≤ m

-- the line of row y
abbrev pub line_at : ℕ → ℕ → List ℕ → List ℕ
line_at w y lines = part (y * (w + 2)) (w + 2) lines

-- each row of the source stands in its line
pub record HoldsRows (lines : List ℕ) (w h : ℕ) (source : List ℕ) : Type 0 where
  pub room : h * (w + 2) ≤ length lines
  pub held : (y : ℕ) → y < h → line_at w y lines ≡ padded_of (part (y * w) w source)

-- the lines of an image hold what lines hold for pixels, and m pixels are room for its next step
pub record Readable (lines : List ℕ) (m w h : ℕ) : Type 0 where
  pub wide : 1 ≤ w
  pub high : 1 ≤ h
  pub room : h * (w + 2) ≤ length lines
  pub target : m ≡ w * h
  pub doubled : (y : ℕ) → y < h → AllDoubled (line_at w y lines)
