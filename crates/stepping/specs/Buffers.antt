-- Rows and line buffers inside the slices that a step reads, writes and keeps its lines in. Definitions only.
use Rattle.std.specs.Prelude.{◌≡◌, ◌⊎◌, List, ℕ, ◌+◌, ◌≤◌, ◌<◌, length}
use Rattle.kernel.specs.declared.Kernel.{Kernel}
use Rattle.row_core.specs.Rows.{part, padded_of, row_of, Lines}
use Rattle.row_core.specs.declared.Starts.{Starts}

-- the row of w pixels that a step makes from the lines of a window
abbrev pub row_from : Kernel → ℕ → Starts → List ℕ → List ℕ
row_from k w v lines = row_of k w (part v.above (w + 2) lines) (part v.at (w + 2) lines) (part v.below (w + 2) lines)

-- a row of w pixels at i of n pixels, and a line for it at j of m
pub record Loadable (n m i j w : ℕ) : Type 0 where
  pub some : 1 ≤ w
  pub row : i + w ≤ n
  pub line : j + (w + 2) ≤ m

-- the lines of a window lie in the line buffers, and a row of w pixels at i of m
pub record WindowInside (lines : List ℕ) (v : Starts) (m i w : ℕ) : Type 0 where
  pub above : v.above + (w + 2) ≤ length lines
  pub at : v.at + (w + 2) ≤ length lines
  pub below : v.below + (w + 2) ≤ length lines
  pub row : i + w ≤ m
  pub pixels : Lines (part v.above (w + 2) lines) (part v.at (w + 2) lines) (part v.below (w + 2) lines) w

-- n values from i on and n from j on have none in common
abbrev pub Apart : ℕ → ℕ → ℕ → Type 0
Apart n i j = (i + n ≤ j) ⊎ (j + n ≤ i)

-- the three lines of a window, of n values each, lie in m values and have none in common
pub record Slots (m n : ℕ) (v : Starts) : Type 0 where
  pub above : v.above + n ≤ m
  pub at : v.at + n ≤ m
  pub below : v.below + n ≤ m
  pub above_at : Apart n v.above v.at
  pub at_below : Apart n v.at v.below
  pub below_above : Apart n v.below v.above

-- the lines above and at hold the rows a and b
pub record Loaded (lines : List ℕ) (v : Starts) (w : ℕ) (a b : List ℕ) : Type 0 where
  pub slots : Slots (length lines) (w + 2) v
  pub above : part v.above (w + 2) lines ≡ padded_of a
  pub at : part v.at (w + 2) lines ≡ padded_of b

-- the row of w pixels at i of a source is to be made: its own line stands in the line at, and the next row, if any, is whole
pub record Turn (source lines : List ℕ) (v : Starts) (i w : ℕ) : Type 0 where
  pub some : 1 ≤ w
  pub row : i + w ≤ length source
  pub next : i + w < length source → i + w + w ≤ length source
  pub slots : Slots (length lines) (w + 2) v
  pub at : part v.at (w + 2) lines ≡ padded_of (part i w source)

-- the lines of a window are a, b and c
pub record WindowHolds (lines : List ℕ) (v : Starts) (w : ℕ) (a b c : List ℕ) : Type 0 where
  pub above_inside : v.above + (w + 2) ≤ length lines
  pub at_inside : v.at + (w + 2) ≤ length lines
  pub below_inside : v.below + (w + 2) ≤ length lines
  pub above : part v.above (w + 2) lines ≡ a
  pub at : part v.at (w + 2) lines ≡ b
  pub below : part v.below (w + 2) lines ≡ c
