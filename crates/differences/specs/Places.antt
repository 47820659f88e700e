-- For the contracts of the private functions: the places of a picture in row order, as the loops walk along them. Definitions
-- only.
use Rattle.std.specs.Prelude.{cond, List, ℕ, ◌+◌, ◌-◌, ◌*◌, ◌/◌, ◌%◌, ◌≤◌, ◌<◌, ltb, get_or, ℤ}
use Rattle.image.specs.Image.{beside}
use Rattle.differences.specs.declared.Place.{Place}

-- one step on, or where that is past the last, the same again
abbrev pub after_of : ℕ → ℕ → ℕ → ℕ
after_of at step end = cond (ltb (at + step) end) (at + step) at

-- the place of index i in a picture of n pixels and width w
abbrev pub place_at : ℕ → ℕ → ℕ → Place
place_at w n i =
    record {
      left = i % w - 1;
      column = i % w;
      right = after_of (i % w) 1 w;
      above = (i / w - 1) * w;
      row = i / w * w;
      below = after_of (i / w * w) w n;
    }

-- and the index of a place
abbrev pub index_of : Place → ℕ
index_of p = p.row + p.column

-- the pixel at an offset of at most one from a place
abbrev pub around : List ℕ → Place → ℤ → ℤ → ℕ
around pixels p dx dy = get_or pixels (beside p.above p.row p.below dy + beside p.left p.column p.right dx) 0

-- the place, and those around it, lie inside n pixels
pub record PlaceInside (n : ℕ) (p : Place) : Type 0 where
  pub left : p.left ≤ p.right
  pub column : p.column ≤ p.right
  pub above : p.above ≤ p.below
  pub row : p.row ≤ p.below
  pub corner : p.below + p.right < n
