-- What a step asks of the slices that its caller lends. Definitions only.
use Rattle.std.specs.Prelude.{◌≡◌, ℕ, ◌*◌, ◌≤◌}
use Rattle.limits.specs.Limits.{longest_side}

-- n pixels, and m pixels, are an image of width w and height h
pub record PicturePair (n m w h : ℕ) : Type 0 where
  pub wide : 1 ≤ w
  pub high : 1 ≤ h
  pub narrow : w ≤ longest_side
  pub source : n ≡ w * h
  pub target : m ≡ w * h
