-- How far apart two pictures are, place by place, and how bright a picture is in all. Definitions only.
use Rattle.std.specs.Prelude.{◌≡◌, List, [], ◌∷◌, ℕ, ◌+◌, ◌*◌, ◌^◌, ◌≤◌, ◌<◌, length, get_or}

-- two pictures of equal length, related at each place
pub record Entrywise (R : ℕ → ℕ → Type 0) (p q : List ℕ) : Type 0 where
  pub lengths : length p ≡ length q
  pub each : (i : ℕ) → i < length p → R (get_or p i 0) (get_or q i 0)

-- a and b differ by at most c
pub record Differ (c a b : ℕ) : Type 0 where
  pub above : a ≤ b + c
  pub below : b ≤ a + c

-- "Distances from it are compared in whole numbers, both sides times 2 × (4 × M)^j": after j steps with d = 4 × M the
-- rounded run's pixel r lies within j / 2 of the exact run's, the whole number e over d ^ j
abbrev pub Distance : ℕ → ℕ → ℕ → ℕ → Type 0
Distance d j r e = Differ (j * d ^ j) (2 * d ^ j * r) (2 * e)

-- the sum of a picture's pixels ("That brightness is kept"; "The exact run keeps the total")
abbrev pub brightness : List ℕ → ℕ
brightness [] = 0
brightness (p ∷ ps) = p + brightness ps
