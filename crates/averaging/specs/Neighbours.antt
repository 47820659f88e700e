-- docs/REFERENCE.md, "Bright spots": a pixel's neighbours, and when it is "at least as large" as they are, or "at most as large".
-- They are the "up to eight neighbours inside the picture" of S-9. Definitions only.
use Rattle.std.specs.Prelude.{Bool, true, false, cond, ◌&&◌, ℕ, leb, ltb, ℤ, pos, negsuc, ◌+ℤ◌}
use mathlib.Core.List.{List, [], ◌∷◌, foldr}
use Rattle.kernel.specs.Offsets.{Offset, offset, minus_one}
use Rattle.image.specs.Image.{pixel_at}

-- the eight offsets around a pixel, by row and then by column
abbrev pub around : List Offset
around =
    offset minus_one minus_one ∷ offset (pos 0) minus_one ∷ offset (pos 1) minus_one
    ∷ offset minus_one (pos 0) ∷ offset (pos 1) (pos 0)
    ∷ offset minus_one (pos 1) ∷ offset (pos 0) (pos 1) ∷ offset (pos 1) (pos 1)
    ∷ []

-- is i one of the places 0 to n − 1
abbrev pub is_place : ℕ → ℤ → Bool
is_place n (pos i) = ltb i n
is_place n (negsuc i) = false

-- does an offset lead from column x and row y to a pixel of the picture
abbrev pub is_inside : ℕ → ℕ → ℕ → ℕ → Offset → Bool
is_inside w h x y d = is_place w (pos x +ℤ d.dx) && is_place h (pos y +ℤ d.dy)

-- the offsets of the up to eight neighbours of the pixel at column x and row y
unfoldable pub neighbours : ℕ → ℕ → ℕ → ℕ → List Offset
neighbours w h x y = foldr (λ d others. cond (is_inside w h x y d) (d ∷ others) others) [] around

-- does each neighbour's pixel pass a test beside the pixel itself
unfoldable pub each_neighbour : (ℕ → ℕ → Bool) → ℕ → ℕ → List ℕ → ℕ → ℕ → Bool
each_neighbour test w h pixels x y =
    foldr
    (λ d others. test (pixel_at w h pixels (pos x +ℤ d.dx) (pos y +ℤ d.dy)) (pixel_at w h pixels (pos x) (pos y)) && others)
    true (neighbours w h x y)

-- "a pixel at least as large as its neighbours", and "one at most as large"
abbrev pub is_local_maximum : ℕ → ℕ → List ℕ → ℕ → ℕ → Bool
is_local_maximum = each_neighbour (λ neighbour pixel. leb neighbour pixel)

abbrev pub is_local_minimum : ℕ → ℕ → List ℕ → ℕ → ℕ → Bool
is_local_minimum = each_neighbour (λ neighbour pixel. leb pixel neighbour)
