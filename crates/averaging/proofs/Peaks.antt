-- Neighbours, local maxima and minima and single steps by hand: what the laws of `Extrema` say of small pictures, that a pixel which was
-- a local maximum may rise later, and that a step with another rounding, another border or other weights would do otherwise. Assumes
-- nothing.
use mathlib.Core.Path.{◌≡◌, refl}
use mathlib.Core.Bool.{Bool, true, false}
use mathlib.Core.List.{List, [], ◌∷◌, map}
use Prim.Native.Nat.{ℕ}
use lib.IntN.{pos}
use Rattle.kernel.specs.declared.Kernel.{Kernel}
use Rattle.kernel.specs.Offsets.{Offset, offset, minus_one}
use Rattle.kernel.specs.Molecule.{kernel_with, kernel_of}
use Rattle.image.specs.Image.{pixel_at, entries, rows, image_of}
use Rattle.averaging.specs.Steps.{weighted_at, step_of, exact_step_of, iterate, steps_of}
use Rattle.averaging.specs.Neighbours.{neighbours, each_neighbour, is_local_maximum, is_local_minimum}
use Rattle.averaging.specs.Extrema.{greatest, least}
use Rattle.averaging.proofs.Examples.{along, leaning}

-- ---- "its up to eight neighbours inside the picture": w, h, x, y and the offsets, by row and then by column
abbrev pub up_left : Offset
up_left = offset minus_one minus_one

abbrev pub up : Offset
up = offset (pos 0) minus_one

abbrev pub up_right : Offset
up_right = offset (pos 1) minus_one

abbrev pub left : Offset
left = offset minus_one (pos 0)

abbrev pub right : Offset
right = offset (pos 1) (pos 0)

abbrev pub down_left : Offset
down_left = offset minus_one (pos 1)

abbrev pub down : Offset
down = offset (pos 0) (pos 1)

abbrev pub down_right : Offset
down_right = offset (pos 1) (pos 1)

abbrev pub places : List (ℕ × ℕ × ℕ × ℕ × List Offset)
places =
    -- eight around an inner pixel
    (3, 3, 1, 1, up_left ∷ up ∷ up_right ∷ left ∷ right ∷ down_left ∷ down ∷ down_right ∷ [])
    -- five at each border
    ∷ (3, 3, 1, 0, left ∷ right ∷ down_left ∷ down ∷ down_right ∷ [])
    ∷ (3, 3, 0, 1, up ∷ up_right ∷ right ∷ down ∷ down_right ∷ [])
    ∷ (3, 3, 2, 1, up_left ∷ up ∷ left ∷ down_left ∷ down ∷ [])
    ∷ (3, 3, 1, 2, up_left ∷ up ∷ up_right ∷ left ∷ right ∷ [])
    -- three at each corner, of a picture that is not square
    ∷ (3, 2, 0, 0, right ∷ down ∷ down_right ∷ [])
    ∷ (3, 2, 2, 0, left ∷ down_left ∷ down ∷ [])
    ∷ (3, 2, 0, 1, up ∷ up_right ∷ right ∷ [])
    ∷ (3, 2, 2, 1, up_left ∷ up ∷ left ∷ [])
    -- one or two in a picture of one row or one column, none in one of a single pixel
    ∷ (4, 1, 0, 0, right ∷ [])
    ∷ (4, 1, 2, 0, left ∷ right ∷ [])
    ∷ (1, 4, 0, 2, up ∷ down ∷ [])
    ∷ (1, 4, 0, 3, up ∷ [])
    ∷ (1, 1, 0, 0, [])
    ∷ []

pub placed : map (λ r. (r.0, r.1, r.2, r.3, neighbours r.0 r.1 r.2 r.3)) places ≡ places
unfolding neighbours
placed = refl

-- ---- w, h, a picture, then at each of its places whether the pixel is "at least as large as its neighbours", and whether it is "at
-- most as large"
abbrev pub Extremes : Type 0
Extremes = ℕ × ℕ × List ℕ × List Bool × List Bool

abbrev pub pictures : List Extremes
pictures =
    -- rows 4 2 3, 2 2 2 and 1 2 9
    (
      3,
      3,
      4 ∷ 2 ∷ 3 ∷ 2 ∷ 2 ∷ 2 ∷ 1 ∷ 2 ∷ 9 ∷ [],
      true ∷ false ∷ true ∷ false ∷ false ∷ false ∷ false ∷ false ∷ true ∷ [],
      false ∷ true ∷ false ∷ false ∷ false ∷ true ∷ true ∷ false ∷ false ∷ [],
    )
    -- rows 1 5, 0 0 and 7 6
    ∷ (
      2,
      3,
      1 ∷ 5 ∷ 0 ∷ 0 ∷ 7 ∷ 6 ∷ [],
      false ∷ true ∷ false ∷ false ∷ true ∷ false ∷ [],
      false ∷ false ∷ true ∷ true ∷ false ∷ false ∷ [],
    )
    -- a corner neighbour alone decides
    ∷ (2, 2, 5 ∷ 0 ∷ 0 ∷ 6 ∷ [], false ∷ false ∷ false ∷ true ∷ [], false ∷ true ∷ true ∷ false ∷ [])
    ∷ (3, 1, 8 ∷ 0 ∷ 64 ∷ [], true ∷ false ∷ true ∷ [], false ∷ true ∷ false ∷ [])
    -- a flat picture, and a single pixel: both
    ∷ (2, 2, 7 ∷ 7 ∷ 7 ∷ 7 ∷ [], true ∷ true ∷ true ∷ true ∷ [], true ∷ true ∷ true ∷ true ∷ [])
    ∷ (1, 1, 7 ∷ [], true ∷ [], true ∷ [])
    ∷ []

abbrev pub extremes_of : Extremes → Extremes
extremes_of (w, h, pixels, maxima, minima) =
    (w, h, pixels, image_of w h (λ x y. is_local_maximum w h pixels x y), image_of w h (λ x y. is_local_minimum w h pixels x y))

pub tested : map extremes_of pictures ≡ pictures
unfolding neighbours each_neighbour pixel_at entries rows
tested = refl

-- ---- pixels, the greatest and the least
abbrev pub ranges : List (List ℕ × ℕ × ℕ)
ranges =
    (3 ∷ 1 ∷ 2 ∷ [], 3, 1) ∷ (1 ∷ 3 ∷ 2 ∷ [], 3, 1) ∷ (2 ∷ 3 ∷ 1 ∷ [], 3, 1) ∷ (7 ∷ [], 7, 7) ∷ (65535 ∷ 0 ∷ [], 65535, 0) ∷ ([], 0, 0) ∷ []

pub ranged : map (λ r. (r.0, greatest r.0, least r.0)) ranges ≡ ranges
unfolding greatest least
ranged = refl

-- ---- steps: each pixel is half of each pixel beside it, on the left and the right or above and below
abbrev pub beside : Kernel
beside = kernel_of (pos 4096) (pos 0) (pos 0) 1

abbrev pub upright : Kernel
upright = kernel_of (pos 0) (pos 0) (pos 4096) 1

-- a kernel, w, h, a picture, and the rounded and the exact step, whose numbers stand over the sum of the weights: 16384, and 32768
-- for `along`, a quarter of each pixel beside and a half of the pixel itself
abbrev pub steps : List (Kernel × ℕ × ℕ × List ℕ × List ℕ × List ℕ)
steps =
    -- 3 and 9 are at least as large as their one neighbour, 0: 3 becomes (3 + 0) / 2, halves up, not (9 + 0) / 2 from the other end
    (beside, 3, 1, 3 ∷ 0 ∷ 9 ∷ [], 2 ∷ 6 ∷ 5 ∷ [], 24576 ∷ 98304 ∷ 73728 ∷ [])
    ∷ (upright, 1, 3, 3 ∷ 0 ∷ 9 ∷ [], 2 ∷ 6 ∷ 5 ∷ [], 24576 ∷ 98304 ∷ 73728 ∷ [])
    -- two pictures that differ by 1: 1/2 becomes 1 and 3/2 becomes 2, which differ by 1
    ∷ (beside, 2, 1, 0 ∷ 1 ∷ [], 1 ∷ 1 ∷ [], 8192 ∷ 8192 ∷ [])
    ∷ (beside, 2, 1, 1 ∷ 2 ∷ [], 2 ∷ 2 ∷ [], 24576 ∷ 24576 ∷ [])
    -- to the nearest: 1/4 becomes 0 and 3/4 becomes 1
    ∷ (along, 3, 1, 0 ∷ 0 ∷ 1 ∷ [], 0 ∷ 0 ∷ 1 ∷ [], 0 ∷ 8192 ∷ 24576 ∷ [])
    -- a flat picture stays as it is, since the weights sum to 1
    ∷ (leaning, 2, 2, 7 ∷ 7 ∷ 7 ∷ 7 ∷ [], 7 ∷ 7 ∷ 7 ∷ 7 ∷ [], 114688 ∷ 114688 ∷ 114688 ∷ 114688 ∷ [])
    ∷ []

pub stepped : map (λ r. (r.0, r.1, r.2, r.3, step_of r.0 r.1 r.2 r.3, exact_step_of r.0 r.1 r.2 r.3)) steps ≡ steps
unfolding kernel_with pixel_at entries rows weighted_at step_of exact_step_of
stepped = refl

-- ---- A PIXEL THAT WAS A LOCAL MAXIMUM MAY RISE IN A LATER STEP, when it is none any more: with weights of a quarter, a half and a
-- quarter 8 falls to 6 beside 0, and when the light of 64 has come nearer it rises to 9, above where it began. In each row: the picture,
-- and whether its first pixel is a local maximum.
abbrev pub first_pixel : ℕ → List ℕ × Bool
first_pixel j = let picture = steps_of along 3 1 j (8 ∷ 0 ∷ 64 ∷ []) in (picture, is_local_maximum 3 1 picture 0 0)

pub rises_later : map first_pixel (0 ∷ 1 ∷ 2 ∷ []) ≡ (8 ∷ 0 ∷ 64 ∷ [], true) ∷ (6 ∷ 18 ∷ 48 ∷ [], false) ∷ (9 ∷ 23 ∷ 41 ∷ [], false) ∷ []
unfolding kernel_with pixel_at entries rows weighted_at step_of iterate neighbours each_neighbour
rises_later = refl
