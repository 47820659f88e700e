-- An image (REFERENCE: a picture) is its list of entries, rows in order, with a width w and a height h. Definitions only.
use Rattle.std.specs.Prelude.{List, [], ◌∷◌, ◌++◌, ℕ, zero, suc, ◌+◌, ◌-◌, ◌*◌, min, get_or, ℤ, pos, negsuc}

-- the nearest of the places 0 to n − 1 to the place i
abbrev pub nearest_place : ℕ → ℤ → ℕ
nearest_place n (pos i) = min i (n - 1)
nearest_place n (negsuc i) = 0

-- of three in a row, the one before the middle, at it or after it
abbrev pub beside : {A : Type 0} → A → A → A → ℤ → A
beside before at after (negsuc n) = before
beside before at after (pos zero) = at
beside before at after (pos (suc n)) = after

-- the pixel at column x and row y: "Outside the picture the nearest pixel is used, on each axis separately"
unfoldable pub pixel_at : ℕ → ℕ → List ℕ → ℤ → ℤ → ℕ
pixel_at w h pixels x y = get_or pixels (nearest_place h y * w + nearest_place w x) 0

-- f 0, f 1, .. f (n − 1)
unfoldable pub entries : {A : Type 0} → ℕ → (ℕ → A) → List A
entries zero f = []
entries (suc n) f = entries n f ++ (f n ∷ [])

-- the rows f 0, f 1, .. f (n − 1), one after the other: "rows in order, x and row number y from 0"
unfoldable pub rows : {A : Type 0} → ℕ → (ℕ → List A) → List A
rows zero f = []
rows (suc n) f = rows n f ++ f n

-- the image whose entry at column x and row y is f x y
abbrev pub image_of : {A : Type 0} → ℕ → ℕ → (ℕ → ℕ → A) → List A
image_of w h f = rows h (λ y. entries w (λ x. f x y))
