-- Sums over the places of a row and of an image: linear, and taken place by place or all at once; and what a shift by one
-- place to each side, with the nearest place outside, does to such a sum. Assumes nothing.
use mathlib.Core.Path.{◌≡◌, refl, sym, ap, ap₂, ◌∙◌}
use mathlib.Core.List.{List, [], ◌∷◌, ◌++◌}
use Prim.Native.Nat.{ℕ, zero, suc, ◌+◌, ◌<◌}
use native.Mathlib.Omega.{arith}
use lib.IntN.{ℤ, pos, negsuc, ◌+ℤ◌}
use Rattle.kernel.specs.Offsets.{Offset, weighted}
use Rattle.image.specs.Image.{nearest_place, entries, rows, image_of}
use Rattle.averaging.specs.Distances.{brightness}
use Rattle.averaging.proofs.Averages.{average_sum, average_constant}
use Rattle.averaging.proofs.Images.{place_before}

-- f 0 + f 1 + .. + f (n − 1)
abbrev pub sum_to : ℕ → (ℕ → ℕ) → ℕ
sum_to zero f = 0
sum_to (suc n) f = sum_to n f + f n

-- equal terms have equal sums
pub sum_same : (n : ℕ) (f g : ℕ → ℕ) → ((i : ℕ) → i < n → f i ≡ g i) → sum_to n f ≡ sum_to n g
sum_same zero f g same = refl
sum_same (suc n) f g same = ap₂ ◌+◌ (sum_same n f g (λ i l. same i (omega arith))) (same n (omega arith))

-- the sum of sums, term by term
pub sum_plus : (n : ℕ) (f g : ℕ → ℕ) → sum_to n (λ i. f i + g i) ≡ sum_to n f + sum_to n g
sum_plus zero f g = refl
sum_plus (suc n) f g = omega (arith, sum_plus n f g)

-- the first place apart from the others
pub sum_first : (n : ℕ) (f : ℕ → ℕ) → sum_to (suc n) f ≡ f 0 + sum_to n (λ i. f (suc i))
sum_first zero f = omega arith
sum_first (suc n) f = omega (arith, sum_first n f)

-- the sum of averages is the average of sums
pub sum_average : (n : ℕ) (g : ℕ → Offset → ℕ) (ws : List ℕ) → sum_to n (λ i. weighted (g i) ws) ≡ weighted (λ d. sum_to n (λ i. g i d)) ws
sum_average zero g ws = sym (average_constant 0 ws ∙ omega arith)
sum_average (suc n) g ws = ap (λ s. s + weighted (g n) ws) (sum_average n g ws) ∙ sym (average_sum (λ d. sum_to n (λ i. g i d)) (g n) ws)

-- ---- brightness

brightness_append : (l m : List ℕ) → brightness (l ++ m) ≡ brightness l + brightness m
brightness_append [] m = omega arith
brightness_append (x ∷ l) m = omega (arith, brightness_append l m)

brightness_entries : (n : ℕ) (f : ℕ → ℕ) → brightness (entries n f) ≡ sum_to n f
unfolding entries
brightness_entries zero f = refl
brightness_entries (suc n) f = brightness_append (entries n f) (f n ∷ []) ∙ omega (arith, brightness_entries n f)

brightness_rows : (n : ℕ) (f : ℕ → List ℕ) → brightness (rows n f) ≡ sum_to n (λ y. brightness (f y))
unfolding rows
brightness_rows zero f = refl
brightness_rows (suc n) f = brightness_append (rows n f) (f n) ∙ omega (arith, brightness_rows n f)

-- the brightness of an image is the sum over its rows of the sums over their columns
pub brightness_image : (w h : ℕ) (f : ℕ → ℕ → ℕ) → brightness (image_of w h f) ≡ sum_to h (λ y. sum_to w (λ x. f x y))
brightness_image w h f =
    brightness_rows h (λ y. entries w (λ x. f x y))
    ∙ sum_same h (λ y. brightness (entries w (λ x. f x y))) (λ y. sum_to w (λ x. f x y)) (λ y l. brightness_entries w (λ x. f x y))

-- ---- shifts

-- the sum over the places d further on, with the nearest place outside
abbrev pub shifted : ℕ → (ℕ → ℕ) → ℤ → ℕ
shifted n f d = sum_to n (λ i. f (nearest_place n (pos i +ℤ d)))

-- shifted by 0, it is the sum itself
pub shifted_none : (n : ℕ) (f : ℕ → ℕ) → shifted n f (pos 0) ≡ sum_to n f
shifted_none n f = sum_same n (λ i. f (nearest_place n (pos i +ℤ pos 0))) f (λ i l. ap f (omega arith))

shifted_back : (n : ℕ) (f : ℕ → ℕ) → shifted (suc n) f (negsuc 0) ≡ f 0 + sum_to n f
shifted_back n f =
    sum_first n (λ i. f (nearest_place (suc n) (pos i +ℤ negsuc 0)))
    ∙ ap (λ s. f 0 + s) (sum_same n (λ i. f (nearest_place (suc n) (pos (suc i) +ℤ negsuc 0))) f (λ i l. ap f (place_before (suc n) (suc i) ∙ omega arith)))

shifted_on : (n : ℕ) (f : ℕ → ℕ) → shifted (suc n) f (pos 1) ≡ sum_to n (λ i. f (suc i)) + f n
shifted_on n f =
    ap₂ ◌+◌ (sum_same n (λ i. f (nearest_place (suc n) (pos i +ℤ pos 1))) (λ i. f (suc i)) (λ i l. ap f (omega arith))) (ap f (omega arith))

-- shifted by one to each side, every place is covered twice: the end that a shift loses the other one has twice
pub shifted_both : (n : ℕ) (f : ℕ → ℕ) → shifted n f (negsuc 0) + shifted n f (pos 1) ≡ shifted n f (pos 0) + shifted n f (pos 0)
shifted_both zero f = refl
shifted_both (suc n) f = omega (arith, shifted_back n f, shifted_on n f, shifted_none (suc n) f, sum_first n f)
