-- A loop that walks along the places of a picture and stores an entry at each, over any type of entries; and that the entries
-- which the loops store are those of the differences. Assumes nothing.
use mathlib.Core.Path.{◌≡◌, refl, sym, ap₂, ◌∙◌}
use mathlib.Core.List.{List, [], ◌∷◌}
use Prim.Native.Nat.{ℕ, suc, ◌+◌, ◌*◌, ◌/◌, ◌%◌, ◌≤◌, ◌<◌}
use native.Mathlib.Nat.{le_trans, mul-le-mul_left, mul-le-mul_right, mul_comm, suc-mul}
use native.Mathlib.Omega.{arith}
use lib.ListN.{length, get_or}
use lib.IntN.{ℤ, pos, ◌+ℤ◌}
use lib.Ieee.{Float, nan}
use Rattle.limits.specs.Limits.{longest_side}
use Rattle.covariance.specs.declared.Direction.{Direction}
use Rattle.image.specs.Image.{pixel_at, image_of}
use Rattle.averaging.proofs.Images.{image_of_entries}
use Rattle.differences.specs.declared.Difference.{Difference}
use Rattle.differences.specs.declared.Difference.TheVariants.{FirstX, FirstY, SecondX, SecondY, Mixed}
use Rattle.differences.specs.Stencils.{Term, stencil_sum, stencil_of, differences_of}
use Rattle.differences.specs.Directional.{directional, directional_of}
use Rattle.differences.specs.Places.{place_at, around, PlaceInside}
use Rattle.differences.proofs.Checks.{PictureAndResult}
use Rattle.differences.proofs.Places.{Step, back, none, on, inside, around_place, row_of, column_of_lem}

-- no picture has more pixels than the largest one
pub area : {n m w h : ℕ} → PictureAndResult n m w h → w * h ≤ longest_side * longest_side
area {n} {m} {w} {h} f = le_trans (mul-le-mul_left w f.low) (mul-le-mul_right longest_side f.narrow)

-- ---- the entries

-- only the entries at a stencil's offsets count
abbrev Steps : List Term → Type 0
Steps [] = Unit {0}
Steps (t ∷ ts) = Step t.dx × Step t.dy × Steps ts

same_sum : (f g : ℤ → ℤ → ℕ) → ((dx dy : ℤ) → Step dx → Step dy → f dx dy ≡ g dx dy) → (ts : List Term) → Steps ts → stencil_sum ts f ≡ stencil_sum ts g
unfolding stencil_sum
same_sum f g same [] s = refl
same_sum f g same (t ∷ ts) s = rw (same t.dx t.dy s.0 s.1, same_sum f g same ts s.2)

near : (which : Difference) → Steps (stencil_of which)
near FirstX = (on, none, (back, none, tt))
near FirstY = (none, on, (none, back, tt))
near SecondX = (on, none, (none, none, (back, none, tt)))
near SecondY = (none, on, (none, none, (none, back, tt)))
near Mixed = (on, on, (back, on, (on, back, (back, back, tt))))

-- every place of a picture, and those around it, lie inside
pub inside_each : {n m w h : ℕ} → PictureAndResult n m w h → (i : ℕ) → i < m → PlaceInside n (place_at w m i)
inside_each {w = w} {h} f i l = rw (f.picture, f.result) (inside w h i f.wide (omega (arith, f.result)))

-- a formula that reads only the pixels around a place, at every place of a picture
module _ {A : Type 0} (formula : (ℤ → ℤ → ℕ) → A) (near_only : (f g : ℤ → ℤ → ℕ) → ((dx dy : ℤ) → Step dx → Step dy → f dx dy ≡ g dx dy) → formula f ≡ formula g) where
  filled : {n m w h : ℕ} → PictureAndResult n m w h → (pixels : List ℕ) {o : List A} (d : A) → length o ≡ m
      → ((i : ℕ) → i < m → get_or o i d ≡ formula (around pixels (place_at w m i)))
      → o ≡ image_of w h (λ x y. formula (λ dx dy. pixel_at w h pixels (pos x +ℤ dx) (pos y +ℤ dy)))
  filled {w = w} {h} f pixels {o} d size each = image_of_entries w h d o _ (size ∙ f.result) go
    where
      go : (x y : ℕ) → x < w → y < h → get_or o (y * w + x) d ≡ formula (λ dx dy. pixel_at w h pixels (pos x +ℤ dx) (pos y +ℤ dy))
      go x y a b =
          let i = y * w + x in
          let rows : suc y * w ≤ h * w = mul-le-mul_right w b in
          let l : i < w * h = omega (arith, rows, suc-mul y w, mul_comm h w) in
          let e : get_or o i d ≡ formula (around pixels (place_at w (w * h) i)) = rw (sym f.result) (each i (rw f.result l)) in
          let across : i % w ≡ x = column_of_lem w f.wide i x y a refl in
          let down : i / w ≡ y = row_of w f.wide i x y a refl in
          e ∙ near_only (around pixels (place_at w (w * h) i)) (λ dx dy. pixel_at w h pixels (pos x +ℤ dx) (pos y +ℤ dy))
          (λ dx dy s t. around_place w h i f.wide l pixels s t ∙ ap₂ (λ p q. pixel_at w h pixels (pos p +ℤ dx) (pos q +ℤ dy)) across down)

pub differences_filled : {n m w h : ℕ} → PictureAndResult n m w h → (which : Difference) (pixels : List ℕ) {o : List ℤ} → length o ≡ m
    → ((i : ℕ) → i < m → get_or o i (pos 0) ≡ stencil_sum (stencil_of which) (around pixels (place_at w m i))) → o ≡ differences_of which w h pixels
unfolding differences_of
differences_filled f which pixels = filled (stencil_sum (stencil_of which)) (λ f g same. same_sum f g same (stencil_of which) (near which)) f pixels (pos 0)

pub directional_filled : {n m w h : ℕ} → PictureAndResult n m w h → (d : Direction) (pixels : List ℕ) {o : List Float} → length o ≡ m
    → ((i : ℕ) → i < m → get_or o i nan ≡ directional d (stencil_sum (stencil_of FirstX) (around pixels (place_at w m i))) (stencil_sum (stencil_of FirstY) (around pixels (place_at w m i))))
    → o ≡ directional_of d w h pixels
unfolding directional_of
directional_filled f d pixels =
    filled (λ f. directional d (stencil_sum (stencil_of FirstX) f) (stencil_sum (stencil_of FirstY) f))
    (λ f g same. ap₂ (directional d) (same_sum f g same (stencil_of FirstX) (near FirstX)) (same_sum f g same (stencil_of FirstY) (near FirstY))) f pixels nan
