-- Two runs side by side, with one list of weights. Where a step hands a relation of two pixels on, from the pixels around a
-- place to the place, it holds at every place after every number of steps. The distance from the exact run, the bounds of
-- the pixels and the distance of two pictures are instances. Assumes nothing.
use mathlib.Core.Path.{◌≡◌, sym, subst₂, ◌∙◌}
use mathlib.Core.List.{List}
use Prim.Native.Nat.{ℕ, zero, suc, ◌+◌, ◌*◌, ◌%◌, ◌≤◌, ◌<◌}
use native.Mathlib.Omega.{arith}
use lib.ListN.{length, get_or}
use lib.IntN.{ℤ, pos, ◌+ℤ◌}
use Rattle.kernel.specs.Offsets.{Offset, total, weighted}
use Rattle.kernel.specs.Sound.{Sound}
use Rattle.kernel.specs.declared.Kernel.{Kernel}
use Rattle.image.specs.Image.{nearest_place, pixel_at, image_of}
use Rattle.averaging.specs.Steps.{nearest, weighted_at, step_of, exact_step_of, iterate, steps_of, exact_of}
use Rattle.averaging.specs.Distances.{Entrywise}
use Rattle.averaging.proofs.Images.{place_lt, every_place_lem, nearest_lt, length_image, image_entry}

-- what a step needs of a kernel: its weights sum to the number that it divides by, which is even and not 0
pub record Normalized (kernel : Kernel) : Type 0 where
  pub whole : total kernel.weights ≡ kernel.sum
  pub even : kernel.sum % 2 ≡ 0
  pub positive : 0 < kernel.sum

-- every kernel that is sound is so
pub normalized : (kernel : Kernel) (k : ℕ) → Sound kernel k → Normalized kernel
normalized kernel k s = record { whole = s.whole ∙ sym s.sum; even = omega (arith, s.sum); positive = omega (arith, s.sum, s.low) }

-- one step, with what is done to the sum of weight times pixel: rounded, or kept as it is
abbrev pub step_with : (ℕ → ℕ) → List ℕ → ℕ → ℕ → List ℕ → List ℕ
step_with finish ws w h pixels = image_of w h (λ x y. finish (weighted_at ws w h pixels x y))

-- ---- lengths: a picture of w × h pixels has as many after any number of steps

-- what holds at the start and after each step
iterate_has : {A : Type 0} (P : A → Type 0) (f : A → A) → ((a : A) → P (f a)) → (n : ℕ) (a : A) → P a → P (iterate f n a)
unfolding iterate
iterate_has P f stepped zero a start = start
iterate_has P f stepped (suc n) a start = stepped (iterate f n a)

length_run : (finish : ℕ → ℕ) (ws : List ℕ) (w h : ℕ) (p : List ℕ) → length p ≡ w * h → (j : ℕ)
    → length (iterate (step_with finish ws w h) j p) ≡ w * h
length_run finish ws w h p e j =
    iterate_has (λ l. length l ≡ w * h) (step_with finish ws w h) (λ l. length_image w h (λ x y. finish (weighted_at ws w h l x y))) j p e

-- the rounded run
pub length_steps : (kernel : Kernel) (w h : ℕ) (pixels : List ℕ) → length pixels ≡ w * h → (j : ℕ)
    → length (steps_of kernel w h j pixels) ≡ w * h
unfolding step_of
length_steps kernel = length_run (λ s. nearest s kernel.sum) kernel.weights

-- the exact run
pub length_exact : (kernel : Kernel) (w h : ℕ) (pixels : List ℕ) → length pixels ≡ w * h → (j : ℕ)
    → length (exact_of kernel w h j pixels) ≡ w * h
unfolding exact_step_of
length_exact kernel = length_run (λ s. s) kernel.weights

-- ---- relations
module _ (w h : ℕ) where
  -- what relates two pictures at each place relates their pixels at any place, inside or outside
  pub pixels_related : (R : ℕ → ℕ → Type 0) (p q : List ℕ) → length p ≡ w * h → Entrywise R p q → 1 ≤ w → 1 ≤ h
      → (x y : ℤ) → R (pixel_at w h p x y) (pixel_at w h q x y)
  unfolding pixel_at
  pixels_related R p q e related a b x y =
      let l = place_lt w h (nearest_place w x) (nearest_place h y) (nearest_lt w x a) (nearest_lt h y b) in
      related.each (nearest_place h y * w + nearest_place w x) (omega (arith, l, e))

  -- two images whose entries are related
  pub images_related : (R : ℕ → ℕ → Type 0) (f g : ℕ → ℕ → ℕ) → ((x y : ℕ) → x < w → y < h → R (f x y) (g x y))
      → Entrywise R (image_of w h f) (image_of w h g)
  images_related R f g related =
      record {
        lengths = length_image w h f ∙ sym (length_image w h g);
        each = λ i l. every_place_lem w h (λ i. R (get_or (image_of w h f) i 0) (get_or (image_of w h g) i 0))
            (λ x y a b. subst₂ R (sym (image_entry w h f 0 x y a b)) (sym (image_entry w h g 0 x y a b)) (related x y a b)) i
            (omega (arith, length_image w h f, l));
      }

  -- one step of two pictures: from R of the pixels around a place to S of the place
  pub step_related : (ws : List ℕ) (first second : ℕ → ℕ) (R S : ℕ → ℕ → Type 0)
      → ((f g : Offset → ℕ) → ((d : Offset) → R (f d) (g d)) → S (first (weighted f ws)) (second (weighted g ws)))
      → (p q : List ℕ) → length p ≡ w * h → Entrywise R p q → Entrywise S (step_with first ws w h p) (step_with second ws w h q)
  unfolding weighted_at
  step_related ws first second R S hands_on p q e related =
      images_related S (λ x y. first (weighted_at ws w h p x y)) (λ x y. second (weighted_at ws w h q x y))
      (λ x y a b. hands_on (λ d. pixel_at w h p (pos x +ℤ d.dx) (pos y +ℤ d.dy)) (λ d. pixel_at w h q (pos x +ℤ d.dx) (pos y +ℤ d.dy))
      (λ d. pixels_related R p q e related (omega arith) (omega arith) (pos x +ℤ d.dx) (pos y +ℤ d.dy)))

  -- two runs: R j after j steps
  pub runs_related : (ws : List ℕ) (first second : ℕ → ℕ) (R : ℕ → ℕ → ℕ → Type 0)
      → ((j : ℕ) (f g : Offset → ℕ) → ((d : Offset) → R j (f d) (g d)) → R (suc j) (first (weighted f ws)) (second (weighted g ws)))
      → (p q : List ℕ) → length p ≡ w * h → Entrywise (R 0) p q
      → (j : ℕ) → Entrywise (R j) (iterate (step_with first ws w h) j p) (iterate (step_with second ws w h) j q)
  unfolding iterate
  runs_related ws first second R hands_on p q e related zero = related
  runs_related ws first second R hands_on p q e related (suc j) =
      step_related ws first second (R j) (R (suc j)) (hands_on j) (iterate (step_with first ws w h) j p) (iterate (step_with second ws w h) j q)
      (length_run first ws w h p e j) (runs_related ws first second R hands_on p q e related j)
