-- The exact run keeps the total where xy is 0: with weights that are the same at (±dx, ±dy), each step multiplies the sum of
-- the pixels by the sum of the weights. By rows and by columns, the two shifts by one place cover every place twice, also at
-- the borders. Assumes nothing.
use mathlib.Core.Path.{◌≡◌, refl, sym, ap, ap₂, subst, ◌∙◌}
use mathlib.Core.List.{List, [], ◌∷◌, map}
use Prim.Native.Nat.{ℕ, zero, suc, ◌+◌, ◌-◌, ◌*◌, ◌^◌}
use native.Mathlib.Nat.{pow-zero, pow-suc}
use native.Mathlib.Omega.{arith}
use mathlib.Core.Bool.{true, true≢false}
use lib.ListN.{length, get_or}
use lib.IntN.{ℤ, pos, negsuc, nat_abs, ◌+ℤ◌}
use Rattle.kernel.specs.Offsets.{Offset, total, weighted}
use Rattle.kernel.specs.declared.Choice.{Choice}
use Rattle.kernel.specs.Molecule.{units_of, sum_of, kernel_with}
use Rattle.kernel.specs.Choice.{kernel_by}
use Rattle.kernel.specs.Existence.{kernel_exists}
use Rattle.kernel.specs.declared.Kernel.{Kernel}
use Rattle.kernel.proofs.Plain.{Between, weights, free_of, free_by_lem, none_x, none_y}
use Rattle.kernel.proofs.Theorems.{between}
use Rattle.image.specs.Image.{nearest_place, pixel_at}
use Rattle.averaging.specs.Steps.{weighted_at, exact_step_of, iterate, exact_of}
use Rattle.averaging.specs.Distances.{brightness}
use Rattle.averaging.proofs.Images.{image_of_entries}
use Rattle.averaging.proofs.Runs.{length_exact}
use Rattle.averaging.proofs.Sums.{sum_to, sum_same, sum_plus, sum_average, brightness_image, shifted, shifted_none, shifted_both}

-- nine weights that are the same at (±dx, ±dy), in the order of the offsets
abbrev pub mirrored : ℕ → ℕ → ℕ → ℕ → List ℕ
mirrored corner above beside centre = corner ∷ above ∷ corner ∷ beside ∷ centre ∷ beside ∷ corner ∷ above ∷ corner ∷ []

-- the weighted sum of nine numbers of which two opposite ones are together twice the one between them
balance : (c a b m s₁ s₂ s₃ s₄ s₅ s₆ s₇ s₈ s₉ : ℕ) → s₁ + s₃ ≡ s₂ + s₂ → s₇ + s₉ ≡ s₈ + s₈ → s₄ + s₆ ≡ s₅ + s₅ → s₂ + s₈ ≡ s₅ + s₅
    → c * s₁ + (a * s₂ + (c * s₃ + (b * s₄ + (m * s₅ + (b * s₆ + (c * s₇ + (a * s₈ + (c * s₉ + 0)))))))) ≡ total (mirrored c a b m) * s₅
balance c a b m s₁ s₂ s₃ s₄ s₅ s₆ s₇ s₈ s₉ top bottom middle upright =
    let corners : c * (s₁ + s₃ + (s₇ + s₉)) ≡ c * (4 * s₅) = ap (λ x. c * x) (omega arith) in
    omega (arith, ap (λ x. a * x) upright, ap (λ x. b * x) middle)

module _ (w h : ℕ) (f : ℕ → ℕ → ℕ) where
  -- the sum over an image dx columns and dy rows further on, with the nearest place outside
  abbrev shift : ℤ → ℤ → ℕ
  shift dx dy = sum_to h (λ y. sum_to w (λ x. f (nearest_place w (pos x +ℤ dx)) (nearest_place h (pos y +ℤ dy))))

  columns : (dy : ℤ) → shift (negsuc 0) dy + shift (pos 1) dy ≡ shift (pos 0) dy + shift (pos 0) dy
  columns dy =
      let row : ℤ → ℕ → ℕ = λ dx y. shifted w (λ x. f x (nearest_place h (pos y +ℤ dy))) dx in
      sym (sum_plus h (row (negsuc 0)) (row (pos 1)))
      ∙ sum_same h (λ y. row (negsuc 0) y + row (pos 1) y) (λ y. row (pos 0) y + row (pos 0) y)
      (λ y l. shifted_both w (λ x. f x (nearest_place h (pos y +ℤ dy))))
      ∙ sum_plus h (row (pos 0)) (row (pos 0))

  downward : (dx : ℤ) → shift dx (negsuc 0) + shift dx (pos 1) ≡ shift dx (pos 0) + shift dx (pos 0)
  downward dx = shifted_both h (λ y. sum_to w (λ x. f (nearest_place w (pos x +ℤ dx)) y))

  unshifted : shift (pos 0) (pos 0) ≡ sum_to h (λ y. sum_to w (λ x. f x y))
  unshifted =
      shifted_none h (λ y. sum_to w (λ x. f (nearest_place w (pos x +ℤ pos 0)) y))
      ∙ sum_same h (λ y. shifted w (λ x. f x y) (pos 0)) (λ y. sum_to w (λ x. f x y)) (λ y l. shifted_none w (λ x. f x y))

  balanced : (corner above beside centre : ℕ) → weighted (λ d. shift d.dx d.dy) (mirrored corner above beside centre)
      ≡ total (mirrored corner above beside centre) * shift (pos 0) (pos 0)
  balanced corner above beside centre =
      balance corner above beside centre (shift (negsuc 0) (negsuc 0)) (shift (pos 0) (negsuc 0)) (shift (pos 1) (negsuc 0))
      (shift (negsuc 0) (pos 0)) (shift (pos 0) (pos 0)) (shift (pos 1) (pos 0))
      (shift (negsuc 0) (pos 1)) (shift (pos 0) (pos 1)) (shift (pos 1) (pos 1))
      (columns (negsuc 0)) (columns (pos 1)) (columns (pos 0)) (downward (pos 0))

module _ (kernel : Kernel) (corner above beside centre : ℕ) (symmetric : kernel.weights ≡ mirrored corner above beside centre)
    (whole : total kernel.weights ≡ kernel.sum) (w h : ℕ) where
  step_brightness : (pixels : List ℕ) → length pixels ≡ w * h → brightness (exact_step_of kernel w h pixels) ≡ kernel.sum * brightness pixels
  unfolding exact_step_of weighted_at pixel_at
  step_brightness pixels fills =
      let ws = kernel.weights in
      let at : ℕ → ℕ → ℕ = λ x y. get_or pixels (y * w + x) 0 in
      let around : ℕ → ℕ → Offset → ℕ = λ x y d. at (nearest_place w (pos x +ℤ d.dx)) (nearest_place h (pos y +ℤ d.dy)) in
      brightness_image w h (λ x y. weighted (around x y) ws)
      ∙ sum_same h (λ y. sum_to w (λ x. weighted (around x y) ws)) (λ y. weighted (λ d. sum_to w (λ x. around x y d)) ws)
      (λ y l. sum_average w (λ x. around x y) ws)
      ∙ sum_average h (λ y d. sum_to w (λ x. around x y d)) ws
      ∙ subst (λ ws. weighted (λ d. shift w h at d.dx d.dy) ws ≡ total ws * shift w h at (pos 0) (pos 0)) (sym symmetric)
      (balanced w h at corner above beside centre)
      ∙ ap₂ ◌*◌ whole
      (unshifted w h at ∙ sym (brightness_image w h at) ∙ ap brightness (sym (image_of_entries w h 0 pixels at fills (λ x y a b. refl))))

  -- j exact steps with such weights multiply the brightness by their sum j times
  pub brightness_mirrored : (pixels : List ℕ) → length pixels ≡ w * h → (j : ℕ)
      → brightness (exact_of kernel w h j pixels) ≡ kernel.sum ^ j * brightness pixels
  unfolding iterate
  brightness_mirrored pixels fills zero = rw (pow-zero kernel.sum) (omega arith)
  brightness_mirrored pixels fills (suc j) =
      step_brightness (exact_of kernel w h j pixels) (length_exact kernel w h pixels fills j)
      ∙ ap (λ b. kernel.sum * b) (brightness_mirrored pixels fills j)
      ∙ rw (pow-suc kernel.sum j) (omega arith)

-- THE TOTAL: where xy is 0, with any free number n between its bounds, the exact run keeps it. After j steps its numbers
-- stand over (4 × M) ^ j
pub total_kept : (a b n k : ℕ) → Between a 0 b n (units_of k) → (w h : ℕ) (pixels : List ℕ) → length pixels ≡ w * h → (j : ℕ)
    → brightness (exact_of (kernel_with (pos a) (pos 0) (pos b) (pos n) k) w h j pixels) ≡ sum_of k ^ j * brightness pixels
unfolding kernel_with
total_kept a b n k between w h =
    let m = units_of k in
    let symmetric = ap (map nat_abs) (weights a (pos 0) b n m between) in
    brightness_mirrored (kernel_with (pos a) (pos 0) (pos b) (pos n) k) (n + 0 - 0) (2 * (b - n)) (2 * (a - n)) (4 * (m + n - (a + b)))
    symmetric (ap total symmetric ∙ omega (arith, between)) w h

-- the same for every covariance with xy = 0 that has a kernel, by each choice
pub total_kept_upright : (choice : Choice) (xx yy : ℤ) (k : ℕ) → kernel_exists xx (pos 0) yy (units_of k) ≡ true
    → (w h : ℕ) (pixels : List ℕ) → length pixels ≡ w * h → (j : ℕ)
    → brightness (exact_of (kernel_by choice xx (pos 0) yy k) w h j pixels) ≡ sum_of k ^ j * brightness pixels
total_kept_upright choice (negsuc a) yy k exists w h pixels fills j = absurd (true≢false (sym exists ∙ none_x a (pos 0) yy (units_of k)))
total_kept_upright choice (pos a) (negsuc b) k exists w h pixels fills j = absurd (true≢false (sym exists ∙ none_y b (pos a) (pos 0) (units_of k)))
total_kept_upright choice (pos a) (pos b) k exists w h pixels fills j =
    ap (λ f. brightness (exact_of (kernel_with (pos a) (pos 0) (pos b) f k) w h j pixels)) (free_by_lem choice a (pos 0) b (units_of k))
    ∙ total_kept a b (free_of choice 0 a b (units_of k)) k (between choice a (pos 0) b (units_of k) exists) w h pixels fills j
