-- docs/REFERENCE.md, "Smoothing and differences": one step, k steps, and the exact run. Definitions only.
use Rattle.std.specs.Prelude.{List, ℕ, zero, suc, ◌+◌, ◌/◌, pos, ◌+ℤ◌}
use Rattle.kernel.specs.Offsets.{weighted}
use Rattle.kernel.specs.declared.Kernel.{Kernel}
use Rattle.image.specs.Image.{pixel_at, image_of}

-- s / d to the nearest whole number, halves up, for an even d
abbrev pub nearest : ℕ → ℕ → ℕ
nearest s d = (s + d / 2) / d

-- the sum of weight times pixel around column x and row y
unfoldable pub weighted_at : List ℕ → ℕ → ℕ → List ℕ → ℕ → ℕ → ℕ
weighted_at weights w h pixels x y = weighted (λ d. pixel_at w h pixels (pos x +ℤ d.dx) (pos y +ℤ d.dy)) weights

-- "A step sums weight times pixel and divides by 4 × M, nearest, halves up"
unfoldable pub step_of : Kernel → ℕ → ℕ → List ℕ → List ℕ
step_of k w h pixels = image_of w h (λ x y. nearest (weighted_at k.weights w h pixels x y) k.sum)

-- the exact run keeps fractions: "the sum of weight times the whole number of the step before, never divided"
unfoldable pub exact_step_of : Kernel → ℕ → ℕ → List ℕ → List ℕ
exact_step_of k w h pixels = image_of w h (weighted_at k.weights w h pixels)

-- n times f
unfoldable pub iterate : {A : Type 0} → (A → A) → ℕ → A → A
iterate f zero a = a
iterate f (suc n) a = f (iterate f n a)

-- the picture after n steps of one kernel
abbrev pub steps_of : Kernel → ℕ → ℕ → ℕ → List ℕ → List ℕ
steps_of k w h n pixels = iterate (step_of k w h) n pixels

-- the exact run after n steps: each number stands over k.sum ^ n
abbrev pub exact_of : Kernel → ℕ → ℕ → ℕ → List ℕ → List ℕ
exact_of k w h n pixels = iterate (exact_step_of k w h) n pixels
