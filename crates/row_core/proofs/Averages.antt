-- Coefficients stand for a kernel, and what is made with them fits its type and is the kernel's average. Assumes nothing.
use mathlib.Core.Path.{◌≡◌, sym, ap, ap₂, subst, ◌∙◌}
use mathlib.Core.List.{List, [], ◌∷◌}
use Prim.Native.Nat.{ℕ, zero, suc, ◌+◌, ◌*◌, ◌/◌, ◌%◌, ◌≤◌, ◌<◌}
use native.Mathlib.Nat.{le_refl, div-div-eq-div-mul}
use native.Mathlib.Omega.{arith}
use lib.ListN.{length, get_or}
use lib.Seq.{ext_get_or}
use Rattle.limits.specs.Limits.{largest_pixel, most_steps}
use Rattle.kernel.specs.Offsets.{Offset, offsets, sum_over, total, weighted}
use Rattle.kernel.specs.Molecule.{sum_of}
use Rattle.kernel.specs.Sound.{Sound}
use Rattle.kernel.specs.declared.Kernel.{Kernel}
use Rattle.image.specs.Image.{entries}
use Rattle.averaging.proofs.Images.{length_entries, entry}
use Rattle.averaging.specs.Steps.{nearest}
use Rattle.averaging.proofs.Averages.{average_at_most}
use Rattle.row_core.specs.Weights.{reciprocal_one, reciprocal_of, kernel_of_weights, step_count, Divides, ProductsOf}
use Rattle.row_core.specs.Prepared.{kernel_of_coefficients, Prepared}
use Rattle.row_core.specs.Rows.{doubled, pixel_in, Doubled}
use Rattle.row_core.specs.Stretches.{Pixels}
use Rattle.row_core.specs.declared.coefficients.Coefficients.{Coefficients}
use Rattle.row_core.specs.declared.weights.Weights.{Weights}
use Rattle.row_core.specs.declared.weights.Products.{Products}
use Rattle.row_core.specs.declared.Column.{Column}
use Rattle.row_core.proofs.Division.{divided, divided_below}

-- all coefficients stand for a kernel
pub prepared : (c : Coefficients) → Prepared c
prepared c =
    let d = c.divides in
    record { steps = step_count c.weights; sound = d.sound; reciprocal = d.reciprocal_is; half = d.half_is; none_left = d.none_left }

-- ---- a division by twice the sum of the weights
module _ (c : Coefficients) (prepared : Prepared c) (total : ℕ) (most : total ≤ (kernel_of_coefficients c).sum * doubled largest_pixel) where
  bound : total < (largest_pixel + 1) * (2 * sum_of prepared.steps)
  bound = omega (arith, most, prepared.sound.sum, prepared.sound.low)

  pub exact : total / sum_of 1 * c.reciprocal / reciprocal_one ≡ total / (2 * (kernel_of_coefficients c).sum)
  exact = rw (prepared.reciprocal, divided prepared.steps prepared.sound.low prepared.sound.high total bound, prepared.sound.sum)

  pub pixel : total / sum_of 1 * c.reciprocal / reciprocal_one < largest_pixel + 1
  pixel =
      rw (prepared.reciprocal, divided prepared.steps prepared.sound.low prepared.sound.high total bound)
      (divided_below prepared.steps prepared.sound.low prepared.sound.high total bound)

-- ---- the same to the nearest: the quotient is that of twice the total and the sum
module _ (c : Coefficients) (prepared : Prepared c) (total : ℕ) (most : total ≤ (kernel_of_coefficients c).sum * largest_pixel) where
  abbrev sum : ℕ
  sum = (kernel_of_coefficients c).sum

  twice_most : 2 * total + sum ≤ sum * doubled largest_pixel
  twice_most = omega (arith, most)

  pub quotient : (total + c.half) / (sum_of 1 / 2) ≡ (2 * total + sum) / sum_of 1
  quotient = omega (arith, prepared.half, prepared.sound.sum)

  pub to_nearest : ((total + c.half) / (sum_of 1 / 2)) * c.reciprocal / reciprocal_one ≡ nearest total (kernel_of_coefficients c).sum
  to_nearest =
      let half : (2 * total + sum) / 2 ≡ total + sum / 2 = omega arith in
      rw quotient (exact c prepared (2 * total + sum) twice_most)
      ∙ sym (div-div-eq-div-mul (2 * total + sum) 2 sum) ∙ ap (λ (t : ℕ). t / sum) half

  pub nearest_pixel : ((total + c.half) / (sum_of 1 / 2)) * c.reciprocal / reciprocal_one < largest_pixel + 1
  nearest_pixel = rw quotient (pixel c prepared (2 * total + sum) twice_most)

-- ---- the sum of weight times what three columns hold, where that is at most b
abbrev AtMost : ℕ → Column → Type 0
AtMost b c = (c.above ≤ b) × (c.at ≤ b) × (c.below ≤ b)

most_of : (c : Coefficients) → Prepared c → (b : ℕ) (l m r : Column) → AtMost b l → AtMost b m → AtMost b r
    → weighted (pixel_in l m r) (kernel_of_coefficients c).weights ≤ (kernel_of_coefficients c).sum * b
most_of c prepared b l m r pl pm pr =
    subst (λ (t : ℕ). weighted (pixel_in l m r) (kernel_of_coefficients c).weights ≤ t * b) (prepared.sound.whole ∙ sym prepared.sound.sum)
    (average_at_most (pixel_in l m r) b (kernel_of_coefficients c).weights
    (pl.0, (pm.0, (pr.0, (pl.1, (pm.1, (pr.1, (pl.2, (pm.2, (pr.2, tt))))))))))

pub most_weighted : (c : Coefficients) → Prepared c → (l m r : Column) → Doubled l → Doubled m → Doubled r
    → weighted (pixel_in l m r) (kernel_of_coefficients c).weights ≤ (kernel_of_coefficients c).sum * doubled largest_pixel
most_weighted c prepared l m r pl pm pr =
    most_of c prepared (doubled largest_pixel) l m r (pl.above, pl.at, pl.below) (pm.above, pm.at, pm.below) (pr.above, pr.at, pr.below)

pub most_pixels_lem : (c : Coefficients) → Prepared c → (l m r : Column) → Pixels l → Pixels m → Pixels r
    → weighted (pixel_in l m r) (kernel_of_coefficients c).weights ≤ (kernel_of_coefficients c).sum * largest_pixel
most_pixels_lem c prepared l m r pl pm pr =
    most_of c prepared largest_pixel l m r (pl.above, pl.at, pl.below) (pm.above, pm.at, pm.below) (pr.above, pr.at, pr.below)

-- a pixel is below what a line holds for the largest one
pub as_doubled : (c : Column) → Pixels c → Doubled c
as_doubled c p = record { above = omega (arith, p.above); at = omega (arith, p.at); below = omega (arith, p.below) }

-- ---- the same sum by products

-- the nine weights that products stand for
abbrev weights_of : Products → List ℕ
weights_of p =
    (p.diagonal + p.corners) ∷ (p.down + p.sides) ∷ (p.across + p.corners)
    ∷ (p.along + p.sides) ∷ (p.centre + p.centre_in_row * (p.along + p.sides) + p.centre_in_column * p.down) ∷ (p.along + p.sides)
    ∷ (p.across + p.corners) ∷ (p.down + p.sides) ∷ (p.diagonal + p.corners)
    ∷ []

same_weights : (w : Weights) (p : Products) → ProductsOf w p → weights_of p ≡ (kernel_of_weights w).weights
same_weights w p of = rw (of.centre, of.diagonal, of.down, of.across, of.along)

-- what the corners, the sides and the centre add
add_up : (p : Products) (l m r : Column)
    → p.diagonal * (l.above + r.below) + p.across * (r.above + l.below) + p.corners * (l.above + r.below + (r.above + l.below))
    + (p.down * (m.above + m.below + p.centre_in_column * m.at) + p.along * (l.at + r.at + p.centre_in_row * m.at)
    + p.sides * (m.above + m.below + (l.at + r.at + p.centre_in_row * m.at)))
    + p.centre * (m.at + 0)
    ≡ weighted (pixel_in l m r) (weights_of p)
add_up p l m r = omega arith

pub by_products : (w : Weights) (p : Products) → ProductsOf w p → (l m r : Column)
    → p.diagonal * (l.above + r.below) + p.across * (r.above + l.below) + p.corners * (l.above + r.below + (r.above + l.below))
    + (p.down * (m.above + m.below + p.centre_in_column * m.at) + p.along * (l.at + r.at + p.centre_in_row * m.at)
    + p.sides * (m.above + m.below + (l.at + r.at + p.centre_in_row * m.at)))
    + p.centre * (m.at + 0)
    ≡ weighted (pixel_in l m r) (kernel_of_weights w).weights
by_products w p of l m r = add_up p l m r ∙ ap (weighted (pixel_in l m r)) (same_weights w p of)

-- ---- the coefficients of a kernel

-- a weight is at most the total
entry_le : (ds : List Offset) (ws : List ℕ) (i : ℕ) → length ws ≤ length ds → get_or ws i 0 ≤ sum_over ◌+◌ 0 (λ d w. w) ds ws
entry_le [] [] i h = le_refl 0
entry_le [] (w ∷ ws) i h = absurd (omega (arith, h))
entry_le (d ∷ ds) [] i h = le_refl 0
entry_le (d ∷ ds) (w ∷ ws) zero h = omega arith
entry_le (d ∷ ds) (w ∷ ws) (suc i) h = omega (arith, entry_le ds ws i (omega arith))

-- nine weights, each by its place
nine : (ws : List ℕ) → length ws ≡ 9
    → ws ≡ get_or ws 0 0 ∷ get_or ws 1 0 ∷ get_or ws 2 0 ∷ get_or ws 3 0 ∷ get_or ws 4 0 ∷ get_or ws 5 0 ∷ get_or ws 6 0 ∷ get_or ws 7 0 ∷ get_or ws 8 0 ∷ []
unfolding entries
nine ws e =
    let at : ℕ → ℕ = λ i. get_or ws i 0 in
    ext_get_or 0 ws (entries 9 at) (e ∙ sym (length_entries 9 at)) (λ i l. sym (entry 9 at 0 i (omega (arith, l, e))))

module _ (kernel : Kernel) (k : ℕ) (sound : Sound kernel k) where
  pub weight_fits : (i : ℕ) → get_or kernel.weights i 0 ≤ sum_of most_steps
  weight_fits i = omega (arith, entry_le offsets kernel.weights i (omega (arith, sound.nine)), sound.whole, sound.high)

  -- the step count that the code finds
  steps_are : kernel.sum / sum_of 1 ≡ k
  steps_are = omega (arith, sound.sum)

  -- five weights stand for nine, since opposite ones are equal
  module _ (w : Weights)
      (diagonal : w.diagonal ≡ get_or kernel.weights 0 0) (down : w.down ≡ get_or kernel.weights 1 0) (across : w.across ≡ get_or kernel.weights 2 0)
      (along : w.along ≡ get_or kernel.weights 3 0) (centre : w.centre ≡ get_or kernel.weights 4 0)
    where
      pub stands : kernel_of_weights w ≡ kernel
      stands =
          let weights : (kernel_of_weights w).weights ≡ kernel.weights
          = rw (diagonal, down, across, along, centre) (sym (nine kernel.weights sound.nine ∙ rw (sound.diagonal, sound.down, sound.across, sound.along))) in
          ap₂ (λ ws s. record { weights = ws; sum = s }) weights (omega (arith, ap total weights, sound.whole, sound.sum))

      steps : step_count w ≡ k
      steps = ap (λ (n : Kernel). n.sum / sum_of 1) stands ∙ steps_are

      pub divides : {reciprocal half rest : ℕ}
          → reciprocal ≡ reciprocal_of (kernel.sum / sum_of 1 * 2) → half ≡ kernel.sum / 2 → rest ≡ kernel.sum % sum_of 1 → Divides w reciprocal half rest
      divides reciprocal half rest =
          record {
            sound = subst (λ (n : Kernel). Sound n (step_count w)) (sym stands) (subst (λ (n : ℕ). Sound kernel n) (sym steps) sound);
            reciprocal_is = reciprocal ∙ ap reciprocal_of (omega (arith, steps_are, steps));
            half_is = half ∙ ap (λ (n : Kernel). n.sum / 2) (sym stands);
            none_left = omega (arith, rest, sound.sum);
          }
