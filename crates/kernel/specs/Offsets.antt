-- The nine offsets of a kernel and sums over them. Definitions only.
use Rattle.std.specs.Prelude.{ℕ, ◌+◌, ◌*◌, List, [], ◌∷◌, ℤ, pos, neg_ℤ, ◌+ℤ◌, ◌*ℤ◌}

-- a place beside a pixel: dx columns to the right, dy rows down ("Here y grows with the row number")
pub record Offset : Type 0 where
  pub dx : ℤ
  pub dy : ℤ

abbrev pub offset : ℤ → ℤ → Offset
offset dx dy = record { dx = dx; dy = dy }

-- −1: a column to the left, or a row up
abbrev pub minus_one : ℤ
minus_one = neg_ℤ (pos 1)

-- "by row then column, offset −1 first in each": every list of nine weights stands in this order
abbrev pub offsets : List Offset
offsets =
    offset minus_one minus_one ∷ offset (pos 0) minus_one ∷ offset (pos 1) minus_one
    ∷ offset minus_one (pos 0) ∷ offset (pos 0) (pos 0) ∷ offset (pos 1) (pos 0)
    ∷ offset minus_one (pos 1) ∷ offset (pos 0) (pos 1) ∷ offset (pos 1) (pos 1)
    ∷ []

-- the sum of a term for each offset and the weight that stands in its place
abbrev pub sum_over : {A : Type 0} → (A → A → A) → A → (Offset → ℕ → A) → List Offset → List ℕ → A
sum_over plus nothing term [] ws = nothing
sum_over plus nothing term (d ∷ ds) [] = nothing
sum_over plus nothing term (d ∷ ds) (w ∷ ws) = plus (term d w) (sum_over plus nothing term ds ws)

-- the sum of the weights
abbrev pub total : List ℕ → ℕ
total ws = sum_over ◌+◌ 0 (λ d w. w) offsets ws

-- the sum of weight times a whole number, with its sign, that goes with the offset
abbrev pub moment : (Offset → ℤ) → List ℕ → ℤ
moment g ws = sum_over ◌+ℤ◌ (pos 0) (λ d w. pos w *ℤ g d) offsets ws

-- the sum of weight times a number of units that goes with the offset
abbrev pub weighted : (Offset → ℕ) → List ℕ → ℕ
weighted g ws = sum_over ◌+◌ 0 (λ d w. w * g d) offsets ws
