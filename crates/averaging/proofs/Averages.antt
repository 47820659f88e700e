-- Averages: sums over the offsets of weight times value, with weights that are not negative. Such a sum is linear in the
-- values and grows with them, so it lies between the total weight times the least and the largest value, and where each
-- value moves by at most c it moves by at most the total weight times c. The weights are any list. Assumes nothing.
use mathlib.Core.Path.{◌≡◌, sym, ap, ap₂, subst, ◌∙◌}
use mathlib.Core.List.{List, [], ◌∷◌}
use Prim.Native.Nat.{ℕ, ◌+◌, ◌*◌, ◌≤◌}
use native.Mathlib.Nat.{mul-add, mul_left_comm, mul_comm, add-le-add, mul-le-mul_left, le_refl}
use native.Mathlib.Omega.{arith}
use Rattle.kernel.specs.Offsets.{Offset, offsets, sum_over, total, weighted}
use Rattle.averaging.specs.Distances.{Differ}

-- what holds at each offset of a list
abbrev pub Each : (Offset → Type 0) → List Offset → Type 0
Each P [] = Unit {0}
Each P (d ∷ ds) = P d × Each P ds

-- what holds at every offset
pub each : (P : Offset → Type 0) → ((d : Offset) → P d) → (ds : List Offset) → Each P ds
each P f [] = tt
each P f (d ∷ ds) = (f d, each P f ds)

-- ---- linear

-- the sum of weight times value over a list of offsets
abbrev sums : (Offset → ℕ) → List Offset → List ℕ → ℕ
sums p ds ws = sum_over ◌+◌ 0 (λ d w. w * p d) ds ws

sum_over_lem : (p q : Offset → ℕ) (ds : List Offset) (ws : List ℕ) → sums (λ d. p d + q d) ds ws ≡ sums p ds ws + sums q ds ws
sum_over_lem p q [] ws = omega arith
sum_over_lem p q (d ∷ ds) [] = omega arith
sum_over_lem p q (d ∷ ds) (w ∷ ws) = omega (arith, sum_over_lem p q ds ws)

multiple_over : (c : ℕ) (p : Offset → ℕ) (ds : List Offset) (ws : List ℕ) → sums (λ d. c * p d) ds ws ≡ c * sums p ds ws
multiple_over c p [] ws = omega arith
multiple_over c p (d ∷ ds) [] = omega arith
multiple_over c p (d ∷ ds) (w ∷ ws) = ap₂ ◌+◌ (mul_left_comm w c (p d)) (multiple_over c p ds ws) ∙ sym (mul-add c (w * p d) (sums p ds ws))

-- the average of a sum is the sum of the averages
pub average_sum : (p q : Offset → ℕ) (ws : List ℕ) → weighted (λ d. p d + q d) ws ≡ weighted p ws + weighted q ws
average_sum p q ws = sum_over_lem p q offsets ws

-- the average of a multiple is the multiple of the average
pub average_multiple : (c : ℕ) (p : Offset → ℕ) (ws : List ℕ) → weighted (λ d. c * p d) ws ≡ c * weighted p ws
average_multiple c p ws = multiple_over c p offsets ws

constant_over : (c : ℕ) (ds : List Offset) (ws : List ℕ) → sums (λ d. c) ds ws ≡ sum_over ◌+◌ 0 (λ d w. w) ds ws * c
constant_over c [] ws = omega arith
constant_over c (d ∷ ds) [] = omega arith
constant_over c (d ∷ ds) (w ∷ ws) = omega (arith, constant_over c ds ws)

-- the average of one value is the total weight times that value
pub average_constant : (c : ℕ) (ws : List ℕ) → weighted (λ d. c) ws ≡ total ws * c
average_constant c ws = constant_over c offsets ws

-- ---- monotone

monotone_over : (p q : Offset → ℕ) (ds : List Offset) (ws : List ℕ) → Each (λ d. p d ≤ q d) ds → sums p ds ws ≤ sums q ds ws
monotone_over p q [] ws h = le_refl 0
monotone_over p q (d ∷ ds) [] h = le_refl 0
monotone_over p q (d ∷ ds) (w ∷ ws) h = add-le-add (mul-le-mul_left w h.0) (monotone_over p q ds ws h.1)

-- an average grows with its values
pub average_monotone : (p q : Offset → ℕ) (ws : List ℕ) → Each (λ d. p d ≤ q d) offsets → weighted p ws ≤ weighted q ws
average_monotone p q ws h = monotone_over p q offsets ws h

-- an average is never above the largest value
pub average_at_most : (p : Offset → ℕ) (c : ℕ) (ws : List ℕ) → Each (λ d. p d ≤ c) offsets → weighted p ws ≤ total ws * c
average_at_most p c ws h = subst (λ x. weighted p ws ≤ x) (average_constant c ws) (average_monotone p (λ d. c) ws h)

-- an average is never below the least value
pub average_at_least : (p : Offset → ℕ) (c : ℕ) (ws : List ℕ) → Each (λ d. c ≤ p d) offsets → total ws * c ≤ weighted p ws
average_at_least p c ws h = subst (λ x. x ≤ weighted p ws) (average_constant c ws) (average_monotone (λ d. c) p ws h)

-- where each value is at most c above another, the average is at most c above the other average
pub average_moves : (p q : Offset → ℕ) (c : ℕ) (ws : List ℕ) → Each (λ d. p d ≤ q d + c) offsets → weighted p ws ≤ weighted q ws + total ws * c
average_moves p q c ws h =
    subst (λ x. weighted p ws ≤ x) (average_sum q (λ d. c) ws ∙ ap (λ x. weighted q ws + x) (average_constant c ws))
    (average_monotone p (λ d. q d + c) ws h)

-- both ways
pub average_differs : (p q : Offset → ℕ) (c : ℕ) (ws : List ℕ) → ((d : Offset) → Differ c (p d) (q d))
    → Differ (total ws * c) (weighted p ws) (weighted q ws)
average_differs p q c ws h =
    record {
      above = average_moves p q c ws (each (λ d. p d ≤ q d + c) (λ d. (h d).above) offsets);
      below = average_moves q p c ws (each (λ d. q d ≤ p d + c) (λ d. (h d).below) offsets);
    }
