-- Each sentence of S-1 can fail: of a kernel that weighs one more or one less than what a step divides by, of a step that wraps round at
-- the border or goes above a whole average, and of halves that go to the even number, it says what is false of numbers. Computed. Assumes
-- nothing.
use mathlib.Core.Path.{refl}
use mathlib.Core.List.{[], ◌∷◌}
use Prim.Native.Nat.{ℕ, zero, suc, ◌+◌, ◌≤◌, ◌<◌}
use native.Mathlib.Nat.{le_of_suc-le-suc, not-suc-le-zero}
use native.Mathlib.Omega.{arith}
use lib.ListN.{get_or}
use Rattle.kernel.specs.declared.Kernel.{Kernel}
use Rattle.image.specs.Image.{pixel_at, entries, rows}
use Rattle.averaging.specs.Steps.{weighted_at, step_of, exact_step_of, iterate}
use Rattle.averaging.specs.Distances.{Entrywise, Differ}
use Rattle.averaging.specs.Neighbours.{neighbours, each_neighbour}
use Rattle.averaging.specs.Extrema.{NonEnhancement, greatest, least, BrightSpots}

-- the pixel itself, times a weight over 16384
abbrev pub weighing : ℕ → Kernel
weighing weight = record { weights = 0 ∷ 0 ∷ 0 ∷ 0 ∷ weight ∷ 0 ∷ 0 ∷ 0 ∷ 0 ∷ []; sum = 16384 }

-- two pictures of one pixel each that differ by at most d
differ : (d a b : ℕ) → a ≤ b + d → b ≤ a + d → Entrywise (Differ d) (a ∷ []) (b ∷ [])
differ d a b above below = record { lengths = refl; each = only }
  where
    only : (i : ℕ) → i < 1 → Differ d (get_or (a ∷ []) i 0) (get_or (b ∷ []) i 0)
    only zero l = record { above = above; below = below }
    only (suc i) l = absurd (not-suc-le-zero (le_of_suc-le-suc l))

-- ---- one more: 16384 becomes 16385, and in the exact run 1 becomes 16385 where 16384 stands for 1. So 0 and 16384 differ by more than
-- they did, in either order, and in the exact run 0 and 1. Each sentence would make 16385 at most 16384: that a local maximum does not
-- rise, that the greatest pixel does not, that two pictures stay as near as they were
pub heavier : BrightSpots (weighing 16385) 1 1
    → (16385 ≤ 16384) × (16385 ≤ 16384) × (16385 ≤ 16384) × (16385 ≤ 16384) × (16385 ≤ 16384) × (16385 ≤ 16384) × (16385 ≤ 16384) × (16385 ≤ 16384)
unfolding pixel_at entries rows weighted_at step_of exact_step_of iterate neighbours each_neighbour greatest
heavier claim = (
  (claim.steps_enhance_none (16384 ∷ []) 0).no_rise 0 0 (omega arith) (omega arith) refl,
  (claim.exact_enhances_none (1 ∷ []) 0).no_rise 0 0 (omega arith) (omega arith) refl,
  (claim.steps_within (16384 ∷ []) refl 0 1).greatest_never_rises,
  (claim.exact_within (1 ∷ []) refl 0 1).greatest_never_rises,
  ((claim.steps_differ 16384 (0 ∷ []) (16384 ∷ []) refl (differ 16384 0 16384 (omega arith) (omega arith)) 1).each 0 (omega arith)).below,
  ((claim.steps_differ 16384 (16384 ∷ []) (0 ∷ []) refl (differ 16384 16384 0 (omega arith) (omega arith)) 1).each 0 (omega arith)).above,
  ((claim.exact_differs 1 (0 ∷ []) (1 ∷ []) refl (differ 1 0 1 (omega arith) (omega arith)) 1).each 0 (omega arith)).below,
  ((claim.exact_differs 1 (1 ∷ []) (0 ∷ []) refl (differ 1 1 0 (omega arith) (omega arith)) 1).each 0 (omega arith)).above,
)

-- ---- one less: 16384 becomes 16383, and in the exact run 1 becomes 16383. A local minimum falls, and so does the least pixel
pub lighter : BrightSpots (weighing 16383) 1 1 → (16384 ≤ 16383) × (16384 ≤ 16383) × (16384 ≤ 16383) × (16384 ≤ 16383)
unfolding pixel_at entries rows weighted_at step_of exact_step_of iterate neighbours each_neighbour least
lighter claim = (
  (claim.steps_enhance_none (16384 ∷ []) 0).no_fall 0 0 (omega arith) (omega arith) refl,
  (claim.exact_enhances_none (1 ∷ []) 0).no_fall 0 0 (omega arith) (omega arith) refl,
  (claim.steps_within (16384 ∷ []) refl 0 1).least_never_falls,
  (claim.exact_within (1 ∷ []) refl 0 1).least_never_falls,
)

-- ---- wrapped round: half of each pixel beside, the row's other end at its ends. 3 is at least as large as its neighbour 0 and becomes 5; 6 is at
-- most as large as 9 and becomes 5; and so in a column
pub wrapped : NonEnhancement 1 3 1 (3 ∷ 0 ∷ 9 ∷ []) (5 ∷ 6 ∷ 2 ∷ []) → NonEnhancement 1 3 1 (6 ∷ 9 ∷ 0 ∷ []) (5 ∷ 3 ∷ 8 ∷ [])
    → NonEnhancement 1 1 3 (9 ∷ 0 ∷ 3 ∷ []) (2 ∷ 6 ∷ 5 ∷ []) → NonEnhancement 1 1 3 (0 ∷ 9 ∷ 6 ∷ []) (8 ∷ 3 ∷ 5 ∷ [])
    → (5 ≤ 3) × (6 ≤ 5) × (5 ≤ 3) × (6 ≤ 5)
unfolding pixel_at neighbours each_neighbour
wrapped rises falls bottom-rises bottom-falls = (
  rises.no_rise 0 0 (omega arith) (omega arith) refl,
  falls.no_fall 0 0 (omega arith) (omega arith) refl,
  bottom-rises.no_rise 0 2 (omega arith) (omega arith) refl,
  bottom-falls.no_fall 0 2 (omega arith) (omega arith) refl,
)

-- ---- above the average: a single pixel, which is its own average, becomes one more
pub brighter : NonEnhancement 1 1 1 (7 ∷ []) (8 ∷ []) → 8 ≤ 7
unfolding pixel_at neighbours each_neighbour
brighter claim = claim.no_rise 0 0 (omega arith) (omega arith) refl

-- ---- halves to even: of the rows 0 1 and 1 2, which differ by 1, half of each pixel beside is 1/2 and 3/2 everywhere, and becomes 0 and 2
pub to_even : Entrywise (Differ 1) (0 ∷ 0 ∷ []) (2 ∷ 2 ∷ []) → 2 ≤ 1
to_even claim = (claim.each 0 (omega arith)).below
