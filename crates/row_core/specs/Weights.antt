-- The weights of a kernel, the products that stand for them, and what a step divides with. Definitions only.
use Rattle.std.specs.Prelude.{◌≡◌, [], ◌∷◌, ℕ, ◌+◌, ◌-◌, ◌*◌, ◌/◌, ◌^◌, ◌≤◌}
use Rattle.kernel.specs.Molecule.{sum_of}
use Rattle.kernel.specs.Sound.{Sound}
use Rattle.kernel.specs.declared.Kernel.{Kernel}
use Rattle.row_core.specs.declared.weights.Weights.{Weights}
use Rattle.row_core.specs.declared.weights.Products.{Products}

-- what stands for 1 in a reciprocal: 32 binary places
abbrev pub reciprocal_one : ℕ
reciprocal_one = 2 ^ 32

-- 1 over a number, upward
abbrev pub reciprocal_of : ℕ → ℕ
reciprocal_of n = (reciprocal_one + (n - 1)) / n

-- five weights stand for nine, and sum to what a step divides by
abbrev pub kernel_of_weights : Weights → Kernel
kernel_of_weights w =
    record {
      weights =
          w.diagonal ∷ w.down ∷ w.across
          ∷ w.along ∷ w.centre ∷ w.along
          ∷ w.across ∷ w.down ∷ w.diagonal
          ∷ [];
      sum = 2 * (w.diagonal + w.down + w.across + w.along) + w.centre;
    }

-- the step count that weights sum to
abbrev pub step_count : Weights → ℕ
step_count w = (kernel_of_weights w).sum / sum_of 1

-- weights of some step count, the reciprocal of twice the step count, half the weights' sum, and nothing left over
pub record Divides (w : Weights) (reciprocal half rest : ℕ) : Type 0 where
  pub sound : Sound (kernel_of_weights w) (step_count w)
  pub reciprocal_is : reciprocal ≡ reciprocal_of (2 * step_count w)
  pub half_is : half ≡ (kernel_of_weights w).sum / 2
  pub none_left : rest ≡ 0

-- the centre counts at most twice with a pair
pub record Counts (p : Products) : Type 0 where
  pub row : p.centre_in_row ≤ 2
  pub column : p.centre_in_column ≤ 2

-- products of weights: a pair weighs what stands for it alone and what it shares with the other pair, the centre what stands for it
-- alone and what it weighs where it counts with a pair
pub record ProductsOf (w : Weights) (p : Products) : Type 0 where
  pub diagonal : p.diagonal + p.corners ≡ w.diagonal
  pub down : p.down + p.sides ≡ w.down
  pub across : p.across + p.corners ≡ w.across
  pub along : p.along + p.sides ≡ w.along
  pub centre : p.centre + p.centre_in_row * (p.along + p.sides) + p.centre_in_column * p.down ≡ w.centre
  pub counts : Counts p
