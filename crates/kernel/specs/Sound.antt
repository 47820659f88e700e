-- What smoothing needs of a kernel: nine weights, the same at opposite offsets, whose sum is the number that a step divides
-- by. Definitions only; `proofs/Theorems` shows it of every kernel that the call answers.
use Rattle.std.specs.Prelude.{◌≡◌, ℕ, ◌≤◌, length, get_or}
use Rattle.limits.specs.Limits.{most_steps}
use Rattle.kernel.specs.declared.Kernel.{Kernel}
use Rattle.kernel.specs.Offsets.{total}
use Rattle.kernel.specs.Molecule.{sum_of}

pub record Sound (kernel : Kernel) (k : ℕ) : Type 0 where
  pub low : 1 ≤ k
  pub high : k ≤ most_steps
  pub nine : length kernel.weights ≡ 9
  pub sum : kernel.sum ≡ sum_of k
  pub whole : total kernel.weights ≡ sum_of k
  pub diagonal : get_or kernel.weights 8 0 ≡ get_or kernel.weights 0 0
  pub down : get_or kernel.weights 7 0 ≡ get_or kernel.weights 1 0
  pub across : get_or kernel.weights 6 0 ≡ get_or kernel.weights 2 0
  pub along : get_or kernel.weights 5 0 ≡ get_or kernel.weights 3 0
