-- What S-2 is for: the paper's ratio of two between the centre and its four neighbours, which equation 82's kernel
-- has not. Definitions only.
use Rattle.std.specs.Prelude.{ℕ, ◌*◌, ◌≤◌, get_or}
use Rattle.kernel.specs.declared.Kernel.{Kernel}

-- the weights at the offsets (0,0), (−1,0) and (0,−1): their places in the order of `offsets`
abbrev pub centre_of : Kernel → ℕ
centre_of kernel = get_or kernel.weights 4 0

abbrev pub beside_of : Kernel → ℕ
beside_of kernel = get_or kernel.weights 3 0

abbrev pub above_of : Kernel → ℕ
above_of kernel = get_or kernel.weights 1 0

-- "the kernel values at the nearest four-neighbours .. should have values that are not greater than half the value of the central
-- point" (000, before equation 83). Opposite weights are equal, so two neighbours stand for four.
pub record RatioOfTwo (kernel : Kernel) : Type 0 where
  pub beside : 2 * beside_of kernel ≤ centre_of kernel
  pub above : 2 * above_of kernel ≤ centre_of kernel
