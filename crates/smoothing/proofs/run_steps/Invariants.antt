-- `smoothing::run_steps` meets its contract. The loop's invariant: after n turns the first picture holds step 2n, and the second
-- step 2n − 1, but for n = 0, where it holds what it held; both keep their lengths. The measure is what is left of the turns.
-- After the last turn an even number of steps is done, and an odd one wants one step more, from the first to the second.
-- Assumes nothing.
use mathlib.Core.Path.{◌≡◌}
use mathlib.Core.List.{List}
use Prim.Native.Nat.{ℕ, ◌-◌, ◌*◌, ◌≤◌}
use lib.ListN.{length}
use Rattle.kernel.specs.declared.Kernel.{Kernel}
use Rattle.averaging.specs.Steps.{steps_of}
use Rattle.stepping.specs.Step.{PicturePair}
use Rattle.smoothing.proofs.run_steps.Given as goal

pub record Turned (kernel : Kernel) (w h turns : ℕ) (start first second : List ℕ) (n : ℕ) : Type 0 where
  pub within : n ≤ turns
  pub filled : PicturePair (length first) (length second) w h
  pub first_after : first ≡ steps_of kernel w h (2 * n) start
  pub second_after : 1 ≤ n → second ≡ steps_of kernel w h (2 * n - 1) start

abbrev pub invariant-loop : goal.invariant-loop
invariant-loop l =
    Turned l.kernel l.width l.height l.end l.initial.first l.first l.second l.counter

abbrev pub decreases-loop : goal.decreases-loop
decreases-loop l =
    l.end - l.counter
