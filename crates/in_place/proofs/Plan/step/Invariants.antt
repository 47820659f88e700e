-- `in_place::Plan::step` meets its contract. The loop's invariant: the rows before `y` are made, those from there on are as they were, and the band
-- at `y` waits in the line `even`. The measure is what is left of the image. Assumes nothing.
use mathlib.Core.Path.{◌≡◌}
use mathlib.Core.List.{List}
use Prim.Native.Nat.{ℕ, ◌-◌, ◌*◌, ◌≤◌}
use lib.ListN.{length}
use Rattle.limits.specs.Limits.{longest_side}
use Rattle.kernel.specs.declared.Kernel.{Kernel}
use Rattle.row_core.specs.Prepared.{kernel_of_coefficients}
use Rattle.in_place.specs.Bands.{Place, Waiting}
use Rattle.in_place.proofs.Plan.step.Given as goal

pub record Progress (k : Kernel) (w h : ℕ) (old even₀ odd₀ picture even odd : List ℕ) (y rows : ℕ) : Type 0 where
  pub place : Place h y rows
  pub short : rows * w ≤ longest_side
  pub waiting : Waiting k w h old picture even (y * w) (rows * w)
  pub pixels : length picture ≡ length old
  pub even_line : length even ≡ length even₀
  pub odd_line : length odd ≡ length odd₀

abbrev pub invariant-loop-y : goal.invariant-loop-y
invariant-loop-y l =
    Progress (kernel_of_coefficients l.self.coefficients) l.self.width l.self.height l.initial.picture l.initial.even l.initial.odd l.picture l.even l.odd l.y l.rows

abbrev pub decreases-loop-y : goal.decreases-loop-y
decreases-loop-y l =
    l.self.height - l.y
