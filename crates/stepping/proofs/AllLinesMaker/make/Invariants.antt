-- `stepping::AllLinesMaker::make` meets its contract. The loop's invariant: the rows before row y are in place, and the window is at row y, if
-- there is one. Assumes nothing.
use mathlib.Core.Path.{◌≡◌}
use mathlib.Core.List.{List}
use Prim.Native.Nat.{ℕ, ◌*◌, ◌<◌}
use lib.ListN.{length, take}
use Rattle.kernel.specs.declared.Kernel.{Kernel}
use Rattle.averaging.specs.Steps.{step_of}
use Rattle.row_core.specs.Prepared.{kernel_of_coefficients}
use Rattle.stepping.specs.Whole.{HoldsRows}
use Rattle.row_core.specs.declared.Starts.{Starts}
use Rattle.stepping.proofs.Whole.{Around}
use Rattle.stepping.proofs.AllLinesMaker.make.Given as goal

pub record Progress (k : Kernel) (w h : ℕ) (lines d₀ d : List ℕ) (v : Starts) (y : ℕ) : Type 0 where
  pub size : length d ≡ length d₀
  pub around : y < h → Around v w h y
  pub done : (source : List ℕ) → length source ≡ w * h → HoldsRows lines w h source → take (y * w) d ≡ take (y * w) (step_of k w h source)

abbrev pub invariant-loop-y : goal.invariant-loop-y
invariant-loop-y l =
    Progress (kernel_of_coefficients l.recipe.coefficients) l.self.width l.self.height l.self.lines.now l.initial.target l.target l.window l.y
