-- `stepping::Plan::step_through` meets its contract. The loop's invariant: the rows before row y are in place, and the window's lines
-- above and at hold row y, if there is one, and the row before it, or row 0 where there is none. Assumes nothing.
use mathlib.Core.Path.{◌≡◌}
use mathlib.Core.List.{List}
use Prim.Native.Nat.{ℕ, ◌-◌, ◌*◌, ◌<◌}
use lib.ListN.{length, take}
use Rattle.kernel.specs.declared.Kernel.{Kernel}
use Rattle.averaging.specs.Steps.{step_of}
use Rattle.row_core.specs.Prepared.{kernel_of_coefficients}
use Rattle.row_core.specs.Rows.{part}
use Rattle.stepping.specs.Buffers.{Loaded}
use Rattle.row_core.specs.declared.Starts.{Starts}
use Rattle.stepping.proofs.Plan.step_through.Given as goal

pub record Progress (k : Kernel) (w h : ℕ) (source d₀ d b₀ b : List ℕ) (v : Starts) (y : ℕ) : Type 0 where
  pub size : length d ≡ length d₀
  pub room : length b ≡ length b₀
  pub loaded : y < h → Loaded b v w (part ((y - 1) * w) w source) (part (y * w) w source)
  pub done : take (y * w) d ≡ take (y * w) (step_of k w h source)

abbrev pub invariant-loop-y : goal.invariant-loop-y
invariant-loop-y l =
    Progress (kernel_of_coefficients l.self.coefficients) l.width l.self.height l.source l.initial.target l.target l.initial.lines l.lines l.window l.y
