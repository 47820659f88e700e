-- `stepping::load_all` meets its contract. The loop's invariant: the rows before row y stand in their lines. Assumes nothing.
use mathlib.Core.Path.{◌≡◌}
use mathlib.Core.List.{List}
use Prim.Native.Nat.{ℕ, ◌*◌, ◌<◌}
use lib.ListN.{length}
use Rattle.row_core.specs.Rows.{padded_of, part}
use Rattle.stepping.specs.Whole.{line_at}
use Rattle.stepping.proofs.load_all.Given as goal

pub record Progress (w h : ℕ) (source b₀ b : List ℕ) (y : ℕ) : Type 0 where
  pub room : length b ≡ length b₀
  pub held : (z : ℕ) → z < y → line_at w z b ≡ padded_of (part (z * w) w source)

abbrev pub invariant-loop-done : goal.invariant-loop-done
invariant-loop-done l =
    Progress l.width l.height l.source l.initial.lines l.lines l.done
