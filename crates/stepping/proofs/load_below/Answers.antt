-- `stepping::load_below` meets its contract: the row below goes into a line apart from the two others, which stay as they were; the last
-- row has its own line below it. Assumes nothing.
use mathlib.Core.Path.{◌≡◌, ap, ◌∙◌}
use mathlib.Core.List.{List}
use Prim.Native.Nat.{ℕ, ◌+◌, ◌-◌, ◌≤◌, min}
use native.Mathlib.Omega.{arith}
use lib.ListN.{length}
use Rattle.row_core.specs.Rows.{padded_of, part}
use Rattle.row_core.proofs.Parts.{length_part}
use Rattle.stepping.proofs.Windows.{load_below, move_down}
use Rattle.stepping.proofs.load_below.Goals as goal

pub returns-then-next-source-clause-window_holds : goal.returns-then-next-source-clause-window_holds
returns-then-next-source-clause-window_holds c =
    let a = c.args in
    let row : ℕ → List ℕ = λ i. part i a.width a.source.now in
    let slots = c.requires.slots in
    let next : a.row + a.width + a.width ≤ length a.source.now = c.requires.next (omega arith) in
    let nearest : a.row + a.width ≡ min (a.row + a.width) (length a.source.now - a.width) = omega (arith, next) in
    let b = load_below a.lines.now a.window a.width (row (a.row + a.width)) slots (length_part (a.row + a.width) a.width a.source.now next) c.load_line.ensures in
    record {
      above_inside = omega (arith, b.size, slots.above);
      at_inside = omega (arith, b.size, slots.at);
      below_inside = omega (arith, b.size, slots.below);
      above = b.above;
      at = b.at ∙ c.requires.at;
      below = b.below ∙ ap (λ (i : ℕ). padded_of (row i)) nearest;
    }

pub returns-then-next-source-clause-lines_len_unchanged : goal.returns-then-next-source-clause-lines_len_unchanged
returns-then-next-source-clause-lines_len_unchanged c =
    let a = c.args in
    let row : ℕ → List ℕ = λ i. part i a.width a.source.now in
    let slots = c.requires.slots in
    let next : a.row + a.width + a.width ≤ length a.source.now = c.requires.next (omega arith) in
    let b = load_below a.lines.now a.window a.width (row (a.row + a.width)) slots (length_part (a.row + a.width) a.width a.source.now next) c.load_line.ensures in
    (b.size, λ h u e. move_down a.lines.now c.load_line.new.lines a.window u a.width (row a.row) (row (a.row + a.width)) slots c.requires.at b e)
