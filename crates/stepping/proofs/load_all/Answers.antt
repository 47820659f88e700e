-- `stepping::load_all` meets its contract. The loop's invariant: the rows before row y stand in their lines. Assumes nothing.
use mathlib.Core.Path.{◌≡◌, ap, ◌∙◌}
use Prim.Native.Nat.{ℕ, ◌+◌, ◌*◌, ◌≤◌, ◌<◌}
use native.Mathlib.Omega.{arith}
use lib.ListN.{length}
use lib.Seq.{length-paste}
use Rattle.row_core.specs.Rows.{padded_of, part}
use Rattle.row_core.proofs.Parts.{length_part}
use Rattle.row_core.proofs.Rows.{length_padded, row_inside}
use Rattle.stepping.proofs.Whole.{line_inside, hold_more}
use Rattle.stepping.proofs.load_all.Goals as goal

pub loop-done-preserved : goal.loop-done-preserved
loop-done-preserved c =
    let a = c.args in
    let l = c.loop-done in
    let low : l.done < a.height = omega arith in
    let line : l.done * (a.width + 2) + (a.width + 2) ≤ length l.lines = omega (arith, line_inside a.width a.height l.done low, l.invariant.room, c.requires) in
    let row = length_part (l.done * a.width) a.width a.source.now (omega (arith, row_inside a.width a.height l.done low, c.requires.source)) in
    let n : length (padded_of (part (l.done * a.width) a.width a.source.now)) ≡ a.width + 2 = length_padded _ ∙ ap (λ (m : ℕ). m + 2) row in
    let e = c.load_line.ensures in
    record {
      room = ap length e ∙ length-paste l.lines (l.done * (a.width + 2)) _ (a.width + 2) line (omega (arith, n)) ∙ l.invariant.room;
      held = hold_more a.width l.done a.source.now l.lines line row e l.invariant.held;
    }
