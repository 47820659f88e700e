-- `row_core::Recipe::smooth_row` meets its contract. The loop's invariant: the pixels before column x are stored (`Filled`). Assumes nothing.
use mathlib.Core.Path.{refl, ◌∙◌}
use native.Mathlib.Omega.{arith}
use lib.ListN.{length}
use Rattle.averaging.proofs.Images.{filled_none, filled_more, filled_all}
use Rattle.row_core.specs.Rows.{row_of}
use Rattle.row_core.proofs.coefficients.Recipe.smooth_row.Goals as goal
use Rattle.row_core.proofs.coefficients.Recipe.smooth_row.Invariants.{pixels}

pub loop-x-init : goal.loop-x-init
loop-x-init c =
    let a = c.args in
    filled_none (length a.out.now) (pixels a.self.coefficients a.lines.above.now a.lines.at.now a.lines.below.now) a.out.now refl

pub loop-x-preserved : goal.loop-x-preserved
loop-x-preserved c =
    let a = c.args in
    let l = c.loop-x in
    filled_more (length a.out.now) (pixels a.self.coefficients a.lines.above.now a.lines.at.now a.lines.below.now) l.out l.x l.invariant (omega arith)
    (c.average.ensures ∙ rw (c.column.ensures, c.column-in-loop-x.ensures, c.column-in-loop-x-2.ensures))

pub returns : goal.returns
unfolding row_of
returns c =
    let a = c.args in
    let l = c.loop-x in
    filled_all (length a.out.now) (pixels a.self.coefficients a.lines.above.now a.lines.at.now a.lines.below.now) l.out l.x l.invariant (omega arith)
