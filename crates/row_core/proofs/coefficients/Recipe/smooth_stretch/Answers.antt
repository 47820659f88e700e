-- `row_core::Recipe::smooth_stretch` meets its contract. The loop's invariant: the pixels before column x are stored (`Filled`). Assumes nothing.
use mathlib.Core.Path.{refl, ◌∙◌}
use native.Mathlib.Omega.{arith}
use lib.ListN.{length}
use Rattle.averaging.proofs.Images.{filled_none, filled_more, filled_all}
use Rattle.row_core.specs.Stretches.{stretch_of}
use Rattle.row_core.proofs.coefficients.Recipe.smooth_stretch.Goals as goal
use Rattle.row_core.proofs.coefficients.Recipe.smooth_stretch.Invariants.{pixels}

pub loop-x-init : goal.loop-x-init
loop-x-init c =
    let a = c.args in
    filled_none (length a.out.now) (pixels a.self.coefficients a.rows.above.now a.rows.at.now a.rows.below.now) a.out.now refl

pub loop-x-preserved : goal.loop-x-preserved
loop-x-preserved c =
    let a = c.args in
    let l = c.loop-x in
    filled_more (length a.out.now) (pixels a.self.coefficients a.rows.above.now a.rows.at.now a.rows.below.now) l.out l.x l.invariant (omega arith)
    (c.average_of_pixels.ensures ∙ rw (c.pixels.ensures.value, c.pixels-in-loop-x.ensures.value, c.pixels-in-loop-x-2.ensures.value))

pub returns : goal.returns
unfolding stretch_of
returns c =
    let a = c.args in
    let l = c.loop-x in
    filled_all (length a.out.now) (pixels a.self.coefficients a.rows.above.now a.rows.at.now a.rows.below.now) l.out l.x l.invariant (omega arith)
