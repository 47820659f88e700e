-- `in_place::Plan::make_band` meets its contract: what stands between the ends of its rows is made first, and the ends then. Assumes nothing.
use native.Mathlib.Omega.{arith}
use Rattle.row_core.proofs.Rows.{row_inside}
use Rattle.in_place.proofs.Plan.make_band.Goals as goal

pub returns : goal.returns
returns c j x lj lx =
    let w = c.args.self.now.width in
    let row = row_inside w c.args.band.rows j lj in
    c.make_ends.ensures j x lj lx (λ low high. c.make_inside.ensures w j x (omega (arith, row)) low high)
