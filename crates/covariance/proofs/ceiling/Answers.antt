-- `covariance::ceiling` meets its contract: the whole number below x is a float exactly, so comparing it with x tells
-- whether x has a fraction, and one is added only then. Assumes nothing.
use Rattle.std.proofs.Common.{arith, lit≤}
use Rattle.covariance.specs.Cuts.{most_halves}
use Rattle.covariance.proofs.Wholes.{above_when_less, above_when_not}
use Rattle.covariance.proofs.ceiling.Goals as goal

pub returns-then-whole-x : goal.returns-then-whole-x
returns-then-whole-x c =
    let s = c.before.before.before in
    let f = c.floor-whole in
    (above_when_less most_halves (lit≤ tt) s.args.x f.result s.requires f.ensures.1 f.ensures.0 c.if-whole-x.true, omega arith)

pub returns-else-whole-x : goal.returns-else-whole-x
returns-else-whole-x c =
    let s = c.before.before.before in
    let f = c.floor-whole in
    (above_when_not most_halves (lit≤ tt) s.args.x f.result s.requires f.ensures.1 f.ensures.0 c.if-whole-x.false, omega arith)
