-- `differences::Place::next` meets its contract: the next index is one column on in the same row, or column 0 of the row below
-- where the column is the last. Assumes nothing.
use Rattle.differences.specs.Places.{index_of}
use Rattle.differences.proofs.Places.{along, down}
use Rattle.differences.proofs.Place.next.Goals as goal

pub returns-then-self : goal.returns-then-self
returns-then-self c =
    along c.args.width c.requires.wide.0 c.args.size (index_of c.args.self) c.args.self c.requires.here c.if-self.true c.after.ensures

pub returns-else-self : goal.returns-else-self
returns-else-self c =
    down c.args.width c.requires.wide.0 c.args.size (index_of c.args.self) c.args.self c.requires.here c.if-self.false c.after-else-self.ensures c.after-else-self-2.ensures
