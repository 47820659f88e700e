-- `stepping::Plan::step_whole` meets its contract: the lines hold the rows of the source, of which the step is made. Assumes nothing.
use native.Mathlib.Omega.{arith}
use Rattle.stepping.proofs.Whole.{lines_doubled}
use Rattle.stepping.proofs.Plan.step_whole.Goals as goal

pub step_all-requires : goal.step_all-requires
step_all-requires c =
    let a = c.args in
    let p = a.self.sides in
    let holds = c.load_all.ensures in
    record {
      readable = record {
        wide = p.wide;
        high = p.high;
        room = holds.room;
        target = c.requires.pictures.1;
        doubled = lines_doubled _ a.source.now a.self.width a.self.height holds (λ j. omega (arith, c.type_inv.source j));
      };
    }
