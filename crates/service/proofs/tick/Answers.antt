-- `service::tick` meets its contract: a slot with steps left is a filled one. Assumes nothing.
use Prim.Native.Nat.{◌<◌}
use borrow.Author.Rules.{rules}
use Rattle.machine.specs.Rules.{current_rules}
use Rattle.machine.specs.Slots.{slot_count, slot_at}
use Rattle.machine.proofs.Orderly.{filled_slot, left_filled}
use Rattle.service.proofs.Laws.{usable_parts}
use Rattle.service.proofs.tick.Goals as goal

pub step_slot-requires : goal.step_slot-requires
step_slot-requires c =
    let r = c.args.service.now in
    let place = c.in-Some.place in
    let w = usable_parts r c.args.store.now (search rules) in
    let at : place < slot_count = search rules in
    let left : 0 < (slot_at r place).left = search rules in
    record {
      long = w.1;
      at = at;
      left = left;
      last = r.last;
      filled = filled_slot current_rules r w.0 place at (left_filled current_rules r w.0 place at left);
    }
