-- `slots::in_order` meets its contract. The invariant: every slot passed is fine after the slots before it. Assumes nothing.
use mathlib.Core.Path.{◌≡◌, refl, sym}
use native.Mathlib.Omega.{arith}
use Rattle.std.proofs.Math.Bool.{and_assoc}
use Rattle.machine.specs.Slots.{slot_count, slot_at}
use Rattle.machine.specs.Rules.{current_rules}
use Rattle.machine.specs.Order.{in_order}
use Rattle.machine.proofs.Counts.{every_none, every_more}
use Rattle.slots.proofs.Apart.{after_fine, fine_after_taken}
use Rattle.slots.proofs.in_order.Goals as goal

pub loop-place-init : goal.loop-place-init
loop-place-init c = sym (every_none _)

pub loop-place-preserved : goal.loop-place-preserved
loop-place-preserved c =
    let numbers = c.numbers_of-numbers.result in
    let place = c.loop-place.place in
    let service = c.args.service.now in
    let taken = fine_after_taken current_rules service.last numbers place (slot_at service place) (omega arith) in
    rw (every_more, c.loop-place.invariant, c.slot_fine-fine.ensures, taken) refl

pub returns : goal.returns
unfolding in_order
returns c =
    let e : c.loop-place.place ≡ slot_count = omega arith in
    rw (c.loop-place.invariant, e, c.numbers_of-numbers.ensures, after_fine current_rules c.args.service.now) (rw and_assoc refl)
