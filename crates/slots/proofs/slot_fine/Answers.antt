-- `slots::slot_fine` meets its contract: an empty slot is the one that is all zero, and a number that is none of those before occurs
-- among them no time. Assumes nothing.
use mathlib.Core.Path.{refl, ap}
use mathlib.Core.Bool.{◌&&◌}
use native.Mathlib.Omega.{arith}
use borrow.Author.Tests.{eq-eqb, ne_eqb}
use lib.ListN.{length}
use Rattle.std.proofs.lemmas.List.{take_all}
use Rattle.machine.specs.Rules.{current_rules}
use Rattle.machine.specs.Order.{all_zero, filled_fine}
use Rattle.slots.specs.Numbers.{slot_fine_after}
use Rattle.slots.proofs.Laws.{zero_alike}
use Rattle.slots.proofs.Apart.{occurs_new}
use Rattle.slots.proofs.slot_fine.Goals as goal

pub returns-then-slot-eq0 : goal.returns-then-slot-eq0
unfolding slot_fine_after all_zero
returns-then-slot-eq0 c =
    let slot = c.args.slot.now in
    rw (eq-eqb _ _ c.if-slot-eq0.true, c.eq.ensures, c.empty_slot.ensures, c.if-slot-eq0.true, zero_alike slot.xx, zero_alike slot.xy, zero_alike slot.yy) refl

pub returns : goal.returns
unfolding slot_fine_after
returns c =
    let before = c.args.before.now in
    let n = c.args.slot.now.number in
    let new = rw (take_all (length before) before (omega arith)) at (occurs_new before n (length before) (omega arith)) in
    rw (c.filled_fine.ensures, ne_eqb _ _ c.if-slot-eq0.false, c.contains.ensures.value) (ap (λ b. filled_fine current_rules c.args.last c.args.slot.now && b) new)
