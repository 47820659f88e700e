-- `service::changed_over` meets its contract: the record that is made is in order exactly where the old one is, and is then the one of the definition
-- (`proofs/Change`). Assumes nothing.
use borrow.Author.Rules.{rules}
use mathlib.Core.Path.{◌≡◌, sym, ◌∙◌, ap}
use mathlib.Core.Bool.{true, false}
use lib.ListN.{length}
use Rattle.machine.specs.Rules.{base_rules, current_rules}
use Rattle.machine.specs.Slots.{slot_count}
use Rattle.machine.specs.Order.{in_order}
use Rattle.service.proofs.Change.{given_order, given_is}
use Rattle.service.proofs.changed_over.Goals as goal

pub returns-then-not-in_order : goal.returns-then-not-in_order
returns-then-not-in_order c =
    let r = c.args.service in
    let tested = c.in_order.ensures ∙ ap (in_order current_rules) c.all_given-next.ensures ∙ given_order r in
    let bad : in_order base_rules r ≡ false = sym tested ∙ c.if-not-in_order.true in
    rw bad

pub returns : goal.returns
returns c =
    let r = c.args.service in
    let tested = c.in_order.ensures ∙ ap (in_order current_rules) c.all_given-next.ensures ∙ given_order r in
    let ordered : in_order base_rules r ≡ true = sym tested ∙ c.if-not-in_order.false in
    let many : length r.slots ≡ slot_count = search rules in
    rw (c.all_given-next.ensures, given_is r many ordered, ordered)
