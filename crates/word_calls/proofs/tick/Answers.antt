-- `word_calls::tick` meets its contract: words that hold no record, or one out of order, are refused, as a store of another length is; else the slot
-- is looked for and served, and the two words that change are written (proofs/Ticks). Assumes nothing.
use mathlib.Core.Path.{◌≡◌, sym, ◌∙◌}
use mathlib.Core.Bool.{true}
use mathlib.Core.List.{[]}
use borrow.Author.Rules.{rules}
use borrow.Author.Tests.{eq-eqb, ne_eqb}
use Rattle.std.specs.Prelude.{Some, None, Err}
use Rattle.limits.specs.declared.ErrorCode.TheVariants.{RecordOutOfOrder}
use Rattle.machine.specs.declared.Service.{Service}
use Rattle.machine.specs.Answers.{Answered}
use Rattle.machine.specs.Rules.{current_rules}
use Rattle.machine.specs.Order.{in_order}
use Rattle.machine.specs.Calls.{Result, tick_of, served_place}
use Rattle.record_words.specs.Words.{fields_fit, service_of, slot_of}
use Rattle.record_words.proofs.Laws.{fit_length}
use Rattle.word_calls.proofs.Laws.{unfit_leaves, unfit_store}
use Rattle.word_calls.proofs.Ticks.{tick_refused, tick_idle, served_at, ready, tick_served}
use Rattle.word_calls.proofs.tick.Goals as goal
use Rattle.word_calls.proofs.tick.Goals.{then-not-in_order-via-then-not-in_order, then-not-in_order-via-else-not-in_order+then-store-ne-STORE_PIXELS}

pub returns-in_err-held : goal.returns-in_err-held
returns-in_err-held c old =
    let words = c.args.words.now in
    let store = c.args.store.now in
    let call : Service → Result = λ r. tick_of current_rules r store in
    let unfit = c.in_err-held.ensures.1 in
    let refused : ◌≡◌ {A = Answered} c.from_residual.result (Err RecordOutOfOrder) = search rules in (
      rw refused (unfit_leaves call words old store [] unfit),
      unfit_store call words old store [] unfit,
    )

pub returns-then-not-in_order : goal.returns-then-not-in_order
returns-then-not-in_order c =
    let words = c.args.words.now in
    let store = c.args.store.now in
    let fit : fields_fit current_rules words ≡ true = search rules in
    let order : c.in_order.result ≡ in_order current_rules (service_of current_rules words) = search rules in
    elim c.then-not-in_order.branch [
      | then-not-in_order-via-then-not-in_order w ↦ tick_refused words store fit (rw (sym order ∙ w.if-not-in_order.true))
      | then-not-in_order-via-else-not-in_order+then-store-ne-STORE_PIXELS w ↦ tick_refused words store fit (rw (sym order ∙ w.if-not-in_order.false, ne_eqb _ _ w.if-store-ne-STORE_PIXELS.true))
    ]

pub returns-in_default : goal.returns-in_default
returns-in_default c =
    let words = c.args.words.now in
    let store = c.args.store.now in
    let fit : fields_fit current_rules words ≡ true = search rules in
    let order : in_order current_rules (service_of current_rules words) ≡ true = search rules in
    let none : served_place current_rules (service_of current_rules words) ≡ None = search rules in
    tick_idle words store fit (rw (order, eq-eqb _ _ c.if-store-ne-STORE_PIXELS.false)) none

pub slot-slot-requires : goal.slot-slot-requires
slot-slot-requires c =
    let words = c.args.words.now in
    let store = c.args.store.now in
    let fit : fields_fit current_rules words ≡ true = search rules in
    let order : in_order current_rules (service_of current_rules words) ≡ true = search rules in
    let found : served_place current_rules (service_of current_rules words) ≡ Some c.in-Some.place = search rules in
    (served_at words store fit (rw (order, eq-eqb _ _ c.if-store-ne-STORE_PIXELS.false)) c.in-Some.place found).0

pub step_slot-requires : goal.step_slot-requires
step_slot-requires c =
    let words = c.args.words.now in
    let store = c.args.store.now in
    let fit : fields_fit current_rules words ≡ true = search rules in
    let order : in_order current_rules (service_of current_rules words) ≡ true = search rules in
    let found : served_place current_rules (service_of current_rules words) ≡ Some c.in-Some.place = search rules in
    let read : c.slot-slot.result ≡ slot_of current_rules words c.in-Some.place = search rules in
    ready words store fit (rw (order, eq-eqb _ _ c.if-store-ne-STORE_PIXELS.false)) c.in-Some.place found c.slot-slot.result read

pub overflow_sub-slot : goal.overflow_sub-slot
overflow_sub-slot c =
    let words = c.args.words.now in
    let store = c.args.store.now in
    let fit : fields_fit current_rules words ≡ true = search rules in
    let order : in_order current_rules (service_of current_rules words) ≡ true = search rules in
    let found : served_place current_rules (service_of current_rules words) ≡ Some c.in-Some.place = search rules in
    let read : c.slot-slot.result ≡ slot_of current_rules words c.in-Some.place = search rules in
    (ready words store fit (rw (order, eq-eqb _ _ c.if-store-ne-STORE_PIXELS.false)) c.in-Some.place found c.slot-slot.result read).left

pub write_turn-requires : goal.write_turn-requires
write_turn-requires c =
    let words = c.args.words.now in
    let store = c.args.store.now in
    let fit : fields_fit current_rules words ≡ true = search rules in
    let order : in_order current_rules (service_of current_rules words) ≡ true = search rules in
    let found : served_place current_rules (service_of current_rules words) ≡ Some c.in-Some.place = search rules in
    (fit_length current_rules words fit, (served_at words store fit (rw (order, eq-eqb _ _ c.if-store-ne-STORE_PIXELS.false)) c.in-Some.place found).0)

pub returns : goal.returns
returns c =
    let words = c.args.words.now in
    let store = c.args.store.now in
    let fit : fields_fit current_rules words ≡ true = search rules in
    let order : in_order current_rules (service_of current_rules words) ≡ true = search rules in
    let found : served_place current_rules (service_of current_rules words) ≡ Some c.in-Some.place = search rules in
    let read : c.slot-slot.result ≡ slot_of current_rules words c.in-Some.place = search rules in
    tick_served words store fit (rw (order, eq-eqb _ _ c.if-store-ne-STORE_PIXELS.false)) c.in-Some.place found c.slot-slot.result read _ _ c.write_turn.ensures c.step_slot.ensures
