-- `word_calls::collect` meets its contract: words that hold no record are refused before the call; else the call is made on their record, and
-- `hand_out` writes what it answered. Assumes nothing.
use mathlib.Core.Path.{◌≡◌, ◌∙◌}
use mathlib.Core.Bool.{true}
use borrow.Author.Rules.{rules}
use Rattle.std.specs.Prelude.{Err}
use Rattle.limits.specs.declared.ErrorCode.TheVariants.{RecordOutOfOrder}
use Rattle.machine.specs.declared.Service.{Service}
use Rattle.machine.specs.Rules.{current_rules}
use Rattle.machine.specs.Answers.{Answered}
use Rattle.machine.specs.Calls.{Result, collect_of}
use Rattle.record_words.specs.Words.{fields_fit, service_of}
use Rattle.record_words.proofs.Laws.{fit_length}
use Rattle.word_calls.proofs.Laws.{unfit_leaves, refused_leaves, handed_leaves, unfit_lent, fit_lent}
use Rattle.word_calls.proofs.collect.Goals as goal

pub returns-in_err-new : goal.returns-in_err-new
returns-in_err-new c old =
    let a = c.args in
    let words = a.words.now in
    let call : Service → Result = λ r. collect_of current_rules r a.store.now a.job a.picture.now in
    let unfit = c.in_err-new.ensures.1 in
    let refused : ◌≡◌ {A = Answered} c.from_residual.result (Err RecordOutOfOrder) = search rules in (
      rw refused (unfit_leaves call words old a.store.now a.picture.now unfit),
      unfit_lent call words old a.store.now a.picture.now unfit,
    )

pub returns-in_err-answer : goal.returns-in_err-answer
returns-in_err-answer c old =
    let a = c.args in
    let words = a.words.now in
    let call : Service → Result = λ r. collect_of current_rules r a.store.now a.job a.picture.now in
    let fit : fields_fit current_rules words ≡ true = search rules in
    let held : c.service-service.result ≡ service_of current_rules words = search rules in
    let left = c.collect.ensures in
    let refused : ◌≡◌ {A = Answered} c.from_residual-in_err-answer.result c.collect.result = search rules in
    let code : ◌≡◌ {A = Answered} c.from_residual-in_err-answer.result (Err c.in_err-answer.field-0.0) = search rules in (
      refused_leaves call words old a.store.now a.picture.now fit c.service-service.result held _ (refused ∙ left.0) _ code,
      fit_lent call words old a.store.now a.picture.now fit c.service-service.result held _ left.2,
    )

pub hand_out-requires : goal.hand_out-requires
hand_out-requires c =
    let fit : fields_fit current_rules c.args.words.now ≡ true = search rules in
    fit_length current_rules c.args.words.now fit

pub returns : goal.returns
returns c old =
    let a = c.args in
    let words = a.words.now in
    let call : Service → Result = λ r. collect_of current_rules r a.store.now a.job a.picture.now in
    let fit : fields_fit current_rules words ≡ true = search rules in
    let held : c.service-service.result ≡ service_of current_rules words = search rules in
    let left = c.collect.ensures in
    let answered : ◌≡◌ {A = Answered} c.hand_out.result c.collect.result = search rules in
    let written = c.hand_out.ensures in (
      handed_leaves call words old a.store.now a.picture.now fit c.service-service.result held _ (answered ∙ left.0) _ left.1 _ (rw written.value written.words_after),
      fit_lent call words old a.store.now a.picture.now fit c.service-service.result held _ left.2,
    )
