-- `word_calls::free_count` meets its contract: words that hold no record are refused; else their record is asked. Assumes nothing.
use mathlib.Core.Path.{◌≡◌, sym, ◌∙◌}
use mathlib.Core.Bool.{true}
use borrow.Author.Rules.{rules}
use Rattle.std.specs.Prelude.{Err}
use Rattle.limits.specs.declared.ErrorCode.TheVariants.{RecordOutOfOrder}
use Rattle.machine.specs.Rules.{current_rules}
use Rattle.machine.specs.Answers.{FreeCount}
use Rattle.record_words.specs.Words.{fields_fit, service_of}
use Rattle.word_calls.proofs.Laws.{count_unfit, count_fit}
use Rattle.word_calls.proofs.free_count.Goals as goal

pub returns-in_err-new : goal.returns-in_err-new
returns-in_err-new c =
    let refused : ◌≡◌ {A = FreeCount} c.from_residual.result (Err RecordOutOfOrder) = search rules in
    refused ∙ sym (count_unfit c.args.words.now c.in_err-new.ensures.1)

pub returns : goal.returns
returns c =
    let words = c.args.words.now in
    let fit : fields_fit current_rules words ≡ true = search rules in
    let held : c.service.result ≡ service_of current_rules words = search rules in
    c.free_count.ensures ∙ sym (count_fit current_rules words fit c.service.result held)
