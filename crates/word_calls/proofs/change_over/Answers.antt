-- `word_calls::change_over` meets its contract: old words that hold no record are refused before the call; the others are widened, so that
-- they are read as this library's are, and the record is changed over and written. Assumes nothing.
use mathlib.Core.Path.{◌≡◌, sym, ◌∙◌, ap}
use mathlib.Core.Bool.{true, false}
use borrow.Author.Rules.{rules}
use Rattle.std.specs.Prelude.{Ok, Err}
use Rattle.limits.specs.Errors.{Outcome}
use Rattle.limits.specs.declared.ErrorCode.TheVariants.{RecordOutOfOrder}
use Rattle.machine.specs.declared.Service.{Service}
use Rattle.machine.specs.Rules.{base_rules, current_rules}
use Rattle.machine.specs.Change.{changed_over, change_checks, change_with}
use Rattle.record_words.specs.Words.{fields_fit, service_of, widened}
use Rattle.record_words.proofs.Widened.{widened_fits, widened_service}
use Rattle.word_calls.proofs.Change.{short_old, unfit_old, refused_old, handed_out}
use Rattle.word_calls.proofs.change_over.Goals as goal

pub returns-in_default : goal.returns-in_default
returns-in_default c =
    let old = c.args.old.now in
    let words = c.args.words.now in
    let short = refused_old old words (short_old old words c.in_default.ensures.1) in
    record { value = short.0; words_after = short.1 }

pub returns-in_err-new : goal.returns-in_err-new
returns-in_err-new c =
    let old = c.args.old.now in
    let words = c.args.words.now in
    let long = c.in-Ok.ensures.1.long in
    let unfit : fields_fit current_rules (widened old) ≡ false = search rules in
    let refused = refused_old old words (unfit_old old words (sym (widened_fits old long) ∙ unfit)) in
    let answered : ◌≡◌ {A = Outcome} c.from_residual.result (Err RecordOutOfOrder) = search rules in
    record { value = answered ∙ refused.0; words_after = refused.1 }

pub returns-in_err-changed : goal.returns-in_err-changed
returns-in_err-changed c =
    let old = c.args.old.now in
    let words = c.args.words.now in
    let long = c.in-Ok.ensures.1.long in
    let fits : fields_fit current_rules (widened old) ≡ true = search rules in
    let read : c.service.result ≡ service_of current_rules (widened old) = search rules in
    let made = c.changed_over.ensures ∙ ap (λ (r : Service). change_with (change_checks base_rules r) (changed_over r)) (read ∙ widened_service old long) in
    let handed = handed_out old words (sym (widened_fits old long) ∙ fits) (Err c.in_err-changed.field-0.0) (sym c.in_err-changed.was ∙ made) in
    let answered : ◌≡◌ {A = Outcome} c.from_residual-in_err-changed.result (Err c.in_err-changed.field-0.0) = search rules in
    record { value = answered ∙ handed.0; words_after = handed.1 }

pub returns : goal.returns
returns c =
    let old = c.args.old.now in
    let words = c.args.words.now in
    let long = c.in-Ok.ensures.1.long in
    let fits : fields_fit current_rules (widened old) ≡ true = search rules in
    let read : c.service.result ≡ service_of current_rules (widened old) = search rules in
    let made = c.changed_over.ensures ∙ ap (λ (r : Service). change_with (change_checks base_rules r) (changed_over r)) (read ∙ widened_service old long) in
    let handed = handed_out old words (sym (widened_fits old long) ∙ fits) (Ok c.in_ok-changed.changed) (sym c.in_ok-changed.was ∙ made) in
    record { value = c.try_write_service.ensures.value ∙ handed.0; words_after = c.try_write_service.ensures.words_after ∙ handed.1 }
