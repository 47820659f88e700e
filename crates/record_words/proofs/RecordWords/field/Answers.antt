-- `RecordWords::field` meets its contract: its word is within 32 bits because each word of the record fits its field. Assumes nothing.
use Rattle.machine.specs.Rules.{current_rules}
use Rattle.record_words.proofs.Laws.{fit_narrow}
use Rattle.record_words.proofs.RecordWords.field.Goals as goal

pub overflow_cast-result : goal.overflow_cast-result
overflow_cast-result c =
    let a = c.args in
    record { fits = fit_narrow current_rules a.self.now.words.now a.self.now.fit a.place a.field c.requires.0 c.requires.1 c.requires.2 }
