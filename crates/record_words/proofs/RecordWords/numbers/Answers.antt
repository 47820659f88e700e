-- `RecordWords::numbers` meets its contract: each number is read from its slot. Assumes nothing.
use mathlib.Core.Path.{◌∙◌, sym}
use borrow.Author.Rules.{rules}
use Rattle.averaging.proofs.Images.{same_entries}
use Rattle.machine.specs.Rules.{current_rules}
use Rattle.machine.specs.Slots.{slot_count}
use Rattle.slots.specs.Numbers.{number_at}
use Rattle.record_words.specs.Words.{word_at, service_of}
use Rattle.record_words.proofs.Fields.{held_number}
use Rattle.record_words.proofs.Ranges.{made_entries}
use Rattle.record_words.proofs.RecordWords.numbers.Goals as goal

pub returns : goal.returns
returns c =
    let words = c.args.self.now.words.now in
    made_entries _ _ (λ i. word_at current_rules words i 0) 0 _ slot_count (λ i y q l k. search rules) c.from_fn.ensures.items
    ∙ same_entries slot_count (λ i. word_at current_rules words i 0) (number_at (service_of current_rules words).slots) (λ i l. sym (held_number words i l))
