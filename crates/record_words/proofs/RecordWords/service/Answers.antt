-- `RecordWords::service` meets its contract: each slot is read from its words, and the last three words follow them. Assumes nothing.
use mathlib.Core.Path.{◌≡◌}
use borrow.Author.Rules.{rules}
use Rattle.machine.specs.Rules.{current_rules}
use Rattle.machine.specs.Slots.{slot_count, empty_slot}
use Rattle.record_words.specs.Words.{slot_of, slots_of, service_of}
use Rattle.record_words.proofs.Ranges.{made_entries}
use Rattle.record_words.proofs.RecordWords.service.Goals as goal

pub returns : goal.returns
unfolding service_of
returns c =
    let words = c.args.self.now.words.now in
    let slots : c.from_fn.result ≡ slots_of current_rules words = made_entries _ _ (slot_of current_rules words) empty_slot _ slot_count (λ i y q l k. search rules) c.from_fn.ensures.items in
    rw (slots, c.number.ensures, c.field.ensures, c.field-2.ensures)
