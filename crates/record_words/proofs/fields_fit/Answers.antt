-- `record_words::fields_fit` meets its contract: the slots are tested one after the other, and the length before them. Assumes nothing.
use mathlib.Core.Path.{◌≡◌, refl, ◌∙◌}
use borrow.Author.Rules.{rules}
use borrow.Author.Tests.{tests, eq-eqb, ne_eqb}
use Rattle.std.proofs.lemmas.Iterator.{YieldsList-from_range}
use Rattle.std.proofs.lemmas.Iterator.Search.{all_from_yields_List}
use Rattle.machine.specs.Slots.{slot_count, every_place}
use Rattle.record_words.specs.Words.{fields_fit, slot_fits}
use Rattle.record_words.proofs.Laws.{fit_slots, fit_all}
use Rattle.record_words.proofs.Ranges.{every_range}
use Rattle.record_words.proofs.fields_fit.Goals as goal

pub returns-then-words-ne-WORDS : goal.returns-then-words-ne-WORDS
unfolding fields_fit
returns-then-words-ne-WORDS c = rw (ne_eqb _ _ c.if-words-ne-WORDS.true)

pub returns : goal.returns
unfolding fields_fit
returns c =
    let words = c.args.words.now in
    let slots : c.all-slots_fit.result ≡ every_place (slot_fits words) slot_count =
    all_from_yields_List (slot_fits words) _ _ c.all-slots_fit.result c.all-slots_fit.ensures.ran (YieldsList-from_range 0 slot_count slot_count refl refl) (λ x b q k. search (rules, tests))
    ∙ every_range (slot_fits words) slot_count in
    rw (slots, c.narrow.ensures, c.narrow-2.ensures, eq-eqb _ _ c.if-words-ne-WORDS.false, fit_all words, fit_slots words slot_count)
