-- `RecordWords::in_order` meets its contract: every slot is tested after the slots before it. Assumes nothing.
use mathlib.Core.Path.{◌≡◌, refl, sym, ◌∙◌}
use mathlib.Core.Bool.{Bool}
use Prim.Native.Nat.{ℕ, ◌<◌}
use borrow.Author.Rules.{rules}
use borrow.Author.Tests.{tests}
use lib.ListN.{length, take}
use native.Mathlib.Omega.{arith}
use Rattle.std.proofs.Math.Bool.{and_assoc}
use Rattle.std.proofs.lemmas.Iterator.{YieldsList-from_range}
use Rattle.std.proofs.lemmas.Iterator.Search.{all_from_yields_List}
use Rattle.machine.specs.Rules.{current_rules}
use Rattle.machine.specs.Slots.{slot_count, slot_at, every_place}
use Rattle.machine.specs.Order.{in_order}
use Rattle.slots.specs.Numbers.{numbers_of, slot_fine_after}
use Rattle.machine.proofs.Counts.{every_same}
use Rattle.slots.proofs.Apart.{after_fine, fine_after_taken}
use Rattle.record_words.specs.Words.{service_of, slot_of}
use Rattle.record_words.proofs.Fields.{held_slot, held_last, held_filled, held_served}
use Rattle.record_words.proofs.Ranges.{every_range}
use Rattle.record_words.proofs.RecordWords.in_order.Goals as goal

pub returns : goal.returns
unfolding in_order
returns c =
    let words = c.args.self.now.words.now in
    let service = service_of current_rules words in
    let numbers = c.numbers-numbers.result in
    let fine : ℕ → Bool = λ i. slot_fine_after current_rules c.number-last.result (take i numbers) (length (take i numbers)) (slot_of current_rules words i) in
    let after : ℕ → Bool = λ i. slot_fine_after current_rules service.last (numbers_of slot_count service.slots) i (slot_at service i) in
    let same : (i : ℕ) → i < slot_count → fine i ≡ after i =
    λ i l. rw (fine_after_taken current_rules c.number-last.result numbers i (slot_of current_rules words i) (omega arith), c.number-last.ensures, c.numbers-numbers.ensures, held_last words, held_slot words i l) in
    let orderly : c.all-orderly.result ≡ every_place after slot_count =
    all_from_yields_List fine _ _ c.all-orderly.result c.all-orderly.ensures.ran (YieldsList-from_range 0 slot_count slot_count refl refl) (λ x b q k. search (rules, tests))
    ∙ every_range fine slot_count
    ∙ every_same fine after slot_count (λ f i l. sym (same i l) ∙ f i l) (λ f i l. same i l ∙ f i l) in
    rw (orderly, after_fine current_rules service, c.field-filled.ensures, c.field-served.ensures, held_filled words, held_served words, and_assoc)
