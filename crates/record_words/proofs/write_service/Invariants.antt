-- `record_words::write_service` meets its contract. The invariant: the slots passed are written. Assumes nothing.
use mathlib.Core.Path.{◌≡◌}
use Rattle.machine.specs.Rules.{current_rules}
use Rattle.record_words.specs.Words.{with_slots}
use Rattle.record_words.proofs.write_service.Given as goal

abbrev pub invariant-loop-place : goal.invariant-loop-place
invariant-loop-place l =
    l.words ≡ with_slots current_rules l.service l.place l.initial.words
