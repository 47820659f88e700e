-- `record_words::widen` meets its contract. The invariant: the slots passed are widened. Assumes nothing.
use mathlib.Core.Path.{◌≡◌}
use lib.ListN.{replicate}
use Rattle.machine.specs.Rules.{current_rules}
use Rattle.record_words.specs.Words.{word_count, widened_slots}
use Rattle.record_words.proofs.widen.Given as goal

abbrev pub invariant-loop-place : goal.invariant-loop-place
invariant-loop-place l =
    l.words ≡ widened_slots l.old l.place (replicate (word_count current_rules) 0)
