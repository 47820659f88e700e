-- `RecordWords::find_left` meets its contract. The invariant: what the search finds from here on is what it finds in all. Assumes nothing.
use mathlib.Core.Path.{◌≡◌}
use Prim.Native.Nat.{◌-◌, ◌<◌}
use Rattle.machine.specs.Rules.{current_rules}
use Rattle.machine.specs.Slots.{slot_count, has_steps_left, first_from}
use Rattle.machine.specs.Calls.{served_place}
use Rattle.record_words.specs.Words.{service_of}
use Rattle.record_words.proofs.RecordWords.find_left.Given as goal

abbrev pub invariant-loop : goal.invariant-loop
invariant-loop l =
    (l.place < slot_count) × (served_place current_rules (service_of current_rules l.self.words.now) ≡ first_from has_steps_left (service_of current_rules l.self.words.now).slots slot_count l.place (slot_count - l.counter))
