-- `slots::in_order` meets its contract. The invariant: every slot passed is fine after the slots before it. Assumes nothing.
use mathlib.Core.Path.{◌≡◌}
use Rattle.machine.specs.Rules.{current_rules}
use Rattle.machine.specs.Slots.{slot_at, every_place}
use Rattle.slots.specs.Numbers.{slot_fine_after}
use Rattle.slots.proofs.in_order.Given as goal

abbrev pub invariant-loop-place : goal.invariant-loop-place
invariant-loop-place l =
    l.fine ≡ every_place (λ k. slot_fine_after current_rules l.service.last l.numbers k (slot_at l.service k)) l.place
