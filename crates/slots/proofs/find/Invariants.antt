-- `slots::find` meets its contract. The invariant: what the search finds from here on is what it finds in all. Assumes nothing.
use mathlib.Core.Path.{◌≡◌}
use mathlib.Core.Bool.{Bool}
use Prim.Native.Nat.{◌-◌, ◌<◌}
use Rattle.std.specs.Fn.{FnReturnsAt}
use Rattle.machine.specs.declared.Slot.{Slot}
use Rattle.machine.specs.Slots.{slot_count, first_from}
use Rattle.slots.specs.Searches.{Computes}
use Rattle.slots.proofs.find.Given as goal

abbrev pub invariant-loop : goal.invariant-loop
invariant-loop g l =
    (l.place < slot_count)
    × ((test : Slot → Bool) → Computes (FnReturnsAt g.F.Fn l.passes) test
    → first_from test l.service.slots slot_count l.start slot_count ≡ first_from test l.service.slots slot_count l.place (slot_count - l.counter))
