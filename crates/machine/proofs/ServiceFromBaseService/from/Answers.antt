-- An old record in the new form has the old slots in the new form. Assumes nothing.
use mathlib.Core.Path.{◌≡◌, ap}
use native.Mathlib.Omega.{arith}
use mathlib.Core.List.{List}
use lib.ListN.{length}
use lib.IntN.{pos}
use Rattle.std.proofs.Common.{rules, tests}
use Rattle.machine.specs.declared.Slot.{Slot}
use Rattle.machine.specs.declared.BaseSlot.{BaseSlot}
use Rattle.machine.specs.Change.{slot_from_base}
use Rattle.machine.proofs.Mapped.{mapped_by}
use Rattle.machine.proofs.ServiceFromBaseService.from.Goals as goal

abbrev no_slot : BaseSlot
no_slot = record { number = 0; xx = pos 0; xy = pos 0; yy = pos 0; steps = 0; left = 0; width = 0; height = 0 }

pub returns : goal.returns
returns c =
    let old = c.args.old in
    let m = c.map.ensures.items in
    let many : length old.slots ≡ 8 = search rules in
    ap (λ (slots : List Slot). record { slots = slots; last = old.last; filled = old.filled; served = old.served })
    (mapped_by slot_from_base no_slot old.slots c.map.result (omega (arith, many, m.long))
    (λ i h. let w = m.at i no_slot (slot_from_base no_slot) (omega (arith, h, many)) in search (rules, tests)))
