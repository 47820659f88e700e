-- `service::all_given` meets its contract: it makes each slot anew and keeps the three last fields. Assumes nothing.
use mathlib.Core.Path.{◌≡◌, ap}
use native.Mathlib.Omega.{arith}
use mathlib.Core.List.{List}
use lib.ListN.{length}
use Rattle.std.proofs.Common.{rules, tests}
use Rattle.machine.specs.declared.Slot.{Slot}
use Rattle.machine.specs.Slots.{slot_count, empty_slot}
use Rattle.machine.proofs.Mapped.{mapped_by}
use Rattle.service.specs.Given.{slot_given}
use Rattle.service.proofs.all_given.Goals as goal

pub returns : goal.returns
returns c =
    let r = c.args.service in
    let m = c.map.ensures.items in
    let many : length r.slots ≡ slot_count = search rules in
    ap (λ (slots : List Slot). record { slots = slots; last = r.last; filled = r.filled; served = r.served })
    (mapped_by slot_given empty_slot r.slots c.map.result (omega (arith, many, m.long))
    (λ i h. let w = m.at i empty_slot empty_slot (omega (arith, h, many)) in search (rules, tests)))
