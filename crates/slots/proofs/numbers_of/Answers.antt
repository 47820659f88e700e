-- `slots::numbers_of` meets its contract: the entry at each place is the number of the slot there. Assumes nothing.
use mathlib.Core.Path.{◌∙◌}
use lib.ListN.{get_or}
use Rattle.averaging.proofs.Images.{own_entries, same_entries}
use Rattle.machine.specs.Slots.{slot_count, empty_slot}
use Rattle.std.proofs.Common.{rules, tests}
use Rattle.slots.specs.Numbers.{number_at}
use Rattle.slots.proofs.numbers_of.Goals as goal

pub returns : goal.returns
returns c =
    let m = c.map.ensures.items in
    own_entries slot_count 0 c.map.result m.long ∙ same_entries slot_count (λ i. get_or c.map.result i 0) (number_at c.args.service.now.slots) (λ i h. let w = m.at i empty_slot 0 h in search (rules, tests))
