-- `slots::filled_count` meets its contract. Assumes nothing.
use mathlib.Core.Bool.{not}
use Rattle.std.proofs.Common.{rules, tests}
use Rattle.std.proofs.lemmas.Iterator.{YieldsList-from_slice}
use Rattle.std.proofs.lemmas.Iterator.Consumers.{count_from_yields_List, YieldsList-from_filter}
use Rattle.machine.specs.Slots.{slot_count, is_empty}
use lib.ListN.{length}
use native.Mathlib.Omega.{arith}
use mathlib.Core.Path.{◌≡◌, refl, sym, ◌∙◌}
use Rattle.std.proofs.lemmas.List.{take_all}
use Rattle.slots.proofs.Laws.{counted}
use Rattle.std.proofs.lemmas.List.Sums.{length-filter}
use Rattle.slots.proofs.filled_count.Goals as goal

pub returns-clause-value : goal.returns-clause-value
returns-clause-value c =
    let e = count_from_yields_List c.filter.result c.count.result c.count.ensures.ran (YieldsList-from_filter _ (λ slot. not (is_empty slot)) (YieldsList-from_slice c.args.service.now.slots cc) c.filter.ensures.closure (λ x b q k. search (rules, tests))) in
    let n : length c.args.service.now.slots ≡ slot_count = omega arith in
    e ∙ length-filter (λ slot. not (is_empty slot)) c.args.service.now.slots
    ∙ sym (counted (λ slot. not (is_empty slot)) c.args.service.now.slots slot_count (omega arith) ∙ rw (take_all slot_count c.args.service.now.slots (omega arith)) refl)
