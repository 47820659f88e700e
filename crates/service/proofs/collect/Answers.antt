-- `service::collect` meets its contract: the slot of a held job is a filled one. Assumes nothing.
use borrow.Author.Rules.{rules}
use Rattle.service.proofs.Laws.{usable_parts, job_slot}
use Rattle.service.proofs.collect.Goals as goal

pub hand_over-requires : goal.hand_over-requires
hand_over-requires c =
    let a = c.args in
    let w = usable_parts a.service.now a.store.now (search rules) in
    let f = job_slot a.service.now a.number c.in_ok-place.place w.0 (search rules) in
    record { store_long = w.1; place_in_bounds = search rules; fits = f.fits; left_le_steps = f.left }
