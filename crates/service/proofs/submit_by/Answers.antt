-- `service::submit_by` meets its contract: refusal 2 is tested first, then the shape, the sizes, the kernel and the room, and an accepted job is
-- filled in with the numbers of its shape and the free number of its choice. Assumes nothing.
use mathlib.Core.Path.{refl, sym, ◌∙◌}
use Prim.Native.Nat.{◌+◌}
use lib.ListN.{length}
use borrow.Author.Rules.{rules}
use Rattle.limits.proofs.Checks.{accepted_alone, refused_alone}
use mir.Syntax.{w32}
use mir.Val.{to_z, of_z}
use Rattle.slots.proofs.Laws.{passed_on}
use Rattle.machine.specs.declared.Slot.{Slot}
use Rattle.machine.specs.Rules.{current_rules}
use Rattle.machine.specs.Calls.{empty_place}
use Rattle.covariance.specs.Answer.{entries_of}
use Rattle.service.proofs.Laws.{submit_unusable, submit_turns, kernel_alone, fill_is}
use Rattle.service.proofs.submit_by.Goals as goal

pub returns-then-not-usable : goal.returns-then-not-usable
returns-then-not-usable c =
    let a = c.args in
    rw (submit_unusable a.service.now a.store.now (search rules) a.choice a.shape a.steps a.width a.height a.pixels.now) (refl, refl, refl)

pub returns-in_err-covariance : goal.returns-in_err-covariance
returns-in_err-covariance c =
    let a = c.args in
    let turns = submit_turns a.service.now a.store.now (search rules) a.choice a.shape a.steps a.width a.height a.pixels.now in
    let shape = refused_alone _ _ _ (sym c.covariance_of.ensures ∙ c.in_err-covariance.was) in
    rw (turns, shape) (search rules, refl, refl)

pub returns-in_err-job_checks : goal.returns-in_err-job_checks
returns-in_err-job_checks c =
    let a = c.args in
    let turns = submit_turns a.service.now a.store.now (search rules) a.choice a.shape a.steps a.width a.height a.pixels.now in
    let shape = accepted_alone _ _ _ (sym c.covariance_of.ensures ∙ c.in_ok-covariance.was) in
    let sizes = sym c.job_checks.ensures ∙ c.in_err-job_checks.was in
    rw (turns, shape.0, sizes) (search rules, refl, refl)

pub returns-in_err-free : goal.returns-in_err-free
returns-in_err-free c =
    let a = c.args in
    let turns = submit_turns a.service.now a.store.now (search rules) a.choice a.shape a.steps a.width a.height a.pixels.now in
    let shape = accepted_alone _ _ _ (sym c.covariance_of.ensures ∙ c.in_ok-covariance.was) in
    let sizes = sym c.job_checks.ensures ∙ c.in_ok-job_checks.was in
    let e = entries_of a.shape in
    let kernel = sym (kernel_alone a.steps a.width a.height (length a.pixels.now) e.xx e.xy e.yy sizes) ∙ refused_alone _ _ _ (rw shape.1 at (sym c.free_by.ensures ∙ c.in_err-free.was)) in
    rw (turns, shape.0, sizes, kernel) (search rules, refl, refl)

pub returns-in_err-room_checks : goal.returns-in_err-room_checks
returns-in_err-room_checks c =
    let a = c.args in
    let turns = submit_turns a.service.now a.store.now (search rules) a.choice a.shape a.steps a.width a.height a.pixels.now in
    let shape = accepted_alone _ _ _ (sym c.covariance_of.ensures ∙ c.in_ok-covariance.was) in
    let sizes = sym c.job_checks.ensures ∙ c.in_ok-job_checks.was in
    let e = entries_of a.shape in
    let free = accepted_alone _ _ _ (rw shape.1 at (sym c.free_by.ensures ∙ c.in_ok-free.was)) in
    let kernel = sym (kernel_alone a.steps a.width a.height (length a.pixels.now) e.xx e.xy e.yy sizes) ∙ free.0 in
    let room = sym c.room_checks.ensures ∙ c.in_err-room_checks.was in
    rw (turns, shape.0, sizes, kernel, room) (search rules, refl, refl)

pub returns : goal.returns
returns c =
    let a = c.args in
    let turns = submit_turns a.service.now a.store.now (search rules) a.choice a.shape a.steps a.width a.height a.pixels.now in
    let shape = accepted_alone _ _ _ (sym c.covariance_of.ensures ∙ c.in_ok-covariance.was) in
    let sizes = sym c.job_checks.ensures ∙ c.in_ok-job_checks.was in
    let e = entries_of a.shape in
    let free = accepted_alone _ _ _ (rw shape.1 at (sym c.free_by.ensures ∙ c.in_ok-free.was)) in
    let kernel = sym (kernel_alone a.steps a.width a.height (length a.pixels.now) e.xx e.xy e.yy sizes) ∙ free.0 in
    let room = sym c.room_checks.ensures ∙ c.in_ok-room_checks.was in
    let covariance = c.in_ok-covariance.covariance in
    let slot : Slot =
    record {
      number = a.service.now.last + 1;
      xx = to_z w32 (of_z w32 covariance.xx);
      xy = to_z w32 (of_z w32 covariance.xy);
      yy = to_z w32 (of_z w32 covariance.yy);
      steps = a.steps;
      left = a.steps;
      width = a.width;
      height = a.height;
      free = c.in_ok-free.free;
    } in
    let filled = fill_is a.service.now a.store.now a.choice a.shape a.steps a.width a.height a.pixels.now slot (empty_place current_rules a.service.now) (rw (passed_on covariance.xx (search rules), passed_on covariance.xy (search rules), passed_on covariance.yy (search rules), shape.1, free.1)) in
    rw (turns, shape.0, sizes, kernel, room, ← filled) c.fill.ensures
