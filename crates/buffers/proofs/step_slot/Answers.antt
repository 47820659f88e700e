-- `buffers::step_slot` meets its contract: the kernel of a filled slot is one that a step takes. Assumes nothing.
use mathlib.Core.Path.{◌≡◌}
use borrow.Author.Rules.{rules}
use Rattle.kernel.proofs.Bounds.{fits_sound}
use Rattle.machine.specs.Rules.{current_rules}
use Rattle.machine.specs.Calls.{kernel_of_slot}
use Rattle.buffers.proofs.step_slot.Goals as goal

pub step_between-requires-clause-step_kernel : goal.step_between-requires-clause-step_kernel
step_between-requires-clause-step_kernel c =
    let slot = c.args.slot.now in
    let f = c.requires.filled in
    let is : c.in-Ok.kernel ≡ kernel_of_slot current_rules slot = search rules in
    rw is (record { steps = slot.steps; sound = fits_sound slot.xx slot.xy slot.yy slot.free slot.steps f.steps f.free })
