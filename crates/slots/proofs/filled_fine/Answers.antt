-- `slots::filled_fine` meets its contract: the tests of the definition, with those of f's bounds in the place of both kernel tests. Assumes nothing.
use mathlib.Core.Path.{ap}
use mathlib.Core.Bool.{◌&&◌}
use lib.Dec.{leb}
use Rattle.limits.specs.Limits.{most_steps}
use Rattle.std.proofs.Math.Bool.{and_assoc}
use Rattle.kernel.specs.Molecule.{units_of}
use Rattle.machine.specs.Order.{filled_fine}
use Rattle.slots.proofs.Laws.{bounds_alone}
use Rattle.slots.proofs.filled_fine.Goals as goal

pub returns : goal.returns
unfolding filled_fine
returns c =
    let slot = c.args.slot.now in
    simp (c.free_fits.ensures, c.covariance.ensures, c.sides_in_range.ensures, c.fits_buffer.ensures, and_assoc)
    (ap (λ b. leb 1 slot.steps && (leb slot.steps most_steps && b)) (bounds_alone slot.xx slot.xy slot.yy slot.free (units_of slot.steps) _))
