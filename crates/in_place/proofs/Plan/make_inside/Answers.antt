-- `in_place::Plan::make_inside` meets its contract: it makes the stretch between the first and the last pixel, and in fewer than three pixels
-- nothing stands between the ends of a row. Assumes nothing.
use native.Mathlib.Omega.{arith}
use Rattle.row_core.specs.Prepared.{kernel_of_coefficients}
use Rattle.in_place.proofs.Bands.{inside_made}
use Rattle.in_place.proofs.Plan.make_inside.Goals as goal

pub returns-then-size-gt2 : goal.returns-then-size-gt2
returns-then-size-gt2 c w j x row low high =
    let a = c.args in
    inside_made (kernel_of_coefficients a.self.now.coefficients) w a.size a.source.now a.line.now a.starts (omega arith) c.requires.1 c.stretch.ensures j x row low high
