-- `row_core::Coefficients::divide_to_nearest` meets its contract: its quotient is that of twice the total and the sum of the weights, which
-- is below 2^23, and times the reciprocal it gives the quotient by twice the step count, which is a pixel. Assumes nothing.
use native.Mathlib.Omega.{arith}
use Rattle.row_core.proofs.Averages.{prepared, to_nearest, nearest_pixel}
use Rattle.row_core.proofs.coefficients.Coefficients.divide_to_nearest.Goals as goal

pub overflow_cast-result-3 : goal.overflow_cast-result-3
overflow_cast-result-3 c =
    let a = c.args in
    omega (arith, nearest_pixel a.self (prepared a.self) a.total c.requires)

pub returns : goal.returns
returns c =
    let a = c.args in
    to_nearest a.self (prepared a.self) a.total c.requires
