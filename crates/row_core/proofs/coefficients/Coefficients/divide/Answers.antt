-- `row_core::Coefficients::divide` meets its contract: the first quotient is below 2^23, and times the reciprocal it gives the quotient by
-- twice the step count, which is a pixel. Assumes nothing.
use native.Mathlib.Omega.{arith}
use Rattle.row_core.proofs.Averages.{prepared, exact, pixel}
use Rattle.row_core.proofs.coefficients.Coefficients.divide.Goals as goal

pub overflow_cast-result-3 : goal.overflow_cast-result-3
overflow_cast-result-3 c =
    let a = c.args in
    omega (arith, pixel a.self (prepared a.self) a.total c.requires)

pub returns : goal.returns
returns c =
    let a = c.args in
    exact a.self (prepared a.self) a.total c.requires
