-- `row_core::Recipe::average` meets its contract: the sum that it divides is at most the sum of the weights times 131071. Assumes nothing.
use native.Mathlib.Omega.{arith}
use Rattle.row_core.proofs.Averages.{prepared, most_weighted}
use Rattle.row_core.proofs.coefficients.Recipe.average.Goals as goal

pub divide-requires : goal.divide-requires
divide-requires c =
    let a = c.args in
    let k = a.self.coefficients in
    let d = c.requires in
    omega (arith, c.product_sum.ensures, most_weighted k (prepared k) a.columns.left a.columns.here a.columns.right d.0 d.1 d.2)
