-- `row_core::Recipe::average_of_pixels` meets its contract: the sum that it divides is at most the sum of the weights times 65535. Assumes
-- nothing.
use native.Mathlib.Omega.{arith}
use Rattle.row_core.proofs.Averages.{prepared, most_pixels_lem}
use Rattle.row_core.proofs.coefficients.Recipe.average_of_pixels.Goals as goal

pub divide_to_nearest-requires : goal.divide_to_nearest-requires
divide_to_nearest-requires c =
    let a = c.args in
    let k = a.self.coefficients in
    let d = c.requires in
    omega (arith, c.product_sum.ensures, most_pixels_lem k (prepared k) a.columns.left a.columns.here a.columns.right d.0 d.1 d.2)
