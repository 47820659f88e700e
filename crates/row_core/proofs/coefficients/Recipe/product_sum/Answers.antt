-- `row_core::Recipe::product_sum` meets its contract: its products are the nine of the definition. Assumes nothing.
use Rattle.row_core.proofs.Averages.{by_products}
use Rattle.row_core.proofs.coefficients.Recipe.product_sum.Goals as goal

pub returns : goal.returns
returns c =
    let recipe = c.args.self in
    let a = c.args in
    rw (c.corner_sum-corners.ensures.value, c.side_sum-sides.ensures.value, c.weigh-centre.ensures.0)
    (by_products recipe.coefficients.weights recipe.products recipe.products_of a.columns.left a.columns.here a.columns.right)
