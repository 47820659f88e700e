-- `covariance::floor` meets its contract: a float from 0 to 2 ^ 20 may be cast, and the cast drops its fraction. Assumes
-- nothing.
use Rattle.std.proofs.Common.{◌∙◌, arith, lit≤}
use Rattle.covariance.specs.Cuts.{most_halves}
use Rattle.covariance.proofs.Wholes.{castable, cast_is_below, below_le}
use Rattle.covariance.proofs.floor.Goals as goal

pub truncating_f64_to_u64-requires : goal.truncating_f64_to_u64-requires
truncating_f64_to_u64-requires c =
    let both = castable most_halves (lit≤ tt) c.args.x c.requires in
    record { lower_bound = both.0; upper_bound = both.1 }

pub returns : goal.returns
returns c =
    let x = c.args.x in
    let is = c.truncating_f64_to_u64.ensures ∙ cast_is_below most_halves (lit≤ tt) x c.requires in
    let most = below_le most_halves (lit≤ tt) x c.requires in
    (is, omega arith)
