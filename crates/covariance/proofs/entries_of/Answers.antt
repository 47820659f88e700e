-- `covariance::entries_of` meets its contract, case by case of the shape: a Matrix is its own answer, a Round's variance is
-- at most 64 square pixels, and an Oval passes on what was tested of it. Assumes nothing.
use Rattle.std.proofs.Common.{lit≤}
use Rattle.covariance.specs.Cuts.{most_squares}
use Rattle.covariance.proofs.Sizes.{wider, round_within}
use Rattle.covariance.proofs.entries_of.Goals as goal

pub nearest_units-units-requires : goal.nearest_units-units-requires
nearest_units-units-requires c =
    wider 64 most_squares c.in-Round.variance (lit≤ tt) (round_within c.in-Round.variance (rw c.in-Round.is at c.requires.0))
