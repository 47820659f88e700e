-- `covariance::square_in_range` meets its contract: the two quotients, which are exact, are the ends of the range. Assumes nothing.
use lib.Ieee.{of_bits, div}
use Rattle.covariance.specs.Shapes.{square_in_range}
use Rattle.covariance.proofs.square_in_range.Goals as goal

pub returns : goal.returns
unfolding of_bits div square_in_range
returns c = c.in_range.ensures
