-- `covariance::cosine_in_range` meets its contract: the two literals are the ends of the range. Assumes nothing.
use lib.Ieee.{of_bits, neg}
use Rattle.covariance.specs.Shapes.{cosine_in_range}
use Rattle.covariance.proofs.cosine_in_range.Goals as goal

pub returns : goal.returns
unfolding of_bits neg cosine_in_range
returns c = c.in_range.ensures
