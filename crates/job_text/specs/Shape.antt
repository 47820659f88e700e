-- The shape of a job. Definitions only.
use Rattle.covariance.specs.declared.Shape.{Shape}
use Rattle.covariance.specs.declared.Shape.TheVariants.{Matrix}
use Rattle.job_parser.specs.declared.Header.{Header}

-- "Line one: N, xx, xy, yy": a Matrix of these entries
abbrev pub shape_of : Header → Shape
shape_of h = Matrix h.covariance.xx h.covariance.xy h.covariance.yy
