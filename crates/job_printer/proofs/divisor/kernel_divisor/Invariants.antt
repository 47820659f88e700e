-- `job_printer::divisor::kernel_divisor`'s loop: what was found is the divisor of the sum and the weights passed.
use mathlib.Core.List.{◌∷◌}
use lib.ListN.{take}
use Rattle.job_printer.specs.Divisors.{GreatestDivisor}
use Rattle.job_printer.proofs.divisor.kernel_divisor.Given as goal

abbrev pub invariant-loop-weight : goal.invariant-loop-weight
invariant-loop-weight l = GreatestDivisor (l.initial.found ∷ take l.weight-index l.weight-items) l.found
