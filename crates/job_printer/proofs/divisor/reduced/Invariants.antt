-- `job_printer::divisor::reduced`'s loop: the weights passed are divided, and the others are as they were.
use mathlib.Core.Path.{◌≡◌}
use mathlib.Core.List.{◌++◌}
use lib.ListN.{take, drop}
use Rattle.job_printer.specs.Divisors.{quotients}
use Rattle.job_printer.proofs.divisor.reduced.Given as goal

abbrev pub invariant-loop-weight : goal.invariant-loop-weight
invariant-loop-weight l = l.weight-items ≡ quotients l.divisor (take l.weight-index l.initial.weight-items) ++ drop l.weight-index l.initial.weight-items
