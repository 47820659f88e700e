-- `job_printer::divisor::divisor` meets its contract. The loop's invariant: the divisor of the two numbers at hand is that of the two
-- given. The measure is the second one, which a remainder by it is below. Assumes nothing.
use mathlib.Core.List.{[], ◌∷◌}
use Prim.Native.Nat.{ℕ}
use Rattle.job_printer.specs.Divisors.{GreatestDivisor}
use Rattle.job_printer.proofs.divisor.divisor.Given as goal

abbrev pub invariant-loop-rest : goal.invariant-loop-rest
invariant-loop-rest l =
    (g : ℕ) → GreatestDivisor (l.found ∷ l.rest ∷ []) g → GreatestDivisor (l.a ∷ l.b ∷ []) g

abbrev pub decreases-loop-rest : goal.decreases-loop-rest
decreases-loop-rest l =
    l.rest
