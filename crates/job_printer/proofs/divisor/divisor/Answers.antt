-- `job_printer::divisor::divisor` meets its contract. The loop's invariant: the divisor of the two numbers at hand is that of the two
-- given. The measure is the second one, which a remainder by it is below. Assumes nothing.
use mathlib.Core.Path.{◌≡◌}
use native.Mathlib.Omega.{arith}
use Rattle.job_printer.proofs.Divisors.{with_zero, with_remainder}
use Rattle.job_printer.proofs.divisor.divisor.Goals as goal

pub loop-rest-preserved : goal.loop-rest-preserved
loop-rest-preserved c = let l = c.loop-rest in λ g h. l.invariant g (with_remainder l.found l.rest g h)

pub returns : goal.returns
returns c =
    let l = c.loop-rest in
    let gone : l.rest ≡ 0 = omega arith in
    l.invariant l.found (rw gone (with_zero l.found))
