-- `job_printer::divisor::kernel_divisor` meets its contract. Assumes nothing.
use mathlib.Core.List.{◌∷◌}
use Prim.Native.Nat.{◌<◌}
use native.Mathlib.Omega.{arith}
use lib.ListN.{length, take, get_or}
use Rattle.std.proofs.lemmas.List.{take_more}
use Rattle.job_printer.proofs.Divisors.{with_next}
use Rattle.job_printer.proofs.divisor.kernel_divisor.Goals as goal

pub loop-weight-preserved : goal.loop-weight-preserved
loop-weight-preserved c =
    let l = c.loop-weight in
    let kernel = c.args.kernel in
    let inside : l.weight-index < length kernel.weights = omega arith in
    rw (take_more kernel.weights l.weight-index 0 inside) (with_next (kernel.sum ∷ take l.weight-index kernel.weights) (get_or kernel.weights l.weight-index 0) l.found c.divisor-found.result l.invariant c.divisor-found.ensures)
