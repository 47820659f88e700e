-- `job_printer::divisor::reduced` meets its contract: the greatest common divisor is not 0, since it divides the sum. Assumes nothing.
use mathlib.Core.Path.{◌≡◌, sym, ap, ◌∙◌}
use mathlib.Core.List.{◌∷◌, append-nil}
use Prim.Native.Nat.{◌/◌, ◌<◌}
use native.Mathlib.Nat.{pos_of_dvd_of_pos}
use native.Mathlib.Omega.{arith}
use borrow.Author.Rules.{rules}
use lib.ListN.{length, get_or}
use lib.Seq.{take_all}
use Rattle.std.proofs.lemmas.List.{drop_all}
use Rattle.std.proofs.lemmas.List.Edits.{map_over_more}
use Rattle.job_printer.specs.Divisors.{common_divisor, quotients}
use Rattle.job_printer.proofs.Divisors.{common_greatest, unique}
use Rattle.job_printer.proofs.divisor.reduced.Goals as goal

pub nonzero_div-weight : goal.nonzero_div-weight
nonzero_div-weight c = pos_of_dvd_of_pos c.kernel_divisor-divisor.ensures.divides.0 c.requires

pub loop-weight-preserved : goal.loop-weight-preserved
loop-weight-preserved c =
    let l = c.loop-weight in
    let inside : l.weight-index < length c.args.kernel.weights = omega arith in
    map_over_more (λ n. n / c.kernel_divisor-divisor.result) c.args.kernel.weights l.weight-items l.weight-index (get_or l.weight-items l.weight-index 0) inside l.invariant (search rules)

pub nonzero_div-result : goal.nonzero_div-result
nonzero_div-result c = pos_of_dvd_of_pos c.kernel_divisor-divisor.ensures.divides.0 c.requires

pub returns : goal.returns
returns c =
    let kernel = c.args.kernel in
    let l = c.loop-weight in
    let d = c.kernel_divisor-divisor in
    let same : common_divisor (kernel.sum ∷ kernel.weights) ≡ d.result = unique (kernel.sum ∷ kernel.weights) (common_divisor (kernel.sum ∷ kernel.weights)) d.result (common_greatest (kernel.sum ∷ kernel.weights)) d.ensures in
    let gone = drop_all l.weight-index kernel.weights (omega arith) in
    let all : l.weight-items ≡ quotients d.result kernel.weights = l.invariant ∙ rw (take_all l.weight-index kernel.weights (omega arith), gone, append-nil) in
    ap (λ ws. kernel.sum / d.result ∷ ws) all ∙ ap (λ g. quotients g (kernel.sum ∷ kernel.weights)) (sym same)
