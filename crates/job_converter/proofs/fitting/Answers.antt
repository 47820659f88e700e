-- `job_converter::fitting` meets its contract: no sum is too large, since at most two bytes name a choice. Assumes nothing.
use mathlib.Core.Path.{ap}
use Prim.Native.Nat.{◌+◌}
use native.Mathlib.Omega.{arith}
use borrow.Author.Tests.{eq-eqb, ne_eqb}
use lib.ListN.{length}
use Rattle.job_converter.specs.Conversion.{smallest_bytes}
use Rattle.job_converter.proofs.Checks.{choice_short}
use Rattle.job_converter.proofs.fitting.Goals as goal

pub overflow_add-wanted : goal.overflow_add-wanted
overflow_add-wanted c = let long = ap length c.smallest.ensures in record { fits = omega (arith, c.requires.text_bound, long, choice_short c.args.to) }

pub overflow_sub-wanted : goal.overflow_sub-wanted
overflow_sub-wanted c = let long = ap length c.smallest-2.ensures in omega (arith, c.requires.le_text, long, choice_short c.args.from)

-- the output has another number of bytes than is wanted, or not
pub returns-then-size-wanted : goal.returns-then-size-wanted
returns-then-size-wanted c =
    let a = c.args in
    let to-long = ap length c.smallest.ensures in
    let from-long = ap length c.smallest-2.ensures in
    rw (ne_eqb (a.size + length (smallest_bytes a.from)) (a.text + length (smallest_bytes a.to)) (λ e. c.if-size-wanted.true (omega (arith, e, c.requires.le_text, from-long, to-long, choice_short a.from))))

pub returns : goal.returns
returns c =
    let a = c.args in
    let to-long = ap length c.smallest.ensures in
    let from-long = ap length c.smallest-2.ensures in
    rw (eq-eqb (a.size + length (smallest_bytes a.from)) (a.text + length (smallest_bytes a.to)) (omega (arith, c.if-size-wanted.false, c.requires.le_text, from-long, to-long, choice_short a.from)))
