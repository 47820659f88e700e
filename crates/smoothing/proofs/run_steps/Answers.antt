-- `smoothing::run_steps` meets its contract. The loop's invariant: after n turns the first picture holds step 2n, and the second
-- step 2n − 1, but for n = 0, where it holds what it held; both keep their lengths. The measure is what is left of the turns.
-- After the last turn an even number of steps is done, and an odd one wants one step more, from the first to the second.
-- Assumes nothing.
use mathlib.Core.Path.{refl}
use Prim.Native.Nat.{◌+◌, ◌*◌}
use native.Mathlib.Omega.{arith}
use Rattle.averaging.specs.Steps.{iterate}
use Rattle.smoothing.proofs.Steps.{as_many, one_more, odd}
use borrow.Author.Rules.{rules}
use Rattle.smoothing.proofs.run_steps.Goals as goal

pub loop-init : goal.loop-init
unfolding iterate
loop-init c = record { within = omega arith; filled = search rules; first_after = refl; second_after = λ l. absurd (omega arith) }

pub loop-preserved : goal.loop-preserved
loop-preserved c =
    let a = c.args in
    let l = c.loop in
    let turn = c.there_and_back in
    let n = 2 * l.counter in
    let there = one_more a.kernel a.width a.height a.first.now n {n = n + 1} refl turn.ensures.second_after l.invariant.first_after in
    record {
      within = omega arith;
      filled = search rules;
      first_after = one_more a.kernel a.width a.height a.first.now (n + 1) (omega arith) turn.ensures.first_after there;
      second_after = λ _. as_many a.kernel a.width a.height a.first.now (n + 1) (omega arith) there;
    }

pub returns-then-steps-eq1-clause-second_after : goal.returns-then-steps-eq1-clause-second_after
returns-then-steps-eq1-clause-second_after c =
    let a = c.args in
    let l = c.loop in
    rw (odd a.steps (omega arith)) (one_more a.kernel a.width a.height a.first.now (2 * l.counter) (omega arith) c.step.ensures l.invariant.first_after)
