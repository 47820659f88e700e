-- `slots::find` meets its contract. Assumes nothing.
use native.Mathlib.Omega.{arith}
use mathlib.Core.Path.{◌≡◌, refl, sym, ◌∙◌}
use Prim.Native.Nat.{◌+◌, ◌-◌}
use borrow.Author.Rules.{rules}
use Rattle.machine.specs.Slots.{slot_count}
use Rattle.slots.proofs.Laws.{first_hit, first_miss, first_none}
use Rattle.slots.proofs.find.Goals as goal

pub returns-then-passes-clause-value : goal.returns-then-passes-clause-value
returns-then-passes-clause-value g c = λ test t.
    sym (c.loop.invariant.1 test t ∙ first_hit test c.args.service.now.slots slot_count _ _ (omega arith) (sym (t _ _ (search rules)) ∙ c.if-passes.true))

pub loop-preserved : goal.loop-preserved
loop-preserved g c = (
  c.next_place-place.ensures.1,
  λ test t. let rest : slot_count - c.loop.counter - 1 ≡ slot_count - (c.loop.counter + 1) = omega arith in c.loop.invariant.1 test t ∙ first_miss test c.args.service.now.slots slot_count _ _ (omega arith) (sym (t _ _ (search rules)) ∙ c.if-passes.false) ∙ rw (c.next_place-place.ensures.0, rest) refl,
)

pub returns-clause-value : goal.returns-clause-value
returns-clause-value g c = λ test t. sym (c.loop.invariant.1 test t ∙ first_none test c.args.service.now.slots slot_count _ _ (omega arith))
