-- `RecordWords::find_left` meets its contract: each slot that the search passes has no steps left. Assumes nothing.
use borrow.Author.Tests.{lt-ltb, le-ltb}
use mathlib.Core.Path.{◌≡◌, sym, ◌∙◌}
use Prim.Native.Nat.{◌+◌, ◌-◌}
use native.Mathlib.Omega.{arith}
use Rattle.machine.specs.Rules.{current_rules}
use Rattle.machine.specs.Slots.{slot_count, slot_at, has_steps_left}
use Rattle.machine.proofs.Orderly.{served_lt}
use Rattle.slots.proofs.Laws.{first_hit, first_miss, first_none}
use Rattle.record_words.specs.Words.{service_of}
use Rattle.record_words.proofs.Fields.{held_left, held_served}
use Rattle.record_words.proofs.RecordWords.find_left.Goals as goal

pub next_place-place-requires : goal.next_place-place-requires
next_place-place-requires c =
    let words = c.args.self.now.words.now in
    let served = served_lt current_rules (service_of current_rules words) c.requires in
    omega (arith, held_served words, served)

pub loop-init : goal.loop-init
loop-init c = let words = c.args.self.now.words.now in (c.next_place-place.ensures.1, rw (held_served words, c.next_place-place.ensures.0, c.field.ensures))

pub returns-then-field-gt0 : goal.returns-then-field-gt0
returns-then-field-gt0 c =
    let words = c.args.self.now.words.now in
    let here = lt-ltb 0 (slot_at (service_of current_rules words) c.loop.place).left (omega (arith, held_left words c.loop.place c.loop.invariant.0)) in
    sym (c.loop.invariant.1 ∙ first_hit has_steps_left (service_of current_rules words).slots slot_count _ _ (omega arith) here)

pub loop-preserved : goal.loop-preserved
loop-preserved c =
    let words = c.args.self.now.words.now in
    let not-here = le-ltb 0 (slot_at (service_of current_rules words) c.loop.place).left (omega (arith, held_left words c.loop.place c.loop.invariant.0)) in
    let less : slot_count - c.loop.counter - 1 ≡ slot_count - (c.loop.counter + 1) = omega arith in (
      c.next_place-place-in-loop.ensures.1,
      c.loop.invariant.1 ∙ first_miss has_steps_left (service_of current_rules words).slots slot_count _ _ (omega arith) not-here ∙ rw (less, c.next_place-place-in-loop.ensures.0),
    )

pub returns : goal.returns
returns c = sym (c.loop.invariant.1 ∙ first_none _ _ slot_count _ _ (omega arith))
