-- `job_text::answer` meets its contract: a buffer with room for every answer gets this one at its start. Assumes nothing.
use mathlib.Core.Path.{◌∙◌}
use native.Mathlib.Nat.{le_trans, zero-add}
use borrow.Author.Rules.{rules}
use Rattle.job_text.proofs.Bounds.{answer_short}
use Rattle.job_text.proofs.Answering.{no_room, room}
use Rattle.job_text.proofs.answer.Goals as goal

pub returns-then-out-lt-MOST_BYTES : goal.returns-then-out-lt-MOST_BYTES
returns-then-out-lt-MOST_BYTES c =
    let none = no_room c.args.text.now c.args.out.now c.if-out-lt-MOST_BYTES.true in
    record { value = none.0; out_after = none.1 }

pub print_answer-requires-clause-room : goal.print_answer-requires-clause-room
print_answer-requires-clause-room c =
    let p = c.new-printer in
    rw (p.ensures.at_start, p.ensures.out_after, zero-add) (le_trans (answer_short c.args.text.now) c.if-out-lt-MOST_BYTES.false)

pub returns : goal.returns
returns c =
    let p = c.new-printer in
    let put = c.print_answer in
    let some = room c.args.text.now c.args.out.now p.result put.new.printer p.ensures.at_start p.ensures.out_after c.if-out-lt-MOST_BYTES.false put.ensures in
    let same = put.ensures.same_buffer ∙ p.ensures.same_buffer in
    record { value = rw c.printed.ensures some.0; out_after = let left = some.1 in search rules }
