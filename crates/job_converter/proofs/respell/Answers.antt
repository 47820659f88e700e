-- `job_converter::respell` meets its contract: the parts of the converted text are printed one after the other, and fill the output.
-- Assumes nothing.
use mathlib.Core.Path.{ap, ◌∙◌}
use native.Mathlib.Omega.{arith}
use borrow.Author.Rules.{rules}
use lib.ListN.{length}
use Rattle.job_converter.proofs.Parts.{kept_some, ends_inside, letter_fits, middle_fits, choice_fits, rest_fits, all_printed}
use Rattle.job_converter.proofs.respell.Goals as goal

pub overflow_sub-kept : goal.overflow_sub-kept
overflow_sub-kept c = let long = ap length c.smallest.ensures in omega (arith, c.line_end-end.ensures, long, kept_some c.args.from c.args.to c.args.text.now c.args.out.now c.requires)

pub slice_bounds-bytes-count : goal.slice_bounds-bytes-count
slice_bounds-bytes-count c = let long = ap length c.smallest.ensures in omega (arith, c.line_end-end.ensures, long, kept_some c.args.from c.args.to c.args.text.now c.args.out.now c.requires)

pub slice_bounds-bytes-start : goal.slice_bounds-bytes-start
slice_bounds-bytes-start c = let long = ap length c.smallest.ensures in omega (arith, c.line_end-end.ensures, long, kept_some c.args.from c.args.to c.args.text.now c.args.out.now c.requires, ends_inside c.args.from c.args.to c.args.text.now c.args.out.now c.requires)

pub slice_bounds-bytes-end-2 : goal.slice_bounds-bytes-end-2
slice_bounds-bytes-end-2 c = let long = ap length c.smallest.ensures in omega (arith, c.line_end-end.ensures, long, ends_inside c.args.from c.args.to c.args.text.now c.args.out.now c.requires)

pub bytes-requires : goal.bytes-requires
bytes-requires c =
    let a = c.args in
    let p = c.new-printer in
    letter_fits a.from a.to a.text.now a.out.now c.requires p.result p.ensures.at_start p.ensures.out_after

pub bytes-requires-2 : goal.bytes-requires-2
bytes-requires-2 c =
    let a = c.args in
    let p = c.new-printer in
    rw (c.line_end-end.ensures, c.smallest.ensures) (middle_fits a.from a.to a.text.now a.out.now c.requires p.result p.ensures.at_start p.ensures.out_after c.bytes.new.self (rw c.letter.ensures at c.bytes.ensures))

pub bytes-requires-3 : goal.bytes-requires-3
bytes-requires-3 c =
    let a = c.args in
    let p = c.new-printer in
    rw c.smallest-2.ensures
    (choice_fits a.from a.to a.text.now a.out.now c.requires p.result p.ensures.at_start p.ensures.out_after c.bytes.new.self (rw c.letter.ensures at c.bytes.ensures) c.bytes-2.new.self
    (rw (c.line_end-end.ensures, c.smallest.ensures) at c.bytes-2.ensures))

pub slice_bounds-bytes-count-2 : goal.slice_bounds-bytes-count-2
slice_bounds-bytes-count-2 c = omega (arith, c.line_end-end.ensures, ends_inside c.args.from c.args.to c.args.text.now c.args.out.now c.requires)

pub slice_bounds-bytes-start-2 : goal.slice_bounds-bytes-start-2
slice_bounds-bytes-start-2 c = omega (arith, c.line_end-end.ensures, ends_inside c.args.from c.args.to c.args.text.now c.args.out.now c.requires)

pub bytes-requires-4 : goal.bytes-requires-4
bytes-requires-4 c =
    let a = c.args in
    let p = c.new-printer in
    rw c.line_end-end.ensures
    (rest_fits a.from a.to a.text.now a.out.now c.requires p.result p.ensures.at_start p.ensures.out_after c.bytes.new.self (rw c.letter.ensures at c.bytes.ensures) c.bytes-2.new.self
    (rw (c.line_end-end.ensures, c.smallest.ensures) at c.bytes-2.ensures) c.bytes-3.new.self (rw c.smallest-2.ensures at c.bytes-3.ensures))

pub returns : goal.returns
returns c =
    let a = c.args in
    let p = c.new-printer in
    let done = all_printed a.from a.to a.text.now a.out.now c.requires p.result p.ensures.at_start p.ensures.out_after c.bytes.new.self (rw c.letter.ensures at c.bytes.ensures) c.bytes-2.new.self
    (rw (c.line_end-end.ensures, c.smallest.ensures) at c.bytes-2.ensures) c.bytes-3.new.self (rw c.smallest-2.ensures at c.bytes-3.ensures) c.bytes-4.new.self (rw c.line_end-end.ensures at c.bytes-4.ensures) in
    let same =
    c.bytes-4.ensures.same_buffer ∙ c.bytes-3.ensures.same_buffer ∙ c.bytes-2.ensures.same_buffer ∙ c.bytes.ensures.same_buffer ∙ p.ensures.same_buffer in
    search rules
