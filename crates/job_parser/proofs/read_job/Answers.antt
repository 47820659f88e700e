-- `job_parser::read_job` meets its contract: where a part of the text is missing, or something follows, it is no job.
-- Assumes nothing.
use mathlib.Core.Path.{◌≡◌, sym, ◌∙◌}
use mathlib.Core.List.{◌++◌}
use native.Mathlib.Omega.{arith}
use borrow.Author.Tests.{eqb-true, eqb-false}
use lib.ListN.{length, drop}
use Rattle.job_parser.proofs.Jobs.{filled, too_long, without_header, too_large, without_rows, ended, followed}
use Rattle.job_parser.proofs.read_job.Goals as goal

pub returns-then-longest-text : goal.returns-then-longest-text
returns-then-longest-text c =
    let a = c.args in
    let it = too_long a.format a.text.now a.pixels.now a.pixels.now (rw c.longest.ensures at c.if-longest-text.true) in
    record { value = it.value; pixels_after = it.pixels_after }

pub returns-in_err-header : goal.returns-in_err-header
returns-in_err-header c =
    let a = c.args in
    let it = without_header a.format a.text.now a.pixels.now a.pixels.now (rw c.longest.ensures at c.if-longest-text.false) c.in_err-header.ensures in
    rw c.from_residual.ensures (record { value = it.value; pixels_after = it.pixels_after })

pub returns-then-size-gt-MOST_PIXELS : goal.returns-then-size-gt-MOST_PIXELS
returns-then-size-gt-MOST_PIXELS c =
    let a = c.args in
    let h = c.in_ok-header in
    let it = too_large a.format a.text.now a.pixels.now a.pixels.now (rw c.longest.ensures at c.if-longest-text.false) h.header c.header.new.self.rest.now h.ensures (rw c.area-size.ensures at c.if-size-gt-MOST_PIXELS.true) in
    record { value = it.value; pixels_after = it.pixels_after }

pub returns-in_err-rows : goal.returns-in_err-rows
returns-in_err-rows c =
    let a = c.args in
    let h = c.in_ok-header in
    let it = without_rows a.format a.text.now a.pixels.now (c.rows.new.pixels ++ drop c.area-size.result a.pixels.now) (rw c.longest.ensures at c.if-longest-text.false) h.header c.header.new.self.rest.now h.ensures c.in_err-rows.ensures in
    rw c.from_residual-in_err-rows.ensures (record { value = it.value; pixels_after = it.pixels_after })

pub returns-then-is_empty : goal.returns-then-is_empty
returns-then-is_empty c =
    let a = c.args in
    let h = c.in_ok-header in
    let stored = filled a.pixels.now c.rows.new.pixels c.area-size.result (omega arith) c.rows.auto.pixels in
    let nothing_more : length c.rows.new.self.rest.now ≡ 0 = eqb-true _ 0 (sym c.is_empty.ensures ∙ c.if-is_empty.true) in
    let it = ended a.format a.text.now a.pixels.now (c.rows.new.pixels ++ drop c.area-size.result a.pixels.now) (rw c.longest.ensures at c.if-longest-text.false) h.header c.header.new.self.rest.now h.ensures c.rows.new.pixels c.rows.new.self.rest.now c.in_ok-rows.ensures nothing_more stored in
    record { value = it.value; pixels_after = it.pixels_after }

pub returns-else-is_empty : goal.returns-else-is_empty
returns-else-is_empty c =
    let a = c.args in
    let h = c.in_ok-header in
    let more : length c.rows.new.self.rest.now ≡ 0 → ⊥ = eqb-false _ 0 (sym c.is_empty.ensures ∙ c.if-is_empty.false) in
    let it = followed a.format a.text.now a.pixels.now (c.rows.new.pixels ++ drop c.area-size.result a.pixels.now) (rw c.longest.ensures at c.if-longest-text.false) h.header c.header.new.self.rest.now h.ensures c.rows.new.pixels c.rows.new.self.rest.now c.in_ok-rows.ensures more in
    record { value = it.value; pixels_after = it.pixels_after }
