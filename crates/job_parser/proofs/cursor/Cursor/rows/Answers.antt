-- `job_parser`'s `rows` meets its contract. Assumes nothing.
use mathlib.Core.Path.{◌≡◌, ◌∙◌}
use native.Mathlib.Nat.{zero-mul}
use borrow.Author.Rules.{rules}
use lib.ListN.{length}
use Rattle.job_parser.specs.Reading.{nothing, read_rows}
use Rattle.job_parser.proofs.Rows.{nil_of}
use Rattle.job_parser.proofs.Filling.{no_lines, row_on, row_off, rows_full}
use Rattle.job_parser.proofs.cursor.Cursor.rows.Goals as goal

pub returns-then-width-eq0 : goal.returns-then-width-eq0
returns-then-width-eq0 c =
    let size : length c.args.pixels.now ≡ 0 = c.requires ∙ rw c.if-width-eq0.true (zero-mul c.args.height) in
    rw (c.if-width-eq0.true, nil_of c.args.pixels.now size) (no_lines c.args.height c.args.self.now.rest.now)

pub returns-in_err-row : goal.returns-in_err-row
returns-in_err-row c =
    let a = c.args in
    let l = c.loop-row in
    let missing : read_rows a.width a.height a.self.now.rest.now ≡ nothing =
    l.invariant ∙ row_off a.width a.height l.row l.pixels l.self.rest.now (l.auto.pixels ∙ c.requires) c.loop-row-test.true c.in_err-row.ensures in
    search rules

pub loop-row-preserved : goal.loop-row-preserved
loop-row-preserved c =
    let a = c.args in
    let l = c.loop-row in
    l.invariant ∙ row_on a.width a.height l.row l.pixels l.self.rest.now (l.auto.pixels ∙ c.requires) c.row.new.pixels c.row.new.self.rest.now c.loop-row-test.true c.row.auto.pixels c.in_ok-row.ensures

pub returns : goal.returns
returns c =
    let a = c.args in
    let l = c.loop-row in
    l.invariant ∙ rows_full a.width a.height l.row l.pixels l.self.rest.now (l.auto.pixels ∙ c.requires) c.loop-row-test.false
