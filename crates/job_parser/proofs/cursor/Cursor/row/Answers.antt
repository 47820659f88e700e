-- `job_parser`'s `row` meets its contract. Assumes nothing.
use mathlib.Core.Path.{◌≡◌, ◌∙◌}
use lib.ListN.{length}
use borrow.Author.Rules.{rules}
use Rattle.job_parser.specs.Reading.{nothing, read_row}
use Rattle.job_parser.proofs.Filling.{pixel_on, pixel_off, row_full}
use Rattle.job_parser.proofs.cursor.Cursor.row.Goals as goal

pub returns-in_err-pixel : goal.returns-in_err-pixel
returns-in_err-pixel c =
    let l = c.loop-place in
    let missing : read_row (length c.args.pixels.now) c.args.self.now.rest.now ≡ nothing =
    l.invariant ∙ pixel_off (length c.args.pixels.now) l.place l.pixels l.self.rest.now l.auto.pixels c.loop-place-test.true (rw c.field_end.ensures at c.in_err-pixel.ensures.value) in
    search rules

pub loop-place-preserved : goal.loop-place-preserved
loop-place-preserved c =
    let l = c.loop-place in
    l.invariant ∙ pixel_on (length c.args.pixels.now) l.place l.pixels l.self.rest.now l.auto.pixels c.in_ok-pixel.field-0 c.number.new.self.rest.now c.loop-place-test.true (rw c.field_end.ensures at c.in_ok-pixel.ensures.value)

pub returns : goal.returns
returns c =
    let l = c.loop-place in
    l.invariant ∙ row_full (length c.args.pixels.now) l.place l.pixels l.self.rest.now l.auto.pixels c.loop-place-test.false
