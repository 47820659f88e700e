-- `job_printer`'s `rows` meets its contract. Assumes nothing.
use Rattle.job_printer.proofs.Printing.{rows_begun, row_fits, row_printed, rows_ended}
use Rattle.job_printer.proofs.printer.Printer.rows.Goals as goal

pub loop-row-init : goal.loop-row-init
loop-row-init c = let a = c.args in rows_begun a.pixels.now a.width a.height a.self.now c.requires.room

pub line-requires : goal.line-requires
line-requires c =
    let a = c.args in
    let l = c.loop-row in
    row_fits a.pixels.now a.width a.height l.row l.self c.loop-row-test.true l.invariant

pub loop-row-preserved : goal.loop-row-preserved
loop-row-preserved c =
    let a = c.args in
    let l = c.loop-row in
    row_printed a.pixels.now a.width a.height l.row l.self c.line.new.self c.loop-row-test.true l.invariant c.line.ensures

pub returns : goal.returns
returns c =
    let a = c.args in
    let l = c.loop-row in
    rows_ended a.pixels.now a.width a.height l.row l.self c.loop-row-test.false l.invariant
