-- `job_printer`'s `line` meets its contract. Assumes nothing.
use mathlib.Core.List.{map}
use Rattle.job_printer.specs.Numerals.{numeral}
use Rattle.job_printer.specs.Fields.{line}
use Rattle.job_printer.proofs.Printing.{begun, field_fits, field_printed, fields_ended}
use Rattle.job_printer.proofs.printer.Printer.line.Goals as goal

pub loop-place-init : goal.loop-place-init
loop-place-init g c = begun (line (map (λ n. numeral (g.N.Number.value n)) c.args.numbers.now)) c.args.self.now c.requires

pub field-requires : goal.field-requires
field-requires g c =
    let l = c.loop-place in
    let i = c.index-numbers-place in
    rw (c.value.ensures, c.field_end.ensures) (field_fits g.N.Number.value c.args.numbers.now l.place l.self i.result c.loop-place-test.true i.is l.invariant)

pub loop-place-preserved : goal.loop-place-preserved
loop-place-preserved g c =
    let l = c.loop-place in
    let i = c.index-numbers-place in
    field_printed g.N.Number.value c.args.numbers.now l.place l.self i.result c.field.new.self c.loop-place-test.true i.is l.invariant (rw (c.value.ensures, c.field_end.ensures) at c.field.ensures)

pub returns : goal.returns
returns g c =
    let l = c.loop-place in
    fields_ended g.N.Number.value c.args.numbers.now l.place l.self c.loop-place-test.false l.invariant
