-- `job_printer`'s `field` meets its contract: one byte after the numeral. Assumes nothing.
use mathlib.Core.List.{[], ◌∷◌, ◌++◌}
use Rattle.job_printer.specs.Numerals.{numeral}
use Rattle.job_printer.proofs.Printing.{begun, fits, fits_last, one_part, last_part}
use Rattle.job_printer.proofs.printer.Printer.field.Goals as goal

pub number-requires : goal.number-requires
number-requires c = let a = c.args in fits (numeral a.n) (a.end ∷ []) a.self.now (begun (numeral a.n ++ a.end ∷ []) a.self.now c.requires)

pub byte-requires : goal.byte-requires
byte-requires c =
    let a = c.args in
    fits_last (a.end ∷ []) c.number.new.self (one_part (numeral a.n) (a.end ∷ []) a.self.now c.number.new.self (begun (numeral a.n ++ a.end ∷ []) a.self.now c.requires) c.number.ensures)

pub returns : goal.returns
returns c =
    let a = c.args in
    last_part (a.end ∷ []) c.number.new.self c.byte.new.self (one_part (numeral a.n) (a.end ∷ []) a.self.now c.number.new.self (begun (numeral a.n ++ a.end ∷ []) a.self.now c.requires) c.number.ensures) c.byte.ensures
