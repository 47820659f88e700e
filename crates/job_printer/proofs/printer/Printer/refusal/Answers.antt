-- `job_printer`'s `refusal` meets its contract: a letter and a field. Assumes nothing.
use mathlib.Core.Path.{◌≡◌}
use mathlib.Core.List.{List, [], ◌∷◌, ◌++◌}
use Prim.Native.Nat.{ℕ}
use Rattle.limits.specs.Errors.{number_of}
use Rattle.job_printer.specs.Numerals.{numeral}
use Rattle.job_printer.specs.Fields.{tab, newline, line}
use Rattle.job_printer.specs.Lines.{refusal_letter}
use borrow.Author.Rules.{rules}
use Rattle.job_printer.proofs.Printing.{begun, fits, fits_last, one_part, last_part}
use Rattle.job_printer.proofs.printer.Printer.refusal.Goals as goal

abbrev letter : List ℕ
letter = refusal_letter ∷ tab ∷ []

abbrev number : ℕ → List ℕ
number n = numeral n ++ newline ∷ []

pub bytes-requires : goal.bytes-requires
unfolding line
bytes-requires c = let n = number_of c.args.code in fits letter (number n) c.args.self.now (begun (letter ++ number n) c.args.self.now c.requires)

pub field-requires : goal.field-requires
unfolding line
field-requires c =
    let a = c.args in
    let n = number_of a.code in
    let number-is : c.from-2.result ≡ n = search rules in
    rw number-is (fits_last (number n) c.bytes.new.self (one_part letter (number n) a.self.now c.bytes.new.self (begun (letter ++ number n) a.self.now c.requires) c.bytes.ensures))

pub returns : goal.returns
unfolding line
returns c =
    let a = c.args in
    let n = number_of a.code in
    let number-is : c.from-2.result ≡ n = search rules in
    let left = one_part letter (number n) a.self.now c.bytes.new.self (begun (letter ++ number n) a.self.now c.requires) c.bytes.ensures in
    last_part (number n) c.bytes.new.self c.field.new.self left (rw number-is at c.field.ensures)
