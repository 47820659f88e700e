-- `job_printer`'s `kernel` meets its contract: a letter, and ten numbers in lowest terms. Assumes nothing.
use mathlib.Core.Path.{◌≡◌, sym, ap, ◌∙◌}
use mathlib.Core.List.{List, [], ◌∷◌, ◌++◌, append_assoc, map}
use Prim.Native.Nat.{ℕ}
use lib.ListN.{length, length-map}
use Rattle.kernel.specs.declared.Kernel.{Kernel}
use Rattle.job_printer.specs.Numerals.{numeral}
use Rattle.job_printer.specs.Fields.{tab, separator, line}
use Rattle.job_printer.specs.Divisors.{reduced}
use Rattle.job_printer.specs.Lines.{kernel_letter, kernel_text}
use Rattle.job_printer.specs.Buffers.{HasRoom, Printed}
use Rattle.job_printer.specs.declared.printer.Printer.{Printer}
use Rattle.job_printer.proofs.Printing.{Printing, begun_as, fits, fits_last, one_part, last_part}
use borrow.Author.Rules.{rules}
use Rattle.job_printer.proofs.printer.Printer.kernel.Goals as goal

abbrev letter : List ℕ
letter = kernel_letter ∷ tab ∷ []

abbrev sum_of : Kernel → List ℕ
sum_of kernel = numeral kernel.sum ++ tab ∷ []

abbrev weights_of : Kernel → List ℕ
weights_of kernel = line (map numeral kernel.weights)

nine_follow : (n : ℕ) → n ≡ 9 → separator n ≡ tab
nine_follow n e = rw e

-- what is still to be printed: of the kernel, the numbers in lowest terms
module _ (kernel small : Kernel) (lowest : small.sum ∷ small.weights ≡ reduced (kernel.sum ∷ kernel.weights)) (nine : length small.weights ≡ 9) (start : Printer) (room : HasRoom start (kernel_text kernel)) where
  abbrev Left : List ℕ → Printer → Type 0
  Left rest now = Printing (kernel_text kernel) start rest now

  parts : kernel_text kernel ≡ letter ++ (sum_of small ++ weights_of small)
  unfolding line
  parts =
      let count : length (map numeral small.weights) ≡ 9 = length-map small.weights numeral ∙ nine in
      ap (λ ns. line ((kernel_letter ∷ []) ∷ map numeral ns)) (sym lowest) ∙ rw (nine_follow (length (map numeral small.weights)) count, append_assoc)

  all : Left (letter ++ (sum_of small ++ weights_of small)) start
  all = begun_as (kernel_text kernel) (letter ++ (sum_of small ++ weights_of small)) start parts room

  module _ (one : Printer) (printed : Printed start letter one) where
    after_letter : Left (sum_of small ++ weights_of small) one
    after_letter = one_part letter (sum_of small ++ weights_of small) start one all printed

    after_sum : (two : Printer) → Printed one (sum_of small) two → Left (weights_of small) two
    after_sum two more = one_part (sum_of small) (weights_of small) one two after_letter more

pub bytes-requires : goal.bytes-requires
bytes-requires c =
    let a = c.args in
    let small = c.reduced-kernel.result in
    fits letter (sum_of small ++ weights_of small) a.self.now (all a.kernel small c.reduced-kernel.ensures (search rules) a.self.now c.requires.room)

pub field-requires : goal.field-requires
field-requires c =
    let a = c.args in
    let small = c.reduced-kernel.result in
    fits (sum_of small) (weights_of small) c.bytes.new.self (after_letter a.kernel small c.reduced-kernel.ensures (search rules) a.self.now c.requires.room c.bytes.new.self c.bytes.ensures)

pub line-requires : goal.line-requires
line-requires c =
    let a = c.args in
    let small = c.reduced-kernel.result in
    fits_last (weights_of small) c.field.new.self (after_sum a.kernel small c.reduced-kernel.ensures (search rules) a.self.now c.requires.room c.bytes.new.self c.bytes.ensures c.field.new.self c.field.ensures)

pub returns : goal.returns
returns c =
    let a = c.args in
    let small = c.reduced-kernel.result in
    let left = after_sum a.kernel small c.reduced-kernel.ensures (search rules) a.self.now c.requires.room c.bytes.new.self c.bytes.ensures c.field.new.self c.field.ensures in
    last_part (weights_of small) c.field.new.self c.line.new.self left c.line.ensures
