-- `job_printer`'s `picture` meets its contract: a letter, two fields and the lines, one after the other. Assumes nothing.
use mathlib.Core.Path.{◌≡◌}
use mathlib.Core.List.{List, [], ◌∷◌, ◌++◌, append_assoc}
use Prim.Native.Nat.{ℕ}
use Rattle.job_printer.specs.Numerals.{numeral}
use Rattle.job_printer.specs.Fields.{tab, newline, line, row_lines}
use Rattle.job_printer.specs.Lines.{picture_letter, picture_text}
use Rattle.job_printer.specs.Buffers.{HasRoom, Printed}
use Rattle.job_printer.specs.declared.printer.Printer.{Printer}
use Rattle.job_printer.proofs.Printing.{Printing, begun_as, fits, fits_last, one_part, last_part}
use Rattle.job_printer.proofs.printer.Printer.picture.Goals as goal

abbrev letter : List ℕ
letter = picture_letter ∷ tab ∷ []

abbrev side : ℕ → ℕ → List ℕ
side n end = numeral n ++ end ∷ []

-- what is still to be printed
module _ (w h : ℕ) (pixels : List ℕ) (start : Printer) (room : HasRoom start (picture_text w h pixels)) where
  abbrev Left : List ℕ → Printer → Type 0
  Left rest now = Printing (picture_text w h pixels) start rest now

  parts : picture_text w h pixels ≡ letter ++ (side w tab ++ (side h newline ++ row_lines w h pixels))
  unfolding line
  parts = simp append_assoc

  all : Left (letter ++ (side w tab ++ (side h newline ++ row_lines w h pixels))) start
  all = begun_as (picture_text w h pixels) (letter ++ (side w tab ++ (side h newline ++ row_lines w h pixels))) start parts room

  module _ (one : Printer) (printed : Printed start letter one) where
    after_letter : Left (side w tab ++ (side h newline ++ row_lines w h pixels)) one
    after_letter = one_part letter (side w tab ++ (side h newline ++ row_lines w h pixels)) start one all printed

    module _ (two : Printer) (more : Printed one (side w tab) two) where
      after_width : Left (side h newline ++ row_lines w h pixels) two
      after_width = one_part (side w tab) (side h newline ++ row_lines w h pixels) one two after_letter more

      after_height : (three : Printer) → Printed two (side h newline) three → Left (row_lines w h pixels) three
      after_height three last = one_part (side h newline) (row_lines w h pixels) two three after_width last

pub bytes-requires : goal.bytes-requires
bytes-requires c =
    let a = c.args in
    fits letter (side a.width tab ++ (side a.height newline ++ row_lines a.width a.height a.pixels.now)) a.self.now (all a.width a.height a.pixels.now a.self.now c.requires.room)

pub field-requires : goal.field-requires
field-requires c =
    let a = c.args in
    let one = c.bytes.new.self in
    rw c.from.ensures (fits (side a.width tab) (side a.height newline ++ row_lines a.width a.height a.pixels.now) one (after_letter a.width a.height a.pixels.now a.self.now c.requires.room one c.bytes.ensures))

pub field-requires-2 : goal.field-requires-2
field-requires-2 c =
    let a = c.args in
    let one = c.bytes.new.self in
    let two = c.field.new.self in
    rw c.from-2.ensures (fits (side a.height newline) (row_lines a.width a.height a.pixels.now) two (after_width a.width a.height a.pixels.now a.self.now c.requires.room one c.bytes.ensures two (rw c.from.ensures at c.field.ensures)))

pub rows-requires-clause-room : goal.rows-requires-clause-room
rows-requires-clause-room c =
    let a = c.args in
    let one = c.bytes.new.self in
    let two = c.field.new.self in
    let three = c.field-2.new.self in
    fits_last (row_lines a.width a.height a.pixels.now) three (after_height a.width a.height a.pixels.now a.self.now c.requires.room one c.bytes.ensures two (rw c.from.ensures at c.field.ensures) three (rw c.from-2.ensures at c.field-2.ensures))

pub returns : goal.returns
returns c =
    let a = c.args in
    let one = c.bytes.new.self in
    let two = c.field.new.self in
    let three = c.field-2.new.self in
    let left = after_height a.width a.height a.pixels.now a.self.now c.requires.room one c.bytes.ensures two (rw c.from.ensures at c.field.ensures) three (rw c.from-2.ensures at c.field-2.ensures) in
    last_part (row_lines a.width a.height a.pixels.now) three c.rows.new.self left c.rows.ensures
