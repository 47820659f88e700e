-- A text that a printer prints part by part. Assumes nothing.
use mathlib.Core.Path.{◌≡◌, refl, sym, ◌∙◌}
use mathlib.Core.List.{List, [], ◌∷◌, ◌++◌, append_assoc, append-nil, map}
use Prim.Native.Nat.{ℕ, suc, ◌+◌, ◌-◌, ◌*◌, ◌≤◌, ◌<◌}
use native.Mathlib.Nat.{add-zero, zero-mul, sub-zero}
use native.Mathlib.Omega.{arith}
use borrow.Rule.Slice.PartMut.{put_mid, Post-is}
use lib.ListN.{length, get_or, take, drop, length-append, length-map, length-drop}
use lib.Seq.{drop-drop, drop-cons}
use native.Mathlib.Numerals.{add-one}
use Rattle.std.proofs.lemmas.List.{drop_all}
use Rattle.job_printer.specs.Numerals.{numeral}
use Rattle.job_printer.specs.Fields.{separator, line, row_lines}
use Rattle.job_printer.specs.Buffers.{written, HasRoom, Printed}
use Rattle.job_printer.specs.declared.printer.Printer.{Printer}
use Rattle.job_printer.proofs.Buffers.{written_none, wrote_inside, wrote_on}

-- bytes copied into a part of a buffer
pub copied : (buffer bytes : List ℕ) (at : ℕ) → put_mid at (at + length bytes - at) buffer bytes ≡ written buffer at bytes
unfolding written
copied buffer bytes at = rw (Post-is at (at + length bytes) buffer (omega arith))

-- of a text that a printer had room for at the start, `rest` is still to be printed
pub record Printing (whole : List ℕ) (start : Printer) (rest : List ℕ) (now : Printer) : Type 0 where
  pub done : List ℕ
  pub parts : whole ≡ done ++ rest
  pub printed : Printed start done now
  pub room : HasRoom start (done ++ rest)

pub begun_as : (whole rest : List ℕ) (start : Printer) → whole ≡ rest → HasRoom start whole → Printing whole start rest start
begun_as whole rest start e room =
    record {
      done = [];
      parts = e;
      printed = record { same_buffer = refl; wrote = record { is = sym (written_none start.out.now start.at); ends = sym (add-zero start.at) } };
      room = rw e at room;
    }

pub begun : (whole : List ℕ) (start : Printer) → HasRoom start whole → Printing whole start whole start
begun whole start room = begun_as whole whole start refl room

module _ {whole : List ℕ} {start : Printer} where
  -- what is still to be printed finds room
  pub fits_last : (part : List ℕ) (now : Printer) → Printing whole start part now → HasRoom now part
  fits_last part now p = wrote_inside start.out.now start.at p.done part now.out.now now.at p.room p.printed.wrote

  pub fits : (part rest : List ℕ) (now : Printer) → Printing whole start (part ++ rest) now → HasRoom now part
  fits part rest now p = let room = fits_last (part ++ rest) now p in omega (arith, length-append part rest)

  -- the next part is printed
  pub one_part : (part rest : List ℕ) (now after : Printer) → Printing whole start (part ++ rest) now → Printed now part after → Printing whole start rest after
  one_part part rest now after p q =
      let grouped = append_assoc p.done part rest in
      let room : start.at + length (p.done ++ part) ≤ length start.out.now = omega (arith, p.room, length-append p.done part, length-append p.done (part ++ rest), length-append part rest) in
      record {
        done = p.done ++ part;
        parts = p.parts ∙ sym grouped;
        printed = record { same_buffer = q.same_buffer ∙ p.printed.same_buffer; wrote = wrote_on start.out.now start.at p.done part now.out.now after.out.now now.at after.at room p.printed.wrote q.wrote };
        room = rw grouped p.room;
      }

  -- nothing is left
  pub ended : (now : Printer) → Printing whole start [] now → Printed start whole now
  ended now p = rw (p.parts, append-nil) p.printed

  -- the last part is printed
  pub last_part : (part : List ℕ) (now after : Printer) → Printing whole start part now → Printed now part after → Printed start whole after
  last_part part now after p q = ended after (one_part part [] now after (rw append-nil p) q)

-- a line of values that are shown as numbers, from a place on
module _ {X : Type 0} (shown : X → ℕ) (values : List X) (place : ℕ) where
  abbrev pub fields_from : List ℕ
  fields_from = line (map (λ x. numeral (shown x)) (drop place values))

  abbrev pub field_of : X → List ℕ
  field_of x = numeral (shown x) ++ separator (length values - 1 - place) ∷ []

  abbrev fields_after : List ℕ
  fields_after = line (map (λ x. numeral (shown x)) (drop (place + 1) values))

  -- the next field, and the others
  field_first : (x : X) → place < length values → x ≡ get_or values place x → fields_from ≡ field_of x ++ fields_after
  unfolding line
  field_first x more is =
      let count : length (map (λ x. numeral (shown x)) (drop (suc place) values)) ≡ length values - 1 - place = length-map (drop (suc place) values) (λ x. numeral (shown x)) ∙ rw length-drop (omega arith) in
      rw (add-one, drop-cons values place x, ← is) (rw (count, append_assoc))

  -- a turn of the loop over the fields of a line
  module _ {whole : List ℕ} {start : Printer} (now : Printer) where
    pub field_fits : (x : X) → place < length values → x ≡ get_or values place x → Printing whole start fields_from now → HasRoom now (field_of x)
    field_fits x more is p = fits (field_of x) fields_after now (rw (field_first x more is) at p)

    pub field_printed : (x : X) (after : Printer) → place < length values → x ≡ get_or values place x → Printing whole start fields_from now → Printed now (field_of x) after → Printing whole start fields_after after
    field_printed x after more is p q = one_part (field_of x) fields_after now after (rw (field_first x more is) at p) q

    pub fields_ended : length values ≤ place → Printing whole start fields_from now → Printed start whole now
    unfolding line
    fields_ended last p = ended now (rw (drop_all place values last) at p)

abbrev next_row : List ℕ → ℕ → ℕ → List ℕ
next_row pixels w row = line (map numeral (take ((row + 1) * w - row * w) (drop (row * w) pixels)))

-- the lines of a picture: the next one, and the others
pub row_first : (pixels : List ℕ) (w h row : ℕ) → row < h → row_lines w (h - row) (drop (row * w) pixels) ≡ line (map numeral (take ((row + 1) * w - row * w) (drop (row * w) pixels))) ++ row_lines w (h - (row + 1)) (drop ((row + 1) * w) pixels)
unfolding row_lines
row_first pixels w h row more =
    let one : h - row ≡ suc (h - (row + 1)) = omega arith in
    let size : (row + 1) * w - row * w ≡ w = omega arith in
    let next : (row + 1) * w ≡ row * w + w = omega arith in
    rw (one, size, next, drop-drop) refl

pub rows_begun : (pixels : List ℕ) (w h : ℕ) (start : Printer) → HasRoom start (row_lines w h pixels) → Printing (row_lines w h pixels) start (row_lines w (h - 0) (drop (0 * w) pixels)) start
rows_begun pixels w h start room = rw (zero-mul w, sub-zero h) (begun (row_lines w h pixels) start room)

-- a turn of the loop over the lines of a picture
module _ {whole : List ℕ} {start : Printer} (pixels : List ℕ) (w h row : ℕ) (now : Printer) where
  row_next : row < h → Printing whole start (row_lines w (h - row) (drop (row * w) pixels)) now → Printing whole start (next_row pixels w row ++ row_lines w (h - (row + 1)) (drop ((row + 1) * w) pixels)) now
  row_next more p = rw (row_first pixels w h row more) at p

  pub row_fits : row < h → Printing whole start (row_lines w (h - row) (drop (row * w) pixels)) now → HasRoom now (next_row pixels w row)
  row_fits more p = fits (next_row pixels w row) (row_lines w (h - (row + 1)) (drop ((row + 1) * w) pixels)) now (row_next more p)

  pub row_printed : (after : Printer) → row < h → Printing whole start (row_lines w (h - row) (drop (row * w) pixels)) now → Printed now (next_row pixels w row) after → Printing whole start (row_lines w (h - (row + 1)) (drop ((row + 1) * w) pixels)) after
  row_printed after more p q = one_part (next_row pixels w row) (row_lines w (h - (row + 1)) (drop ((row + 1) * w) pixels)) now after (row_next more p) q

  pub rows_ended : h ≤ row → Printing whole start (row_lines w (h - row) (drop (row * w) pixels)) now → Printed start whole now
  unfolding row_lines
  rows_ended last p = let none : h - row ≡ 0 = omega arith in ended now (rw none at p)
