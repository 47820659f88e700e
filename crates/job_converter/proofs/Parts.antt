-- The parts of a converted text, as `respell` prints them one after the other, and the room that they have. Assumes nothing.
use mathlib.Core.Path.{◌≡◌, refl, sym, ap, ◌∙◌}
use mathlib.Core.List.{List, [], ◌∷◌, ◌++◌, append-nil}
use Prim.Native.Nat.{ℕ, suc, ◌+◌, ◌-◌, ◌≤◌}
use native.Mathlib.Nat.{zero-add}
use native.Mathlib.Omega.{arith}
use lib.ListN.{length, take, drop, length-drop}
use lib.Seq.{take-nil, take_all}
use Rattle.limits.specs.Errors.{first_refusal}
use Rattle.std.proofs.lemmas.List.{drop_all}
use Rattle.job_printer.specs.Buffers.{written, HasRoom, Printed}
use Rattle.job_printer.specs.declared.printer.Printer.{Printer}
use Rattle.job_printer.proofs.Printing.{Printing, begun_as, one_part, fits, fits_last, last_part}
use Rattle.job_parser.specs.Formats.{letter_of}
use Rattle.job_parser.specs.Job.{text_of}
use Rattle.job_parser.specs.declared.Format.{Format}
use Rattle.job_converter.specs.Conversion.{line_end, smallest_bytes, converted, conversion_checks}
use Rattle.job_converter.proofs.Spelling.{end_is, end_inside, converted_text, text_long}
use Rattle.job_converter.proofs.Checks.{taken, sized}
use Rattle.std.specs.Prelude.{Ok}

drop_first : (n : ℕ) (l : List ℕ) → drop 1 (take (suc n) l) ≡ take n (drop 1 l)
drop_first n [] = sym (take-nil n)
drop_first n (b ∷ l) = refl

-- line one between its letter and what names the choice, and all from line one's newline on, as parts of the text
abbrev pub middle : Format → List ℕ → List ℕ
middle from text = take (line_end text - length (smallest_bytes from) - 1) (drop 1 text)

abbrev pub rest : List ℕ → List ℕ
rest text = take (length text - line_end text) (drop (line_end text) text)

module _ (from to : Format) (text out : List ℕ) (accepted : first_refusal (conversion_checks from to text (length out)) ≡ Ok tt) where
  -- line one has its letter and a tab before what names the choice, and ends inside the text
  pub kept_some : length (smallest_bytes from) + 2 ≤ line_end text
  kept_some =
      let t = taken from to text (length out) accepted in
      rw t.is.bytes (omega (arith, end_is from t.job t.smallest))

  pub ends_inside : line_end text ≤ length text
  ends_inside =
      let t = taken from to text (length out) accepted in
      rw t.is.bytes (end_inside from t.job t.smallest)

  -- the output has exactly the converted text's length
  pub fills : length (converted from to text) ≡ length out
  fills =
      let t = taken from to text (length out) accepted in
      let made : converted from to text ≡ text_of to t.job = ap (converted from to) t.is.bytes ∙ converted_text from t.job t.smallest to in
      let long = text_long from to t.job t.smallest in
      let same = ap length t.is.bytes in
      let size = sized from to text (length out) accepted in
      rw made (omega arith)

  parts : converted from to text ≡ (letter_of to ∷ []) ++ (middle from text ++ (smallest_bytes to ++ rest text))
  unfolding converted
  parts =
      let one : line_end text - length (smallest_bytes from) ≡ suc (line_end text - length (smallest_bytes from) - 1) = omega (arith, kept_some) in
      let front : drop 1 (take (line_end text - length (smallest_bytes from)) text) ≡ middle from text = ap (λ n. drop 1 (take n text)) one ∙ drop_first (line_end text - length (smallest_bytes from) - 1) text in
      let back : rest text ≡ drop (line_end text) text = take_all (length text - line_end text) (drop (line_end text) text) (rw length-drop (omega arith)) in
      rw (front, back)

  module _ (start : Printer) (begins : start.at ≡ 0) (lent : start.out.now ≡ out) where
    -- what is still to be printed of the converted text
    abbrev Left : List ℕ → Printer → Type 0
    Left part now = Printing (converted from to text) start part now

    all : Left ((letter_of to ∷ []) ++ (middle from text ++ (smallest_bytes to ++ rest text))) start
    all =
        let room : HasRoom start (converted from to text) = rw (begins, lent) (omega (arith, fills)) in
        begun_as (converted from to text) ((letter_of to ∷ []) ++ (middle from text ++ (smallest_bytes to ++ rest text))) start parts room

    pub letter_fits : HasRoom start (letter_of to ∷ [])
    letter_fits = fits (letter_of to ∷ []) (middle from text ++ (smallest_bytes to ++ rest text)) start all

    module _ (one : Printer) (letter : Printed start (letter_of to ∷ []) one) where
      after_letter : Left (middle from text ++ (smallest_bytes to ++ rest text)) one
      after_letter = one_part (letter_of to ∷ []) (middle from text ++ (smallest_bytes to ++ rest text)) start one all letter

      pub middle_fits : HasRoom one (middle from text)
      middle_fits = fits (middle from text) (smallest_bytes to ++ rest text) one after_letter

      module _ (two : Printer) (line_one : Printed one (middle from text) two) where
        after_middle : Left (smallest_bytes to ++ rest text) two
        after_middle = one_part (middle from text) (smallest_bytes to ++ rest text) one two after_letter line_one

        pub choice_fits : HasRoom two (smallest_bytes to)
        choice_fits = fits (smallest_bytes to) (rest text) two after_middle

        module _ (three : Printer) (choice : Printed two (smallest_bytes to) three) where
          after_choice : Left (rest text) three
          after_choice = one_part (smallest_bytes to) (rest text) two three after_middle choice

          pub rest_fits : HasRoom three (rest text)
          rest_fits = fits_last (rest text) three after_choice

          -- what was printed is all of the output
          pub all_printed : (last : Printer) → Printed three (rest text) last → last.out.now ≡ converted from to text
          unfolding written
          all_printed last p =
              let w = (last_part (rest text) three last after_choice p).wrote in
              w.is ∙ rw (begins, lent, zero-add, drop_all (length (converted from to text)) out (omega (arith, fills)), append-nil)

          pub same_buffer : (last : Printer) → Printed three (rest text) last → last.out.ghost_name ≡ start.out.ghost_name
          same_buffer last p = (last_part (rest text) three last after_choice p).same_buffer
