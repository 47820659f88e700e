-- A job with the smallest choice has the same bytes in both formats, but for the letter and for what names the choice. Assumes nothing.
use mathlib.Core.Path.{◌≡◌, refl, sym, ap, ◌∙◌}
use mathlib.Core.List.{List, [], ◌∷◌, ◌++◌, append_assoc}
use Prim.Native.Nat.{ℕ, suc, ◌+◌, ◌-◌, ◌≤◌}
use native.Mathlib.Omega.{arith}
use lib.ListN.{length, take, drop, length-append}
use lib.Seq.{take_at, drop_at}
use Rattle.kernel.specs.declared.Choice.TheVariants.{Smallest}
use Rattle.job_printer.specs.Numerals.{numeral, integer}
use Rattle.job_printer.specs.Fields.{tab, newline, line, row_lines}
use Rattle.job_parser.specs.Formats.{letter_of, longest_of, CanHave}
use Rattle.job_parser.specs.Job.{Job, header_text, text_of}
use Rattle.job_parser.specs.declared.Format.{Format}
use Rattle.job_parser.specs.declared.Format.TheVariants.{J, N}
use Rattle.job_parser.specs.declared.Header.{Header}
use Rattle.job_converter.specs.Conversion.{line_end, smallest_bytes, converted}
use Rattle.job_converter.proofs.Lines.{Plain, plain_both, plain_numeral, plain_integer, ends_at}

-- line one between its letter and what names the choice
abbrev from_width : Header → List ℕ
from_width h = numeral h.width ++ tab ∷ numeral h.height

abbrev from_steps : Header → List ℕ
from_steps h = numeral h.steps ++ tab ∷ from_width h

abbrev from_yy : Header → List ℕ
from_yy h = integer h.covariance.yy ++ tab ∷ from_steps h

abbrev from_xy : Header → List ℕ
from_xy h = integer h.covariance.xy ++ tab ∷ from_yy h

abbrev from_xx : Header → List ℕ
from_xx h = integer h.covariance.xx ++ tab ∷ from_xy h

abbrev body : Header → List ℕ
body h = tab ∷ from_xx h

not_tab : tab ≡ newline → ⊥
not_tab e = omega arith

plain_field : (field others : List ℕ) → Plain field → Plain others → Plain (field ++ tab ∷ others)
plain_field field others h k = plain_both field (tab ∷ others) h (not_tab, k)

plain_body : (h : Header) → Plain (body h)
plain_body h =
    let width = plain_field (numeral h.width) (numeral h.height) (plain_numeral h.width) (plain_numeral h.height) in
    let steps = plain_field (numeral h.steps) (from_width h) (plain_numeral h.steps) width in
    let yy = plain_field (integer h.covariance.yy) (from_steps h) (plain_integer h.covariance.yy) steps in
    let xy = plain_field (integer h.covariance.xy) (from_yy h) (plain_integer h.covariance.xy) yy in
    (not_tab, plain_field (integer h.covariance.xx) (from_xy h) (plain_integer h.covariance.xx) xy)

plain_choice : (format : Format) → Plain (smallest_bytes format)
plain_choice J = tt
plain_choice N = ((λ e. omega arith), ((λ e. omega arith), tt))

plain_letter : (format : Format) → letter_of format ≡ newline → ⊥
plain_letter J e = omega arith
plain_letter N e = omega arith

header_split : (format : Format) (h : Header) → h.choice ≡ Smallest → header_text format h ≡ letter_of format ∷ (body h ++ (smallest_bytes format ++ newline ∷ []))
unfolding line
header_split J h e = simp append_assoc
header_split N h e = rw e (simp append_assoc)

-- the text of a job: the letter, the same bytes, the choice, and the same bytes from line one's newline on
abbrev rows : Job → List ℕ
rows job = row_lines job.header.width job.header.height job.pixels

split : (format : Format) (job : Job) → job.header.choice ≡ Smallest → text_of format job ≡ (letter_of format ∷ body job.header) ++ (smallest_bytes format ++ newline ∷ rows job)
split format job e = rw (header_split format job.header e) (simp append_assoc)

module _ (format : Format) (job : Job) (smallest : job.header.choice ≡ Smallest) where
  pub end_is : line_end (text_of format job) ≡ length (from_xx job.header) + 2 + length (smallest_bytes format)
  end_is =
      let bytes = (letter_of format ∷ body job.header) ++ smallest_bytes format in
      let plain : Plain bytes = (plain_letter format, plain_both (body job.header) (smallest_bytes format) (plain_body job.header) (plain_choice format)) in
      let grouped : text_of format job ≡ bytes ++ newline ∷ rows job = split format job smallest ∙ sym (append_assoc (letter_of format ∷ body job.header) (smallest_bytes format) (newline ∷ rows job)) in
      rw grouped (ends_at bytes (rows job) plain ∙ rw length-append (omega arith))

  pub end_inside : line_end (text_of format job) ≤ length (text_of format job)
  end_inside = let size = ap length (split format job smallest) in rw (end_is, size) (simp length-append (omega arith))

  kept_is : take (line_end (text_of format job) - length (smallest_bytes format)) (text_of format job) ≡ letter_of format ∷ body job.header
  kept_is =
      let size : line_end (text_of format job) - length (smallest_bytes format) ≡ suc (length (body job.header)) = omega (arith, end_is) in
      rw (size, split format job smallest) (take_at (letter_of format ∷ body job.header) (smallest_bytes format ++ newline ∷ rows job) (suc (length (body job.header))) refl)

  rest_is : drop (line_end (text_of format job)) (text_of format job) ≡ newline ∷ rows job
  rest_is =
      let bytes = (letter_of format ∷ body job.header) ++ smallest_bytes format in
      let grouped : text_of format job ≡ bytes ++ newline ∷ rows job = split format job smallest ∙ sym (append_assoc (letter_of format ∷ body job.header) (smallest_bytes format) (newline ∷ rows job)) in
      let size : length bytes ≡ line_end (text_of format job) = rw length-append (omega (arith, end_is)) in
      ap (drop (line_end (text_of format job))) grouped ∙ drop_at bytes (newline ∷ rows job) (line_end (text_of format job)) size

  -- A CONVERTED TEXT IS THE JOB'S TEXT IN THE OTHER FORMAT
  pub converted_text : (to : Format) → converted format to (text_of format job) ≡ text_of to job
  unfolding converted
  converted_text to = rw (kept_is, rest_is, split to job smallest)

-- a text and its length in the other format
pub text_long : (from to : Format) (job : Job) → job.header.choice ≡ Smallest → length (text_of to job) + length (smallest_bytes from) ≡ length (text_of from job) + length (smallest_bytes to)
text_long from to job e = rw (split from job e, split to job e) (simp length-append (omega arith))

pub same_room : (from to : Format) → longest_of to + length (smallest_bytes from) ≡ longest_of from + length (smallest_bytes to)
same_room J J = refl
same_room J N = refl
same_room N J = refl
same_room N N = refl

pub can_have : (format : Format) {choice : _} → choice ≡ Smallest → CanHave format choice
can_have J e = e
can_have N e = tt
