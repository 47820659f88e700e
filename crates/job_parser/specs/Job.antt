-- docs/REFERENCE.md, "Bench program": a job, and the text that it is written as. Definitions only.
use Rattle.std.specs.Prelude.{◌≡◌, List, [], ◌∷◌, ◌++◌, ℕ, suc, ◌*◌, ◌≤◌, length, ℤ, pos, negsuc}
use Rattle.limits.specs.Limits.{largest_pixel}
use Rattle.job_printer.specs.Numerals.{numeral, integer}
use Rattle.job_printer.specs.Fields.{line, row_lines}
use Rattle.job_parser.specs.declared.Format.{Format}
use Rattle.job_parser.specs.declared.Header.{Header}
use Rattle.job_parser.specs.Formats.{letter_of, longest_of, choice_fields, CanHave}

-- `Header` has the fields covariance (xx, xy, yy), steps, width, height, choice
pub record Job : Type 0 where
  pub header : Header
  pub pixels : List ℕ

-- "Line one: N, xx, xy, yy, k, w, h and s or b"; "Line one: J, xx, xy, yy, k, w, h"
abbrev pub header_text : Format → Header → List ℕ
header_text format header =
    line
    ((letter_of format ∷ []) ∷ integer header.covariance.xx ∷ integer header.covariance.xy ∷ integer header.covariance.yy
    ∷ numeral header.steps ∷ numeral header.width ∷ numeral header.height ∷ choice_fields format header.choice)

-- "then h lines of w pixels; where w or h is 0 no pixel line follows"
abbrev pub text_of : Format → Job → List ℕ
text_of format job = header_text format job.header ++ row_lines job.header.width job.header.height job.pixels

abbrev pub most_unsigned : ℕ
most_unsigned = 4294967295

abbrev pub most_positive : ℕ
most_positive = 2147483647

abbrev pub most_negative : ℕ
most_negative = 2147483648

-- "Shape fields are signed 32-bit"
abbrev pub Signed : ℤ → Type 0
Signed (pos n) = n ≤ most_positive
Signed (negsuc n) = suc n ≤ most_negative

-- each number of a list is at most a limit
abbrev pub EachAtMost : ℕ → List ℕ → Type 0
EachAtMost limit [] = Unit {0}
EachAtMost limit (n ∷ ns) = (n ≤ limit) × EachAtMost limit ns

-- "Shape fields are signed 32-bit, k, w, h unsigned 32-bit", and a choice that the format can have
pub record HeaderInTypes (format : Format) (header : Header) : Type 0 where
  pub xx : Signed header.covariance.xx
  pub xy : Signed header.covariance.xy
  pub yy : Signed header.covariance.yy
  pub steps : header.steps ≤ most_unsigned
  pub width : header.width ≤ most_unsigned
  pub height : header.height ≤ most_unsigned
  pub choice : CanHave format header.choice

-- and its pixels fill its picture
pub record InTypes (format : Format) (job : Job) : Type 0 where
  pub header : HeaderInTypes format job.header
  pub pixels : EachAtMost largest_pixel job.pixels
  pub count : length job.pixels ≡ job.header.width * job.header.height

-- a text is a job, written in a format: refusal 1 is its failure. "A text is a job exactly when it is the one spelling of that job", and
-- "a longer text is no job"
pub record IsText (format : Format) (text : List ℕ) (job : Job) : Type 0 where
  pub bytes : text ≡ text_of format job
  pub short : length text ≤ longest_of format
  pub types : InTypes format job
