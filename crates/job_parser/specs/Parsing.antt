-- The job that a text is. `proofs/Parsing` shows that it is the job with that text, and that there is none where it says so.
-- Definitions only.
use Rattle.std.specs.Prelude.{cond, List, [], ◌∷◌, ℕ, length, leb}
use Rattle.std.proofs.Math.Option.{Option, some, none}
use Rattle.kernel.specs.declared.Choice.{Choice}
use Rattle.kernel.specs.declared.Covariance.{Covariance}
use Rattle.job_printer.specs.Fields.{tab}
use Rattle.job_parser.specs.declared.Sizes.{Sizes}
use Rattle.job_parser.specs.declared.Header.{Header}
use Rattle.job_parser.specs.declared.Format.{Format}
use Rattle.job_parser.specs.Formats.{letter_of, longest_of, height_end}
use Rattle.job_parser.specs.Job.{Job, most_unsigned}
use Rattle.job_parser.specs.Reading.{Reading, found, nothing, Reader, ◌>>=◌, ◌>>◌, pure, read_byte, read_number, read_signed, read_choice, read_rows}

-- "Line one: N, xx, xy, yy, k, w, h and s or b"; "Line one: J, xx, xy, yy, k, w, h"
unfoldable pub read_entries : Reader Covariance
read_entries = do
  xx ← read_signed tab
  xy ← read_signed tab
  yy ← read_signed tab
  pure (record { xx = xx; xy = xy; yy = yy })

-- the byte `end` stands after h
unfoldable pub read_sizes : ℕ → Reader Sizes
read_sizes end = do
  steps ← read_number most_unsigned tab
  width ← read_number most_unsigned tab
  height ← read_number most_unsigned end
  pure (record { steps = steps; width = width; height = height })

abbrev pub header_from : Covariance → Sizes → Choice → Header
header_from e s choice =
    record { covariance = e; steps = s.steps; width = s.width; height = s.height; choice = choice }

unfoldable pub read_header : Format → Reader Header
read_header format = do
  read_byte (letter_of format)
  read_byte tab
  entries ← read_entries
  sizes ← read_sizes (height_end format)
  choice ← read_choice format
  pure (header_from entries sizes choice)

-- "then h lines of w pixels"
unfoldable pub read_job : Format → Reader Job
read_job format = do
  header ← read_header format
  pixels ← read_rows header.width header.height
  pure (record { header = header; pixels = pixels })

-- nothing follows
abbrev pub whole : {A : Type 0} → Reading A → Option A
whole (found a []) = some a
whole (found a (b ∷ text)) = none
whole nothing = none

unfoldable pub parse : Format → List ℕ → Option Job
parse format text = cond (leb (length text) (longest_of format)) (whole (read_job format text)) none
