-- What the parts of a text that were read say of the whole: which job it is, or that it is none. Assumes nothing.
use mathlib.Core.Path.{◌≡◌, refl, ◌∙◌}
use mathlib.Core.List.{List, [], ◌∷◌, ◌++◌}
use mathlib.Core.Option.{some, none}
use Prim.Native.Nat.{ℕ, ◌*◌, ◌≤◌, ◌<◌}
use native.Mathlib.Omega.{arith}
use borrow.Author.Tests.{le-leb, lt-leb}
use native.Mathlib.Nat.{zero-add}
use lib.ListN.{length, take, drop}
use lib.Seq.{length-take-le}
use Rattle.std.specs.Prelude.{Option, Some, None}
use Rattle.job_printer.specs.Buffers.{written}
use Rattle.job_parser.specs.Job.{Job}
use Rattle.job_parser.specs.declared.Format.{Format}
use Rattle.job_parser.specs.declared.Header.{Header}
use Rattle.job_parser.specs.Formats.{longest_of}
use Rattle.job_parser.specs.Reading.{found, nothing, read_rows}
use Rattle.job_parser.specs.Parsing.{read_header, read_job, whole, parse}
use Rattle.job_parser.specs.Found.{job_of}
use Rattle.job_parser.specs.Pictures.{most_pixels}
use Rattle.job_parser.proofs.Parsing.{text_parsed}
use Rattle.job_parser.proofs.Bounds.{picture_fits}
use Rattle.job_parser.proofs.Rows.{rows_only}

-- the job that a text is, or that it is none: what the parser answers and stores
pub record Answers (format : Format) (text entry exit : List ℕ) (answer : Option Header) : Type 0 where
  pub value : answer ≡ job_of (parse format text)
  pub pixels_after : (job : Job) → parse format text ≡ some job → exit ≡ written entry 0 job.pixels

module _ (format : Format) (text entry exit : List ℕ) where
  no_job : parse format text ≡ none → Answers format text entry exit None
  unfolding job_of
  no_job e = record { value = rw e; pixels_after = λ job s. let z : ◌≡◌ {A = ℕ} 0 1 = cc in absurd (omega arith) }

  one_job : (job : Job) → parse format text ≡ some job → exit ≡ written entry 0 job.pixels → Answers format text entry exit (Some job.header)
  unfolding job_of
  one_job job e s = record { value = rw e; pixels_after = λ other o. let same : job ≡ other = cc in s ∙ rw same }

  pub too_long : longest_of format < length text → Answers format text entry exit None
  unfolding parse
  too_long h = no_job (rw (lt-leb (length text) (longest_of format) h))

  module _ (short : length text ≤ longest_of format) where
    pub without_header : read_header format text ≡ nothing → Answers format text entry exit None
    unfolding parse read_job
    without_header e = no_job (rw (le-leb (length text) (longest_of format) short, e))

    module _ (h : Header) (lines : List ℕ) (line_one : read_header format text ≡ found h lines) where
      pub without_rows : read_rows h.width h.height lines ≡ nothing → Answers format text entry exit None
      unfolding parse read_job
      without_rows e = no_job (rw (le-leb (length text) (longest_of format) short, line_one, e))

      -- lines of pixels, and what follows them
      module _ (pixels rest : List ℕ) (rows : read_rows h.width h.height lines ≡ found pixels rest) where
        job : Job
        job = record { header = h; pixels = pixels }

        parsed : parse format text ≡ whole (found job rest)
        unfolding parse read_job job
        parsed = rw (le-leb (length text) (longest_of format) short, line_one, rows)

        pub ended : length rest ≡ 0 → exit ≡ written entry 0 pixels → Answers format text entry exit (Some h)
        unfolding job
        ended e s = go rest e parsed
          where
            go : (r : List ℕ) → length r ≡ 0 → parse format text ≡ whole (found job r) → Answers format text entry exit (Some h)
            go [] f p = one_job job p s
            go (b ∷ r) f p = absurd (omega arith)

        pub followed : (length rest ≡ 0 → ⊥) → Answers format text entry exit None
        followed e = go rest e parsed
          where
            go : (r : List ℕ) → (length r ≡ 0 → ⊥) → parse format text ≡ whole (found job r) → Answers format text entry exit None
            go [] f p = absurd (f refl)
            go (b ∷ r) f p = no_job p

        large : most_pixels < h.width * h.height → parse format text ≡ none
        unfolding job
        large more = go rest parsed
          where
            go : (r : List ℕ) → parse format text ≡ whole (found job r) → parse format text ≡ none
            go [] p =
                let count : length pixels ≡ h.width * h.height = (rows_only h.width h.height lines pixels rest rows).count in
                let fits : length pixels ≤ most_pixels = picture_fits format text job (text_parsed format text job p) in
                absurd (omega arith)
            go (b ∷ r) p = p

      -- a picture that no text has room for
      pub too_large : most_pixels < h.width * h.height → Answers format text entry exit None
      too_large more = go (read_rows h.width h.height lines) refl
        where
          go : (r : _) → read_rows h.width h.height lines ≡ r → Answers format text entry exit None
          go (found pixels rest) e = no_job (large pixels rest e more)
          go nothing e = without_rows e

-- pixels that stand at the front of a picture
pub filled : (entry pixels : List ℕ) (size : ℕ) → size ≤ length entry → length pixels ≡ length (take size entry) → pixels ++ drop size entry ≡ written entry 0 pixels
unfolding written
filled entry pixels size fits same = let long : length pixels ≡ size = same ∙ length-take-le size entry fits in rw (zero-add, long)
