-- The theorems on job texts, in either format. Reading and writing a job are inverse to each other, so that no job has two spellings and no text
-- is two jobs; and a picture of 8,191 pixels has room for every job. Assumes nothing.
use mathlib.Core.Path.{◌≡◌, refl, sym, ap, ◌∙◌}
use mathlib.Core.List.{List}
use mathlib.Core.Option.{some}
use Prim.Native.Nat.{ℕ, ◌≤◌}
use native.Mathlib.Omega.{arith}
use lib.ListN.{length, get_or}
use Rattle.job_printer.specs.Fields.{line}
use Rattle.job_parser.specs.declared.Format.{Format}
use Rattle.job_parser.specs.declared.Format.TheVariants.{J, N}
use Rattle.job_parser.specs.Formats.{longest_of}
use Rattle.job_parser.specs.Job.{Job, text_of, InTypes, IsText}
use Rattle.job_parser.specs.Parsing.{parse}
use Rattle.job_parser.specs.Pictures.{most_pixels}
use Rattle.job_parser.proofs.Parsing.{parse_text, text_parsed}
use Rattle.job_parser.proofs.Bounds.{picture_fits}

module _ (format : Format) where
  -- EVERY JOB WITHIN THE FORMAT IS READ BACK FROM ITS TEXT ..
  pub read_back : (job : Job) → InTypes format job → length (text_of format job) ≤ longest_of format → parse format (text_of format job) ≡ some job
  read_back job types short = parse_text format (text_of format job) job (record { bytes = refl; short = short; types = types })

  -- .. AND A TEXT THAT IS READ AS A JOB IS THAT JOB'S TEXT
  pub spelled : (text : List ℕ) (job : Job) → parse format text ≡ some job → text ≡ text_of format job
  spelled text job e = (text_parsed format text job e).bytes

  -- no job has two spellings
  pub one_spelling : (text other : List ℕ) (job : Job) → parse format text ≡ some job → parse format other ≡ some job → text ≡ other
  one_spelling text other job e f = spelled text job e ∙ sym (spelled other job f)

  -- and no two jobs have one text
  pub one_job_lem : (text : List ℕ) (job other : Job) → IsText format text job → IsText format text other → job ≡ other
  one_job_lem text job other h k = let e : some job ≡ some other = sym (parse_text format text job h) ∙ parse_text format text other k in cc

  -- A TEXT OF AT MOST 16,386 BYTES HAS AT MOST 8,191 PIXELS
  pub few_pixels : (text : List ℕ) (job : Job) → parse format text ≡ some job → length job.pixels ≤ most_pixels
  few_pixels text job e = picture_fits format text job (text_parsed format text job e)

-- NO TEXT IS A JOB IN BOTH FORMATS: the first byte tells them apart
pub one_format : (text : List ℕ) (job other : Job) → IsText J text job → IsText N text other → ⊥
unfolding line
one_format text job other h k =
    let e : text_of J job ≡ text_of N other = sym h.bytes ∙ k.bytes in
    let first = ap (λ text. get_or text 0 0) e in
    omega arith
