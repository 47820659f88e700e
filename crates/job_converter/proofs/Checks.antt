-- What the checks of the converter tell of a text. Assumes nothing.
use mathlib.Core.Path.{◌≡◌, refl}
use mathlib.Core.Bool.{true}
use mathlib.Core.List.{List}
use mathlib.Core.Option.{Option, some, none}
use Prim.Native.Nat.{ℕ, ◌+◌, ◌≤◌}
use native.Mathlib.Nat.{le_trans}
use native.Mathlib.Omega.{arith}
use borrow.Author.Tests.{eqb-true}
use lib.ListN.{length}
use Rattle.std.specs.Prelude.{Some, None, Ok, Err}
use Rattle.limits.specs.Errors.{first_refusal}
use Rattle.limits.specs.declared.ErrorCode.TheVariants.{TextIsNoJob, CannotGoBack}
use Rattle.limits.proofs.Checks.{all_hold}
use Rattle.kernel.specs.declared.Choice.{Choice}
use Rattle.kernel.specs.declared.Choice.TheVariants.{Binomial, Smallest}
use Rattle.job_parser.specs.Job.{Job, IsText}
use Rattle.job_parser.specs.Formats.{longest_of}
use Rattle.job_parser.specs.Found.{job_of}
use Rattle.job_parser.specs.Parsing.{parse}
use Rattle.job_parser.specs.declared.Header.{Header}
use Rattle.job_parser.specs.declared.Format.{Format}
use Rattle.job_parser.specs.declared.Format.TheVariants.{J, N}
use Rattle.job_parser.proofs.Parsing.{text_parsed}
use Rattle.job_parser.proofs.Bounds.{at_longest, pixels_fit}
use Rattle.job_converter.specs.Conversion.{smallest_bytes, is_smallest, has_smallest, length_checks, conversion_checks}

-- a text that converts: a job's, with the smallest choice
pub record Convertible (format : Format) (text : List ℕ) : Type 0 where
  pub job : Job
  pub is : IsText format text job
  pub smallest : job.header.choice ≡ Smallest

smallest_is : (c : Choice) → is_smallest c ≡ true → c ≡ Smallest
smallest_is Smallest e = refl
smallest_is Binomial e = let z : ◌≡◌ {A = ℕ} 0 1 = cc in absurd (omega arith)

convertible : (format : Format) (text : List ℕ) → has_smallest (parse format text) ≡ true → Convertible format text
convertible format text h = go (parse format text) refl h
  where
    go : (o : Option Job) → parse format text ≡ o → has_smallest o ≡ true → Convertible format text
    go (some job) e s = record { job = job; is = text_parsed format text job e; smallest = smallest_is job.header.choice s }
    go none e s = let z : ◌≡◌ {A = ℕ} 0 1 = cc in absurd (omega arith)

module _ (from to : Format) (text : List ℕ) (size : ℕ) (accepted : first_refusal (conversion_checks from to text size) ≡ Ok tt) where
  pub taken : Convertible from text
  taken = convertible from text (all_hold (conversion_checks from to text size) accepted).1.0

  pub sized : size + length (smallest_bytes from) ≡ length text + length (smallest_bytes to)
  sized = eqb-true _ _ (all_hold (conversion_checks from to text size) accepted).1.1.0

-- what the reader of jobs answered tells how the checks go on
module _ (from to : Format) (text : List ℕ) (size : ℕ) where
  pub no_job_lem : job_of (parse from text) ≡ None → first_refusal (conversion_checks from to text size) ≡ Err TextIsNoJob
  unfolding job_of
  no_job_lem h = go (parse from text) refl
    where
      go : (o : Option Job) → parse from text ≡ o → first_refusal (conversion_checks from to text size) ≡ Err TextIsNoJob
      go (some job) e = let found : Some job.header ≡ None = rw e at h in let z : ◌≡◌ {A = ℕ} 0 1 = cc in absurd (omega arith)
      go none e = rw e

  module _ (header : Header) (is_job_lem : job_of (parse from text) ≡ Some header) where
    -- the job that was read
    read : (job : Job) × ((parse from text ≡ some job) × (job.header ≡ header))
    unfolding job_of
    read = go (parse from text) refl
      where
        go : (o : Option Job) → parse from text ≡ o → (job : Job) × ((parse from text ≡ some job) × (job.header ≡ header))
        go (some job) e = let found : Some job.header ≡ Some header = rw e at is_job_lem in (job, (e, cc))
        go none e = let found : None ≡ Some header = rw e at is_job_lem in let z : ◌≡◌ {A = ℕ} 0 1 = cc in absurd (omega arith)

    pub by_length : header.choice ≡ Smallest → first_refusal (conversion_checks from to text size) ≡ first_refusal (length_checks from to (length text) size)
    by_length e = let r = read in rw r.1.0 (rw (r.1.1, e))

    pub not_back : header.choice ≡ Binomial → first_refusal (conversion_checks from to text size) ≡ Err CannotGoBack
    not_back e = let r = read in rw r.1.0 (rw (r.1.1, e))

    -- its text is neither very short nor very long
    pub text_sized : (2 ≤ length text) × (length text ≤ longest_of N)
    text_sized =
        let r = read in
        let is = text_parsed from text r.0 r.1.0 in
        (omega (arith, pixels_fit from text r.0 is), le_trans is.short (at_longest from))

-- two bytes at most name a choice
pub choice_short : (format : Format) → length (smallest_bytes format) ≤ 2
choice_short J = omega arith
choice_short N = omega arith
