-- The theorems on answers: refusal 1 is printed exactly for a text that is no job, and the buffer has room for every answer.
-- Assumes nothing.
use mathlib.Core.Path.{◌≡◌, refl, ap}
use mathlib.Core.Bool.{Bool, true, false}
use mathlib.Core.List.{List}
use mathlib.Core.Logic.{◌↔◌}
use mathlib.Core.Option.{Option, some, none}
use Prim.Native.Nat.{ℕ, ◌≤◌}
use native.Mathlib.Omega.{arith}
use lib.ListN.{length, get_or}
use Rattle.limits.specs.Limits.{steps_in_range, sides_in_range}
use Rattle.limits.specs.Errors.{unless}
use Rattle.limits.specs.declared.ErrorCode.TheVariants.{TextIsNoJob, StepsOutOfRange, SideOutOfRange, NoKernel}
use Rattle.kernel.specs.Molecule.{units_of}
use Rattle.kernel.specs.Existence.{kernel_exists}
use Rattle.job_printer.specs.Numerals.{numeral_within, numeral}
use Rattle.job_printer.specs.Fields.{line}
use Rattle.job_printer.specs.Lines.{refusal_text}
use Rattle.job_parser.specs.Job.{Job, IsText}
use Rattle.job_parser.specs.Parsing.{parse}
use Rattle.job_parser.specs.declared.Format.TheVariants.{J, N}
use Rattle.job_parser.proofs.Parsing.{parse_text, text_parsed}
use Rattle.job_parser.proofs.Theorems.{one_format}
use Rattle.job_text.specs.Answer.{refusal_or, result_text, job_answer, answer_text, most_bytes}
use Rattle.job_text.proofs.Bounds.{answer_short}
use Rattle.std.specs.Prelude.{Ok, Err}

-- no answer to a job is refusal 1: its third byte is another digit, or its first another letter
other_answer : (steps sides kernel : Bool) (result : List ℕ)
    → refusal_or (unless steps (Err StepsOutOfRange) (unless sides (Err SideOutOfRange) (unless kernel (Err NoKernel) (Ok tt)))) result ≡ refusal_text TextIsNoJob
    → get_or result 0 0 ≡ 75 → ⊥
unfolding line numeral numeral_within
other_answer false sides kernel result e k = let third = ap (λ text. get_or text 2 0) e in omega arith
other_answer true false kernel result e k = let third = ap (λ text. get_or text 2 0) e in omega arith
other_answer true true false result e k = let fourth = ap (λ text. get_or text 3 0) e in omega arith
other_answer true true true result e k = let first = ap (λ text. get_or text 0 0) e in omega arith

begins_with_k : (job : Job) → get_or (result_text job.header job.pixels) 0 0 ≡ 75
unfolding line
begins_with_k job = refl

-- REFUSAL 1 IS PRINTED EXACTLY WHERE THE TEXT IS NO JOB'S
pub refused_exactly : (text : List ℕ) → (answer_text text ≡ refusal_text TextIsNoJob) ↔ ((job : Job) → IsText N text job → ⊥)
unfolding answer_text job_answer
refused_exactly text = (only, λ none_is. always none_is (parse N text) refl)
  where
    only : answer_text text ≡ refusal_text TextIsNoJob → (job : Job) → IsText N text job → ⊥
    only e job is =
        let h = job.header in
        let printed : job_answer h job.pixels ≡ refusal_text TextIsNoJob = rw (parse_text N text job is) at e in
        other_answer (steps_in_range h.steps) (sides_in_range h.width h.height) (kernel_exists h.covariance.xx h.covariance.xy h.covariance.yy (units_of h.steps))
        (result_text h job.pixels) printed (begins_with_k job)

    always : ((job : Job) → IsText N text job → ⊥) → (o : Option Job) → parse N text ≡ o → answer_text text ≡ refusal_text TextIsNoJob
    always none_is (some job) e = absurd (none_is job (text_parsed N text job e))
    always none_is none e = rw e

-- A J TEXT GETS 1: "The bench program takes N only and gives 1 for a J"
pub archived_refused : (text : List ℕ) (job : Job) → IsText J text job → answer_text text ≡ refusal_text TextIsNoJob
archived_refused text job is = (refused_exactly text).1 (λ other k. one_format text job other is k)

-- NO ANSWER HAS MORE THAN 49,240 BYTES
pub few_bytes : (text : List ℕ) → length (answer_text text) ≤ most_bytes
few_bytes = answer_short
