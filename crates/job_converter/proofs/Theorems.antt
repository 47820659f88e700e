-- The theorems on the converter, of both ways at once: a converted text is the text of the same job in the other format, every text comes
-- back as it was, and which texts are refused with what. Assumes nothing.
use mathlib.Core.Path.{◌≡◌, refl, sym, ◌∙◌}
use mathlib.Core.Bool.{Bool, true, false}
use mathlib.Core.List.{List}
use mathlib.Core.Logic.{◌↔◌}
use mathlib.Core.Option.{Option, some, none}
use Prim.Native.Nat.{ℕ, ◌+◌}
use native.Mathlib.Omega.{arith}
use borrow.Author.Tests.{eq-eqb, ne_eqb}
use lib.Dec.{eqb}
use lib.ListN.{length}
use Rattle.limits.specs.Errors.{unless}
use Rattle.limits.specs.declared.ErrorCode.TheVariants.{TextIsNoJob, WrongLength, CannotGoBack}
use Rattle.kernel.specs.declared.Choice.TheVariants.{Binomial, Smallest}
use Rattle.job_parser.specs.Job.{Job, text_of, InTypes, IsText}
use Rattle.job_parser.specs.Parsing.{parse}
use Rattle.job_parser.specs.declared.Format.{Format}
use Rattle.job_parser.specs.declared.Format.TheVariants.{J, N}
use Rattle.job_parser.proofs.Parsing.{parse_text, text_parsed}
use Rattle.job_converter.specs.Conversion.{smallest_bytes, converted, is_smallest, conversion, output_after}
use Rattle.job_converter.proofs.Spelling.{converted_text, text_long, same_room, can_have}
use Rattle.std.specs.Prelude.{Ok, Err}

module _ (from to : Format) (text : List ℕ) (job : Job) (is : IsText from text job) (smallest : job.header.choice ≡ Smallest) where
  made : converted from to text ≡ text_of to job
  made = rw is.bytes (converted_text from job smallest to)

  long : length (converted from to text) + length (smallest_bytes from) ≡ length text + length (smallest_bytes to)
  long = rw (made, is.bytes) (text_long from to job smallest)

  types : InTypes to job
  types =
      let t = is.types in
      let h = t.header in
      record {
        header = record { xx = h.xx; xy = h.xy; yy = h.yy; steps = h.steps; width = h.width; height = h.height; choice = can_have to smallest };
        pixels = t.pixels;
        count = t.count;
      }

  -- A CONVERTED TEXT IS THE SAME JOB'S, IN THE OTHER FORMAT
  pub same_job : IsText to (converted from to text) job
  same_job = record { bytes = made; short = omega (arith, long, is.short, same_room from to); types = types }

  -- IT IS TAKEN WHATEVER ITS STEPS, SIDES AND SHAPE ARE, where the output has the right length
  module _ (out : List ℕ) (fits : length out + length (smallest_bytes from) ≡ length text + length (smallest_bytes to)) where
    pub accepted : conversion from to text out ≡ Ok tt
    accepted = rw (parse_text from text job is) (rw (smallest, eq-eqb _ _ fits))

    pub left : output_after from to text out ≡ converted from to text
    left = rw accepted

-- a text that goes to the other format and comes back, whatever the outputs held before
pub record ComesBack (from to : Format) (text out other : List ℕ) : Type 0 where
  pub forth : conversion from to text out ≡ Ok tt
  pub back : conversion to from (output_after from to text out) other ≡ Ok tt
  pub same : output_after to from (output_after from to text out) other ≡ text

-- EVERY TEXT WITH THE SMALLEST CHOICE COMES BACK TO THE SAME BYTES
pub comes_back : (from to : Format) (text : List ℕ) (job : Job) → IsText from text job → job.header.choice ≡ Smallest
    → (out back : List ℕ) → length out + length (smallest_bytes from) ≡ length text + length (smallest_bytes to) → length back ≡ length text
    → ComesBack from to text out back
comes_back from to text job is smallest out back fits fits-back =
    let there = left from to text job is smallest out fits in
    let other = same_job from to text job is smallest in
    let room : length back + length (smallest_bytes to) ≡ length (converted from to text) + length (smallest_bytes from) = rw fits-back (sym (long from to text job is smallest)) in
    record {
      forth = accepted from to text job is smallest out fits;
      back = rw there (accepted to from (converted from to text) job other smallest back room);
      same = rw there (left to from (converted from to text) job other smallest back room ∙ made to from (converted from to text) job other smallest ∙ sym is.bytes);
    }

-- "Archived J texts, all from before S-2, convert to N with s and back to the same bytes" ..
pub archived_comes_back : (text : List ℕ) (job : Job) → IsText J text job → (out back : List ℕ) → length out ≡ length text + 2 → length back ≡ length text → ComesBack J N text out back
archived_comes_back text job is out back fits = comes_back J N text job is is.types.header.choice out back (omega arith)

-- .. AND EVERY N TEXT WITH s GOES BACK TO J AND COMES TO N AGAIN
pub named_comes_back : (text : List ℕ) (job : Job) → IsText N text job → job.header.choice ≡ Smallest → (out back : List ℕ) → length out + 2 ≡ length text → length back ≡ length text → ComesBack N J text out back
named_comes_back text job is smallest out back fits = comes_back N J text job is smallest out back (omega arith)

-- ---- refusals
module _ (from to : Format) (text out : List ℕ) where
  -- 1 EXACTLY WHERE THE TEXT IS NO JOB'S OF THE FORMAT
  pub one_exactly : (conversion from to text out ≡ Err TextIsNoJob) ↔ ((job : Job) → IsText from text job → ⊥)
  one_exactly = (only, λ none_is. always none_is (parse from text) refl)
    where
      other : (smallest fits : Bool) → unless smallest (Err CannotGoBack) (unless fits (Err WrongLength) (Ok tt)) ≡ Err TextIsNoJob → ⊥
      other false fits e = let z : ◌≡◌ {A = ℕ} 0 1 = cc in omega arith
      other true false e = let z : ◌≡◌ {A = ℕ} 0 1 = cc in omega arith
      other true true e = let z : ◌≡◌ {A = ℕ} 0 1 = cc in omega arith

      only : conversion from to text out ≡ Err TextIsNoJob → (job : Job) → IsText from text job → ⊥
      only e job is = other (is_smallest job.header.choice) (eqb (length out + length (smallest_bytes from)) (length text + length (smallest_bytes to))) (rw (parse_text from text job is) at e)

      always : ((job : Job) → IsText from text job → ⊥) → (o : Option Job) → parse from text ≡ o → conversion from to text out ≡ Err TextIsNoJob
      always none_is (some job) e = absurd (none_is job (text_parsed from text job e))
      always none_is none e = rw e

  -- 14 FOR EVERY TEXT WITH b, also where the output's length is wrong
  pub fourteen : (job : Job) → IsText from text job → job.header.choice ≡ Binomial → conversion from to text out ≡ Err CannotGoBack
  fourteen job is b = rw (parse_text from text job is) (rw b)

  -- 9 FOR EVERY OTHER LENGTH
  pub nine : (job : Job) → IsText from text job → job.header.choice ≡ Smallest → (length out + length (smallest_bytes from) ≡ length text + length (smallest_bytes to) → ⊥) → conversion from to text out ≡ Err WrongLength
  nine job is smallest wrong = rw (parse_text from text job is) (rw (smallest, ne_eqb _ _ wrong))
