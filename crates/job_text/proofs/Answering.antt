-- What the parser left in the first picture, and what the answer is then. Assumes nothing.
use mathlib.Core.Path.{◌≡◌, refl, sym, ap, ◌∙◌}
use mathlib.Core.List.{List, ◌++◌}
use mathlib.Core.Option.{Option, some, none}
use Prim.Native.Nat.{ℕ, ◌*◌, ◌≤◌, ◌<◌}
use native.Mathlib.Nat.{zero-add}
use native.Mathlib.Omega.{arith}
use borrow.Author.Tests.{le-leb, lt-leb}
use lib.ListN.{length, take, drop, length-append}
use lib.Seq.{take_at}
use Rattle.std.specs.Prelude.{Some, None, Result, Ok, Err}
use Rattle.std.specs.Result.{result_unwrap_or}
use Rattle.limits.specs.declared.ErrorCode.{ErrorCode}
use Rattle.limits.specs.declared.ErrorCode.TheVariants.{TextIsNoJob, WrongLength}
use Rattle.job_printer.specs.Buffers.{written, Printed}
use Rattle.job_printer.specs.declared.printer.Printer.{Printer}
use Rattle.job_printer.specs.Lines.{refusal_text}
use Rattle.job_parser.specs.Job.{Job}
use Rattle.job_parser.specs.Parsing.{parse}
use Rattle.job_parser.specs.declared.Format.TheVariants.{N}
use Rattle.job_parser.specs.Found.{job_of}
use Rattle.job_parser.specs.Pictures.{most_pixels}
use Rattle.job_parser.specs.declared.Header.{Header}
use Rattle.job_parser.proofs.Parsing.{text_parsed}
use Rattle.job_parser.proofs.Bounds.{picture_fits}
use Rattle.job_text.specs.Answer.{job_answer, answer_text, most_bytes, answered}

-- a buffer from its start on
written_start : (l vs : List ℕ) → written l 0 vs ≡ vs ++ drop (length vs) l
unfolding written
written_start l vs = rw zero-add

-- a text is a job with this line one, and its pixels stand at the front of a picture
pub record Left (text exit : List ℕ) (h : Header) : Type 0 where
  pub answer : answer_text text ≡ job_answer h (take (h.width * h.height) exit)
  pub inside : h.width * h.height ≤ length exit
  pub fits : h.width * h.height ≤ most_pixels

pub left : (text entry exit : List ℕ) (h : Header) → job_of (parse N text) ≡ Some h
    → ((job : Job) → parse N text ≡ some job → exit ≡ written entry 0 job.pixels) → Left text exit h
unfolding answer_text job_of
left text entry exit h is stored = go (parse N text) refl
  where
    go : (o : Option Job) → parse N text ≡ o → Left text exit h
    go (some job) e =
        let same : job.header ≡ h = let found : Some job.header ≡ Some h = rw e at is in cc in
        let text_is = text_parsed N text job e in
        let count : length job.pixels ≡ h.width * h.height = rw same at text_is.types.count in
        let front : take (h.width * h.height) exit ≡ job.pixels = rw (stored job e, written_start) (take_at job.pixels (drop (length job.pixels) entry) (h.width * h.height) count) in
        record { answer = rw (e, front, same); inside = rw (stored job e, written_start, length-append) (omega arith); fits = omega (arith, picture_fits N text job text_is) }
    go none e = let found : None ≡ Some h = rw e at is in let z : ◌≡◌ {A = ℕ} 0 1 = cc in absurd (omega arith)

-- a text that is no job
pub no_job_text : (text : List ℕ) → job_of (parse N text) ≡ None → refusal_text TextIsNoJob ≡ answer_text text
unfolding answer_text job_of
no_job_text text is = go (parse N text) refl
  where
    go : (o : Option Job) → parse N text ≡ o → refusal_text TextIsNoJob ≡ answer_text text
    go (some job) e = let found : Some job.header ≡ None = rw e at is in let z : ◌≡◌ {A = ℕ} 0 1 = cc in absurd (omega arith)
    go none e = rw e

-- what a call answers and leaves
module _ (text out : List ℕ) where
  pub no_room : length out < most_bytes → (Err WrongLength ≡ (answered text out).answer) × (out ≡ (answered text out).out)
  unfolding answered
  no_room h = rw (lt-leb most_bytes (length out) h) (refl, refl)

  pub with_room : most_bytes ≤ length out
      → ((answered text out).answer ≡ Ok (length (answer_text text))) × ((answered text out).out ≡ answer_text text ++ drop (length (answer_text text)) out)
  unfolding answered
  with_room h = rw (le-leb most_bytes (length out) h) (refl, refl)

  pub room : (start end : Printer) → start.at ≡ 0 → start.out.now ≡ out → most_bytes ≤ length out → Printed start (answer_text text) end
      → (Ok end.at ≡ (answered text out).answer) × (end.out.now ≡ (answered text out).out)
  room start end begins lent h p =
      let a = with_room h in
      let w = rw (begins, lent) at p.wrote in
      (ap (λ n. Ok n) (w.ends ∙ zero-add (length (answer_text text))) ∙ sym a.0, w.is ∙ written_start out (answer_text text) ∙ sym a.1)

-- what a caller with room finds in its buffer
pub record Given (text exit : List ℕ) (n : ℕ) : Type 0 where
  pub front : take n exit ≡ answer_text text
  pub inside : n ≤ length exit

module _ (text out exit : List ℕ) (h : most_bytes ≤ length out) (left_is : exit ≡ (answered text out).out) where
  pub given : (n : ℕ) → Ok n ≡ (answered text out).answer → Given text exit n
  given n e =
      let a = with_room text out h in
      let both : Ok n ≡ Ok (length (answer_text text)) = e ∙ a.0 in
      let size : n ≡ length (answer_text text) = cc in
      let whole = left_is ∙ a.1 in
      record { front = rw (whole, size) (take_at (answer_text text) (drop (length (answer_text text)) out) (length (answer_text text)) refl); inside = rw (whole, length-append) (omega arith) }

  pub not_refused : (code : ErrorCode) → Err code ≡ (answered text out).answer → ⊥
  not_refused code e =
      let both : Err code ≡ Ok (length (answer_text text)) = e ∙ (with_room text out h).0 in
      let z : ◌≡◌ {A = ℕ} 0 1 = cc in
      omega arith

  -- the length that a caller takes
  pub given_or : (r : Result ℕ ErrorCode) → r ≡ (answered text out).answer → Given text exit (result_unwrap_or r 0)
  given_or (Ok n) e = given n e
  given_or (Err code) e = absurd (not_refused code e)
