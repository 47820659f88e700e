-- Words that hold a record hold, after an answer, the record after it. Assumes nothing.
use mathlib.Core.Path.{◌≡◌, sym, ◌∙◌}
use mathlib.Core.Bool.{true}
use mathlib.Core.List.{List}
use Prim.Native.Nat.{ℕ}
use Rattle.machine.specs.declared.Service.{Service}
use Rattle.machine.specs.Rules.{Rules}
use Rattle.record_words.specs.Words.{fields_fit, service_of}
use Rattle.record_words.proofs.Laws.{fit_length}
use Rattle.record_words.proofs.ReadBack.{Fits, read_back, written_fits}
use Rattle.word_calls.specs.Exported.{words_after}
use Rattle.std.specs.Prelude.{Ok, Err}
use Rattle.machine.specs.declared.Answer.TheVariants.{Job, Idle}
use Rattle.machine.specs.Answers.{Answered}

-- words that hold this record
pub record Holds (rules : Rules) (words : List ℕ) (r : Service) : Type 0 where
  pub fit : fields_fit rules words ≡ true
  pub held : service_of rules words ≡ r

-- a record is answered with a job, or it stays as it was
abbrev pub Carried : Rules → Answered → Service → Service → Type 0
Carried rules (Ok (Job n)) r after = Fits rules after
Carried rules (Ok Idle) r after = after ≡ r
Carried rules (Err code) r after = after ≡ r

pub after_answer : (rules : Rules) (answer : Answered) (r after : Service) (words : List ℕ) → Holds rules words r → Carried rules answer r after
    → Holds rules (words_after rules answer after words) after
after_answer rules (Ok (Job n)) r after words h kept =
    let long = fit_length rules words h.fit in
    record { fit = written_fits rules after words long kept; held = read_back rules after words long kept }
after_answer rules (Ok Idle) r after words h kept = record { fit = h.fit; held = h.held ∙ sym kept }
after_answer rules (Err code) r after words h kept = record { fit = h.fit; held = h.held ∙ sym kept }
