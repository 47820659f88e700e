-- What a caller sees of an answer tells the answer: a refusal by its number, and a job by its own, which is never 0. Assumes
-- nothing.
use mathlib.Core.Path.{◌≡◌, refl, sym, ◌∙◌, ap}
use mathlib.Core.Bool.{Bool, true, false}
use mathlib.Core.List.{List, [], ◌∷◌}
use Prim.Native.Nat.{ℕ, ◌+◌, ◌<◌}
use native.Mathlib.Omega.{arith}
use borrow.Author.Tests.{ne_eqb}
use lib.Dec.{eqb}
use lib.ListN.{length}
use Rattle.limits.specs.Limits.{fills_picture}
use Rattle.limits.specs.Errors.{number_of, Check, ◌otherwise◌, first_refusal}
use Rattle.limits.specs.declared.ErrorCode.{ErrorCode}
use Rattle.limits.specs.declared.ErrorCode.TheVariants.{TextIsNoJob, RecordOutOfOrder, VarianceOutOfRange, NotADirection, StepsOutOfRange, SideOutOfRange, NoSuchJob, StepsAreLeft, WrongLength, TooManyPixels, NoKernel, NoFreeBuffers, NumbersUsedUp, CannotGoBack}
use Rattle.machine.specs.Answers.{answer_number}
use Rattle.machine.specs.Calls.{Call, submit, tick, collect, withdraw}
use Rattle.machine.specs.History.{Place, job_of, held, steps_left, job_count}
use Rattle.machine.specs.Demand.{number_unless, submit_outcome, answer_at}
use Rattle.machine.proofs.Invariant.{Invariant}
use Rattle.machine.proofs.Submits.{submits}
use Rattle.machine.proofs.Ticks.{Ticked, idled, served, ticked}
use Rattle.machine.proofs.Ends.{withdraws, collects}
use Rattle.word_calls.specs.Exported.{number_after}
use Rattle.word_calls.specs.Lists.{error_numbered, answer_seen}
use Rattle.std.specs.Prelude.{Ok, Err}
use Rattle.limits.specs.Errors.{Outcome}
use Rattle.machine.specs.declared.Answer.TheVariants.{Job, Idle}
use Rattle.machine.specs.Answers.{Answered}

-- the code of each of the fourteen refusals tells it
pub refusal_told : (code : ErrorCode) (number : ℕ) → answer_seen (number_of code) number ≡ Err code
unfolding error_numbered answer_seen
refusal_told TextIsNoJob number = refl
refusal_told RecordOutOfOrder number = refl
refusal_told VarianceOutOfRange number = refl
refusal_told NotADirection number = refl
refusal_told StepsOutOfRange number = refl
refusal_told SideOutOfRange number = refl
refusal_told NoSuchJob number = refl
refusal_told StepsAreLeft number = refl
refusal_told WrongLength number = refl
refusal_told TooManyPixels number = refl
refusal_told NoKernel number = refl
refusal_told NoFreeBuffers number = refl
refusal_told NumbersUsedUp number = refl
refusal_told CannotGoBack number = refl

pub answer_told : (a : Answered) (number : ℕ) → (a ≡ Ok (Job 0) → ⊥) → answer_seen (answer_number a) (number_after a number) ≡ a
unfolding answer_seen
answer_told (Ok (Job n)) number some = rw (ne_eqb n 0 (λ (e : n ≡ 0). some (ap (λ n. Ok (Job n)) e)))
answer_told (Ok Idle) number some = refl
answer_told (Err code) number some = refusal_told code number

-- ---- no answer is the job 0
unless_some : (o : Outcome) (n : ℕ) → 0 < n → number_unless o n ≡ Ok (Job 0) → ⊥
unless_some (Ok done) n h e = let z : n ≡ 0 = cc in omega arith
unless_some (Err code) n h e = let z : ◌≡◌ {A = ℕ} 0 1 = cc in omega arith

module _ (p : Place) (v : Invariant p) where
  -- of a collect or a withdraw, whose first check is that the job is held
  held_some : (n : ℕ) (rest : List Check) (t : Bool) → held p.history n ≡ t
      → number_unless (first_refusal ((t otherwise NoSuchJob) ∷ rest)) n ≡ Ok (Job 0) → ⊥
  held_some n rest true h e = unless_some (first_refusal rest) n (v.placed n h).3 e
  held_some n rest false h e = let z : ◌≡◌ {A = ℕ} 0 1 = cc in omega arith

  tick_some : Ticked p v → answer_at p tick ≡ Ok (Job 0) → ⊥
  tick_some (idled e s none) a = let w = s.answered in let z : ◌≡◌ {A = ℕ} 0 1 = cc in omega arith
  tick_some (served i n e h s u l t d) a = let w = d.answered in let x = s.positive in let z : n ≡ 0 = cc in omega arith

  pub some_job : (c : Call) → answer_at p c ≡ Ok (Job 0) → ⊥
  some_job (submit choice shape k w h pixels) e =
      unless_some (submit_outcome p.rules p.history shape k w h pixels) (job_count p.history + 1) (omega arith)
      (sym (submits p v choice shape k w h pixels).answered ∙ e)
  some_job tick e = tick_some (ticked p v) e
  some_job (collect n lent) e =
      held_some n
      ((eqb (steps_left p.history n) 0 otherwise StepsAreLeft)
      ∷ (fills_picture (length lent) (job_of p.history n).width (job_of p.history n).height otherwise WrongLength)
      ∷ [])
      (held p.history n) refl (sym (collects p v n lent).answered ∙ e)
  some_job (withdraw n) e = held_some n [] (held p.history n) refl (sym (withdraws p v n).answered ∙ e)
