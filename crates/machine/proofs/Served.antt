-- What a call does at a place with the invariant: its answer, and that it keeps the invariant. Assumes nothing.
use mathlib.Core.Path.{◌≡◌, refl, ◌∙◌, ap}
use mathlib.Core.Bool.{true, false}
use mathlib.Core.Logic.{◌⊎◌}
use Prim.Native.Nat.{ℕ}
use Rattle.limits.specs.declared.ErrorCode.{ErrorCode}
use Rattle.machine.specs.declared.Slot.{Slot}
use Rattle.machine.specs.Calls.{Call, Result, call_of}
use Rattle.machine.specs.History.{Place, next, event_of, accepts, serves, ends, held, one_for_tick}
use Rattle.machine.specs.Demand.{answer_at, lent_after, lent_to}
use Rattle.machine.proofs.Invariant.{Invariant, Change}
use Rattle.machine.proofs.Quiet.{quiet}
use Rattle.std.specs.Prelude.{Err}
use Rattle.machine.specs.Answers.{Answered}

-- what a call does to the slots: nothing, or it sets one, for a job that it starts, serves or ends
pub data Effect (p : Place) (c : Call) : Type 0 where
  still : accepts (answer_at p c) ≡ false → (next p c).service ≡ p.service → Effect p c
  sets : (i m : ℕ) (s : Slot) → Change p c i m s
      → (held p.history m ≡ false) ⊎ ((ends (event_of p c) m ≡ true) ⊎ (serves (event_of p c) m ≡ true)) → Effect p c

-- what a call answers at a place with the invariant, and what it leaves
pub record Served (p : Place) (c : Call) (answer : Answered) : Type 0 where
  pub answered : answer_at p c ≡ answer
  pub keeps : Invariant (next p c)
  pub effect : Effect p c
  -- only a tick moves the slot last served
  pub turn : one_for_tick c ≡ 0 → (next p c).service.served ≡ p.service.served
  pub unchanged : accepts (answer_at p c) ≡ false → ((next p c).service ≡ p.service) × ((next p c).store ≡ p.store) × (lent_after p c ≡ lent_to c)

-- a call that leaves all as it was
pub idle_call : (p : Place) → Invariant p → (c : Call) (answer : Answered) → accepts answer ≡ false
    → call_of p.rules p.service p.store c ≡ record { answer = answer; service = p.service; store = p.store; lent = lent_to c } → Served p c answer
idle_call p v c answer a r =
    record {
      answered = ap (λ (r : Result). r.answer) r;
      keeps = quiet p v c (ap (λ (r : Result). accepts r.answer) r ∙ a) (ap (λ (r : Result). r.service) r) (ap (λ (r : Result). r.store) r);
      effect = still (ap (λ (r : Result). accepts r.answer) r ∙ a) (ap (λ (r : Result). r.service) r);
      turn = λ t. ap (λ (r : Result). r.service.served) r;
      unchanged = λ x. (ap (λ (r : Result). r.service) r, ap (λ (r : Result). r.store) r, ap (λ (r : Result). r.lent) r);
    }

pub refused_call : (p : Place) → Invariant p → (c : Call) (code : ErrorCode)
    → call_of p.rules p.service p.store c ≡ record { answer = Err code; service = p.service; store = p.store; lent = lent_to c } → Served p c (Err code)
refused_call p v c code r = idle_call p v c (Err code) refl r
