-- A call that accepts nothing, refused or idle, keeps the invariant: it touches no job, and the record and the store are as
-- they were. Assumes nothing.
use mathlib.Core.Path.{◌≡◌, sym, ◌∙◌, ap}
use mathlib.Core.Bool.{false}
use mathlib.Core.Logic.{inl, inr}
use Prim.Native.Nat.{ℕ}
use native.Mathlib.Nat.{le_of_eq}
use lib.ListN.{length}
use Rattle.machine.specs.declared.Slot.{Slot}
use Rattle.machine.specs.Slots.{slot_at}
use Rattle.machine.specs.Calls.{Call}
use Rattle.machine.specs.History.{Place, next, event_of, accepts, job_count}
use Rattle.machine.specs.Demand.{countdown}
use Rattle.machine.proofs.Words.{untouched_by, same_held, same_numbers, same_held_count}
use Rattle.machine.proofs.Invariant.{Invariant, Taken, sits_still}

module _ (p : Place) (v : Invariant p) (c : Call) (no_answer : accepts (event_of p c).answer ≡ false)
    (same-service : (next p c).service ≡ p.service) (same_store : (next p c).store ≡ p.store) where
  same_jobs : job_count (next p c).history ≡ job_count p.history
  same_jobs = ap length (same_numbers (event_of p c) p.history no_answer)

  takes : (i : ℕ) (s : Slot) → Taken p.rules p.history p.store i s → Taken p.rules (next p c).history (next p c).store i s
  takes i s (inl e) = inl e
  takes i s (inr w) =
      inr (
        w.0,
        sits_still p.rules v.workable (event_of p c) p.history p.store (next p c).store i w.0 s (untouched_by (event_of p c) no_answer w.0)
            (le_of_eq (sym same_jobs)) (λ a k x y. rw same_store) w.1,
      )

  pub quiet : Invariant (next p c)
  quiet =
      record {
        workable = v.workable;
        as_many = rw same-service v.as_many;
        long = rw same_store v.long;
        filled = rw same-service v.filled;
        served = rw same-service v.served;
        last = rw same-service (v.last ∙ sym same_jobs);
        given = same_numbers (event_of p c) p.history no_answer ∙ v.given ∙ ap countdown (sym same_jobs);
        taken = λ i h. rw same-service (takes i (slot_at p.service i) (v.taken i h));
        placed = λ n h. rw same-service (v.placed n (sym (same_held (event_of p c) p.history n (untouched_by (event_of p c) no_answer n)) ∙ h));
        once = rw same-service v.once;
        counted = rw same-service (v.counted ∙ sym (same_held_count (event_of p c) p.history no_answer));
      }
