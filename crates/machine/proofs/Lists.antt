-- The invariant holds at the opening and after every list of calls; a number is never given again, so what a job was stays,
-- and a finished job stays finished. Assumes nothing.
use mathlib.Core.Path.{◌≡◌, refl, sym, ◌∙◌, ap}
use mathlib.Core.Bool.{false, not, true≢false}
use mathlib.Core.Logic.{inl}
use mathlib.Core.List.{List, [], ◌∷◌}
use Prim.Native.Nat.{ℕ, zero, suc, ◌+◌, ◌-◌, ◌≤◌, ◌<◌}
use native.Mathlib.Nat.{le_trans, le_of_eq}
use native.Mathlib.Omega.{arith}
use borrow.Author.Tests.{ne_eqb}
use lib.ListN.{length, get_or, replicate, length-replicate}
use Rattle.machine.specs.Rules.{Rules}
use Rattle.machine.specs.Slots.{empty_slot, is_empty}
use Rattle.machine.specs.Store.{store_length, Workable}
use Rattle.machine.specs.Calls.{Call, submit, tick, collect, withdraw}
use Rattle.machine.specs.History.{Place, Entry, calling, changing, opened, next, event_of, onward, after, answers_number, starts, held, steps_left, numbers, how_many, job_count}
use Rattle.machine.specs.Demand.{number_unless, submit_outcome, submit_answer, withdraw_answer, collect_answer}
use Rattle.machine.proofs.Words.{same_numbers, kept_job, more_ticks}
use Rattle.machine.proofs.Invariant.{Invariant, count_none}
use Rattle.machine.proofs.Changes.{same_history, same_size, same_buffers, change_keeps}
use Rattle.machine.proofs.Served.{Served, Effect, still, sets}
use Rattle.machine.proofs.Submits.{submits}
use Rattle.machine.proofs.Ticks.{Ticked, idled, served, ticked}
use Rattle.machine.proofs.Ends.{withdraws, collects}
use Rattle.std.specs.Prelude.{Ok, Err}
use Rattle.limits.specs.Errors.{Outcome}
use Rattle.machine.specs.declared.Answer.TheVariants.{Job, Idle}
use Rattle.machine.specs.Answers.{Answered}

-- every call, by what it is
pub answers : (p : Place) → Invariant p → (c : Call) → (a : Answered) × Served p c a
answers p v (submit choice shape k w h pixels) = (submit_answer p.rules p.history shape k w h pixels, submits p v choice shape k w h pixels)
answers p v tick = go (ticked p v)
  where
    go : Ticked p v → (a : Answered) × Served p tick a
    go (idled e s n) = (Ok Idle, s)
    go (served i n e h s x l t d) = (Ok (Job n), d)
answers p v (collect n lent) = (collect_answer p.history n lent, collects p v n lent)
answers p v (withdraw n) = (withdraw_answer p.history n, withdraws p v n)

pub next_invariant : (p : Place) → Invariant p → (c : Call) → Invariant (next p c)
next_invariant p v c = (answers p v c).1.keeps

pub onward_invariant : (p : Place) → Invariant p → (e : Entry) → Invariant (onward p e)
onward_invariant p v (calling c) = next_invariant p v c
onward_invariant p v changing = change_keeps p v

pub after_invariant : (es : List Entry) (p : Place) → Invariant p → Invariant (after p es)
unfolding after
after_invariant [] p v = v
after_invariant (e ∷ es) p v = after_invariant es (onward p e) (onward_invariant p v e)

-- no call changes the rules, and the change-over none of their numbers
pub onward_numbers : (p : Place) (e : Entry)
    → ((onward p e).rules.slot_count ≡ p.rules.slot_count) × ((onward p e).rules.buffers_per_slot ≡ p.rules.buffers_per_slot)
onward_numbers p (calling c) = (refl, refl)
onward_numbers p changing = (same_size p, same_buffers p)

pub after_numbers : (es : List Entry) (p : Place)
    → ((after p es).rules.slot_count ≡ p.rules.slot_count) × ((after p es).rules.buffers_per_slot ≡ p.rules.buffers_per_slot)
unfolding after
after_numbers [] p = (refl, refl)
after_numbers (e ∷ es) p =
    let w = after_numbers es (onward p e) in
    let o = onward_numbers p e in
    (w.0 ∙ o.0, w.1 ∙ o.1)

empty_at : (n i : ℕ) → get_or (replicate n empty_slot) i empty_slot ≡ empty_slot
empty_at zero i = refl
empty_at (suc n) zero = refl
empty_at (suc n) (suc i) = empty_at n i

pub opened_invariant : (rules : Rules) → Workable rules → (store : List ℕ) → length store ≡ store_length → Invariant (opened rules store)
unfolding numbers held how_many
opened_invariant rules workable store e =
    let last : rules.slot_count - 1 < rules.slot_count = let some = workable.some_slot in omega arith in
    record {
      workable = workable;
      as_many = length-replicate rules.slot_count empty_slot;
      long = e;
      filled = last;
      served = last;
      last = refl;
      given = refl;
      taken = λ i h. inl (empty_at rules.slot_count i);
      placed = λ n h. absurd (true≢false (sym h));
      once = λ i j hi hj g x. absurd (let z : 0 < 0 = rw (empty_at rules.slot_count i) at g in omega arith);
      counted = count_none (λ s. not (is_empty s)) (replicate rules.slot_count empty_slot) rules.slot_count (λ i h. rw (empty_at rules.slot_count i));
    }

-- ---- numbers are never given again
unless_other : (o : Outcome) (n m : ℕ) → (m ≡ n → ⊥) → answers_number (number_unless o m) n ≡ false
unless_other (Ok done) n m ne = ne_eqb m n ne
unless_other (Err code) n m ne = refl

pub not_restarted : (p : Place) → Invariant p → (c : Call) (n : ℕ) → n ≤ job_count p.history → starts (event_of p c) n ≡ false
not_restarted p v (submit choice shape k w h pixels) n l =
    ap (λ a. answers_number a n) (submits p v choice shape k w h pixels).answered ∙ unless_other (submit_outcome p.rules p.history shape k w h pixels) n (job_count p.history + 1) (λ e. omega arith)
not_restarted p v tick n l = refl
not_restarted p v (collect m lent) n l = refl
not_restarted p v (withdraw m) n l = refl

pub jobs_grow : (p : Place) → Invariant p → (c : Call) → job_count p.history ≤ job_count (next p c).history
jobs_grow p v c = go (answers p v c).1.effect
  where
    go : Effect p c → job_count p.history ≤ job_count (next p c).history
    go (still a s) = le_of_eq (sym (ap length (same_numbers (event_of p c) p.history a)))
    go (sets i m s u t) = u.grows

pub jobs_grow_on : (p : Place) → Invariant p → (e : Entry) → job_count p.history ≤ job_count (onward p e).history
jobs_grow_on p v (calling c) = jobs_grow p v c
jobs_grow_on p v changing = le_of_eq (sym (ap job_count (same_history p)))

pub left_falls : (p : Place) → Invariant p → (c : Call) (n : ℕ) → n ≤ job_count p.history → steps_left (next p c).history n ≤ steps_left p.history n
left_falls p v c n l =
    let s = not_restarted p v c n l in
    let m = more_ticks (event_of p c) p.history n s in
    rw (kept_job (event_of p c) p.history n s) (omega arith)

pub left_falls_on : (p : Place) → Invariant p → (e : Entry) (n : ℕ) → n ≤ job_count p.history → steps_left (onward p e).history n ≤ steps_left p.history n
left_falls_on p v (calling c) n l = left_falls p v c n l
left_falls_on p v changing n l = le_of_eq (ap (λ es. steps_left es n) (same_history p))

pub stays_finished : (es : List Entry) (p : Place) → Invariant p → (n : ℕ) → n ≤ job_count p.history → steps_left p.history n ≡ 0
    → steps_left (after p es).history n ≡ 0
unfolding after
stays_finished [] p v n l z = z
stays_finished (e ∷ es) p v n l z =
    stays_finished es (onward p e) (onward_invariant p v e) n (le_trans l (jobs_grow_on p v e)) (let f = left_falls_on p v e n l in omega arith)
