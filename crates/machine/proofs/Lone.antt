-- A service opened for one job only: its submit and its ticks are all accepted, and its collect hands over the picture after
-- its steps. Assumes nothing.
use mathlib.Core.Path.{◌≡◌, refl, ◌∙◌, ap}
use mathlib.Core.Bool.{true, ◌&&◌}
use mathlib.Core.List.{List, [], ◌∷◌}
use Prim.Native.Nat.{ℕ, zero, suc, ◌+◌, ◌-◌, ◌*◌, ◌≤◌, ◌<◌}
use native.Mathlib.Nat.{add-zero}
use native.Mathlib.Omega.{arith}
use borrow.Author.Tests.{eq-eqb, lt-ltb}
use lib.Dec.{eqb}
use lib.ListN.{length, replicate}
use Rattle.kernel.specs.declared.Choice.{Choice}
use Rattle.machine.specs.Rules.{Rules}
use Rattle.machine.specs.Store.{store_length, Workable}
use Rattle.machine.specs.Calls.{Call, submit, tick, collect}
use Rattle.machine.specs.History.{Place, calling, opened, next, event_of, after, accepts, answers_number, Submitted, alone_after, job_of, held, ticks_of, steps_left, given_by, numbers, how_many, job_count}
use Rattle.machine.specs.Demand.{submit_outcome, answer_at, lent_after, lone_calls, all_accepted}
use Rattle.machine.proofs.Words.{kept_held, kept_job, served_ticks, started_held, started_job, started_ticks}
use Rattle.machine.proofs.Invariant.{Invariant, JobFine}
use Rattle.machine.proofs.Submits.{submits}
use Rattle.machine.proofs.Ticks.{Ticked, idled, served, ticked}
use Rattle.machine.proofs.Ends.{collects, hands_over}
use Rattle.machine.proofs.Lists.{opened_invariant, next_invariant}
use Rattle.std.specs.Prelude.{Ok}
use Rattle.machine.specs.declared.Answer.TheVariants.{Job}

-- job 1 alone, after so many ticks
record Lone (p : Place) (j : Submitted) (t : ℕ) : Type 0 where
  holds : Invariant p
  jobs : job_count p.history ≡ 1
  is_held : held p.history 1 ≡ true
  job : job_of p.history 1 ≡ j
  ticks : ticks_of p.history 1 ≡ t
  accepted : all_accepted p.history ≡ true

module _ (j : Submitted) (fine : JobFine j) where
  abbrev rules : Rules
  rules = j.rules

  abbrev workable : Workable rules
  workable = fine.workable

  abbrev first : Call
  first = submit j.choice j.shape j.steps j.width j.height j.picture

  outcome : submit_outcome rules [] j.shape j.steps j.width j.height j.picture ≡ Ok tt
  unfolding numbers how_many
  outcome = rw (fine.variances, fine.direction, fine.steps, fine.sides, eq-eqb (length j.picture) (j.width * j.height) fine.full, fine.fits, fine.kernel, lt-ltb 0 rules.slot_count workable.some_slot)

  module _ (store : List ℕ) (long : length store ≡ store_length) where
    answered : answer_at (opened rules store) first ≡ Ok (Job 1)
    unfolding numbers
    answered =
        (submits (opened rules store) (opened_invariant rules workable store long) j.choice j.shape j.steps j.width j.height j.picture).answered
        ∙ rw outcome

    starts_it : answers_number (answer_at (opened rules store) first) 1 ≡ true
    starts_it = ap (λ a. answers_number a 1) answered

    one_number : numbers (next (opened rules store) first).history ≡ 1 ∷ []
    unfolding numbers
    one_number = ap (λ a. given_by first a []) answered

    all_accepted_lem : all_accepted (next (opened rules store) first).history ≡ true
    unfolding all_accepted
    all_accepted_lem = ap (λ a. accepts a && true) answered

    -- the job as it is submitted there, by whichever choice
    abbrev with_own : Choice → Submitted
    with_own choice =
        record {
          rules = j.rules;
          choice = choice;
          shape = j.shape;
          steps = j.steps;
          width = j.width;
          height = j.height;
          picture = j.picture;
        }

    start : Lone (next (opened rules store) first) j 0
    start =
        record {
          holds = next_invariant (opened rules store) (opened_invariant rules workable store long) first;
          jobs = ap length one_number;
          is_held = started_held (event_of (opened rules store) first) [] 1 starts_it;
          job = started_job (event_of (opened rules store) first) [] 1 starts_it ∙ ap with_own fine.choice;
          ticks = started_ticks (event_of (opened rules store) first) [] 1 starts_it;
          accepted = all_accepted_lem;
        }

  -- one tick more
  module _ (p : Place) (t : ℕ) (l : Lone p j t) (some : t < j.steps) where
    left_is : steps_left p.history 1 ≡ j.steps - t
    left_is = rw (l.job, l.ticks)

    ticked_it : Ticked p l.holds → answer_at p tick ≡ Ok (Job 1)
    ticked_it (idled e s none) = absurd (let z = none 1 l.is_held in let y = left_is in omega arith)
    ticked_it (served i n e h s u g turn done) =
        done.answered ∙ ap (λ n. Ok (Job n)) (let a = s.known in let b = s.positive in let y : n ≡ 1 = omega (arith, l.jobs) in y)

    answer : answer_at p tick ≡ Ok (Job 1)
    answer = ticked_it (ticked p l.holds)

    same_numbers : numbers (next p tick).history ≡ numbers p.history
    unfolding numbers
    same_numbers = refl

    still_accepted : all_accepted (next p tick).history ≡ true
    unfolding all_accepted
    still_accepted = rw (ap accepts answer) l.accepted

    one_more : Lone (next p tick) j (t + 1)
    one_more =
        record {
          holds = next_invariant p l.holds tick;
          jobs = ap length same_numbers ∙ l.jobs;
          is_held = kept_held (event_of p tick) p.history 1 refl refl ∙ l.is_held;
          job = kept_job (event_of p tick) p.history 1 refl ∙ l.job;
          ticks = served_ticks (event_of p tick) p.history 1 refl (ap (λ a. answers_number a 1) answer) ∙ ap (λ x. x + 1) l.ticks;
          accepted = still_accepted;
        }

  all_ticks : (m : ℕ) (p : Place) (t : ℕ) → Lone p j t → t + m ≤ j.steps → Lone (after p (replicate m (calling tick))) j (t + m)
  unfolding after
  all_ticks zero p t l h = rw (add-zero t) l
  all_ticks (suc m) p t l h = rw (same t m) (all_ticks m (next p tick) (t + 1) (one_more p t l (omega arith)) (omega arith))
    where
      same : (t m : ℕ) → t + suc m ≡ t + 1 + m
      same t m = omega arith

  module _ (store : List ℕ) (long : length store ≡ store_length) where
    abbrev end : Place
    end = after (opened rules store) (lone_calls j)

    finished : Lone end j (0 + j.steps)
    unfolding after
    finished = all_ticks j.steps (next (opened rules store) first) 0 (start store long) (omega arith)

    pub lone_accepted : all_accepted end.history ≡ true
    lone_accepted = finished.accepted

    module _ (mine : List ℕ) (size : length mine ≡ j.width * j.height) where
      left_none : eqb (steps_left end.history 1) 0 ≡ true
      left_none = rw (finished.job, finished.ticks) (eq-eqb (j.steps - (0 + j.steps)) 0 (omega arith))

      pub lone_answer : answer_at end (collect 1 mine) ≡ Ok (Job 1)
      lone_answer =
          (collects end finished.holds 1 mine).answered
          ∙ rw (finished.is_held, left_none, finished.job, eq-eqb (length mine) (j.width * j.height) size)

      pub lone_picture : lent_after end (collect 1 mine) ≡ alone_after j j.steps
      lone_picture = (hands_over end finished.holds 1 mine lone_answer).0 ∙ rw finished.job
