-- Demand 3, of every list of calls, by any rules that a service can run by, and so by REFERENCE's. Assumes nothing.
use mathlib.Core.Path.{◌≡◌, sym, ◌∙◌, ap}
use mathlib.Core.Bool.{true, not}
use mathlib.Core.Logic.{◌⊎◌, inl, inr, ⊎_elim, ◌↔◌}
use mathlib.Core.List.{List}
use Prim.Native.Nat.{ℕ, ◌-◌, ◌*◌, ◌<◌}
use native.Mathlib.Omega.{arith}
use borrow.Author.Tests.{eq-eqb, eqb-true}
use Rattle.kernel.proofs.Theorems.{sound_by}
use Rattle.covariance.specs.Shapes.{covariance_xx, covariance_xy, covariance_yy}
use Rattle.averaging.specs.Distances.{Entrywise, Distance}
use Rattle.averaging.proofs.Distance.{distance}
use Rattle.machine.specs.Rules.{Rules, base_rules, choice_rules}
use Rattle.machine.specs.Slots.{is_empty, next_place}
use Rattle.machine.specs.Store.{buffer_count, Workable}
use Rattle.machine.specs.Calls.{tick, collect, free_buffers, free_count_of}
use Rattle.machine.specs.History.{Place, Entry, opened, after, since, kernel_of_job, alone_after, exact_after, Submitted, job_of, held, steps_left, finished, held_count, withdrawn_in, ticks_in}
use Rattle.machine.specs.Demand.{answer_at, handed_over, AsAlone, AtPlace, Demand3By, Opening, by_base, by_choice, Demand3}
use Rattle.machine.proofs.Search as S
use Rattle.machine.proofs.Counts.{count_le}
use Rattle.machine.proofs.Rules.{base_workable, current_workable}
use Rattle.machine.proofs.Invariant.{Invariant, size, JobFine, in_order_lem}
use Rattle.machine.proofs.Changes.{change_is}
use Rattle.machine.proofs.Submits.{submits}
use Rattle.machine.proofs.Ticks.{Ticked, idled, served, ticked}
use Rattle.machine.proofs.Ends.{seated, withdraws, collects, hands_over}
use Rattle.machine.proofs.Lists.{answers, after_invariant, opened_invariant, stays_finished}
use Rattle.machine.proofs.Lone.{lone_accepted, lone_answer, lone_picture}
use Rattle.machine.proofs.Wait.{waits}
use Rattle.std.specs.Prelude.{Ok}
use Rattle.machine.specs.declared.Answer.TheVariants.{Job, Idle}
use Rattle.machine.specs.Answers.{Answered}

idle_no_job : (n : ℕ) → ◌≡◌ {A = Answered} (Ok (Job n)) (Ok Idle) → ⊥
idle_no_job n e = let z : ◌≡◌ {A = ℕ} 0 1 = cc in omega arith

-- the lone run lies within half a unit for each step of the exact one
near_exact : (j : Submitted) → JobFine j → Entrywise (Distance (kernel_of_job j).sum j.steps) (alone_after j j.steps) (exact_after j j.steps)
near_exact j f =
    distance (kernel_of_job j) j.steps
    (sound_by j.choice (covariance_xx j.shape) (covariance_xy j.shape) (covariance_yy j.shape) j.steps f.steps f.kernel)
    j.width j.height j.picture f.full j.steps

module _ (p : Place) (v : Invariant p) where
  idle_exactly : (answer_at p tick ≡ Ok Idle) ↔ ((n : ℕ) → held p.history n ≡ true → finished p.history n ≡ true)
  idle_exactly = (only (ticked p v), always (ticked p v))
    where
      only : Ticked p v → answer_at p tick ≡ Ok Idle → (n : ℕ) → held p.history n ≡ true → finished p.history n ≡ true
      only (idled e s none) a = λ n h. eq-eqb (steps_left p.history n) 0 (none n h)
      only (served i n e h s u l t d) a = absurd (idle_no_job n (sym d.answered ∙ a))

      always : Ticked p v → ((n : ℕ) → held p.history n ≡ true → finished p.history n ≡ true) → answer_at p tick ≡ Ok Idle
      always (idled e s none) f = s.answered
      always (served i n e h s u l t d) f = absurd (let z = eqb-true (steps_left p.history n) 0 (f n s.is_held) in omega arith)

  serves_one : Ticked p v → (answer_at p tick ≡ Ok Idle) ⊎ ((n : ℕ) × (answer_at p tick ≡ Ok (Job n)) × (held p.history n ≡ true) × (0 < steps_left p.history n))
  serves_one (idled e s none) = inl s.answered
  serves_one (served i n e h s u l t d) = inr (n, d.answered, s.is_held, l)

  in_time : (n : ℕ) (entries : List Entry) → held p.history n ≡ true → ticks_in entries ≡ size p * steps_left p.history n
      → (finished (after p entries).history n ≡ true) ⊎ (withdrawn_in (since p entries) n ≡ true)
  in_time n entries h t =
      let s = seated p v n h in
      let d = S.distance (size p) (next_place (size p) p.service.served) s.at (S.next_lt (size p) p.service.served v.workable.some_slot) s.below in
      ⊎_elim (λ e. inl (eq-eqb (steps_left (after p entries).history n) 0 e)) inr
      (waits entries p v n s.at d.0
      (record { is_held = h; at = s.below; number = ap (λ x. x.number) s.sits.is; ahead = d.1; below = d.2 }) s.sits.known
      (omega (arith, d.2)))

  -- what a collect hands over, with what its job gets alone
  hands : (n : ℕ) (lent : List ℕ) → answer_at p (collect n lent) ≡ Ok (Job n) → AsAlone (job_of p.history n) (handed_over p n lent)
  hands n lent a =
      let job = job_of p.history n in
      let w = hands_over p v n lent a in
      let f = w.1.sits.fine in
      record {
        lone_run = w.0;
        within_half = rw w.0 (near_exact job f);
        lone_service =
            λ store mine long full. record {
              calls_accepted = lone_accepted job f store long;
              collect_accepted = lone_answer job f store long mine full;
              hands_over_the_same = lone_picture job f store long mine full ∙ sym w.0;
            };
      }

  free_is : free_count_of p.rules p.service ≡ Ok (buffer_count p.rules - p.rules.buffers_per_slot * held_count p.history)
  unfolding free_count_of free_buffers
  free_is = rw (in_order_lem p v, v.counted)

  pub at_place : AtPlace p
  at_place =
      record {
        submit_answer_is = λ choice shape k w h pixels. (submits p v choice shape k w h pixels).answered;
        withdraw_answer_is = λ n. (withdraws p v n).answered;
        collect_answer_is = λ n lent. (collects p v n lent).answered;
        handed_over_is = hands;
        tick_idle = idle_exactly;
        tick_serves = serves_one (ticked p v);
        wait = in_time;
        stays_finished =
            λ n entries h f. eq-eqb (steps_left (after p entries).history n) 0
            (stays_finished entries p v n (seated p v n h).sits.known (eqb-true (steps_left p.history n) 0 f));
        change_answer = change_is p v;
        free_buffers_are = free_is;
        numbers_given = v.given;
        at_most_all_slots = let c = count_le (λ s. not (is_empty s)) p.service.slots (size p) in omega (arith, v.counted);
        ticks_within = λ n h. (seated p v n h).sits.few;
        unchanged = λ c. (answers p v c).1.unchanged;
      }

-- BY ANY RULES THAT A SERVICE CAN RUN BY
pub demand_3_by : (rules : Rules) → Workable rules → Demand3By rules
demand_3_by rules workable store long entries =
    at_place (after (opened rules store) entries) (after_invariant entries (opened rules store) (opened_invariant rules workable store long))

-- and so from an opening by the old rules, through the change-over, and from one by the new
pub opening_workable : (rules : Rules) → Opening rules → Workable rules
opening_workable base_rules by_base = base_workable
opening_workable choice_rules by_choice = current_workable

pub demand_3 : Demand3
demand_3 rules opening = demand_3_by rules (opening_workable rules opening)
