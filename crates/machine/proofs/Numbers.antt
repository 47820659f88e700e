-- The calls in REFERENCE's numbers, by cases of what their checks come to, by any rules; and demand 3 in these numbers, from its
-- fields alone, by REFERENCE's rules, since 8, 2 and 16 are theirs. Assumes nothing.
use mathlib.Core.Path.{◌≡◌, refl, sym, ◌∙◌, ap, ap₂, subst}
use mathlib.Core.Logic.{inl, inr, ⊎_elim}
use mathlib.Core.List.{List, [], ◌∷◌}
use Prim.Native.Nat.{ℕ, ◌+◌, ◌-◌, ◌*◌, ◌≤◌}
use native.Mathlib.Omega.{arith}
use lib.ListN.{length}
use Rattle.limits.specs.Errors.{Outcome, outcome_number}
use Rattle.machine.specs.declared.Service.{Service}
use Rattle.machine.specs.Answers.{answer_number, answer_values, count_number, count_values}
use Rattle.machine.specs.Rules.{Rules, base_rules, choice_rules}
use Rattle.machine.specs.Store.{Workable}
use Rattle.machine.specs.Calls.{free_buffers, submit_checks, tick_checks, served_place, tick_of, collect_checks, withdraw_checks, count_checks, free_count_of}
use Rattle.machine.specs.History.{Place, opened, after, steps_left, job_count, held_count}
use Rattle.machine.specs.Demand.{number_unless, submit_outcome, withdraw_outcome, collect_outcome, AtPlace, Opening, by_base, by_choice}
use Rattle.machine.specs.Numbers.{values_unless, AnswerIs, tick_values, CallsInNumbers, InNumbers, Demand3InNumbers}
use Rattle.machine.proofs.Finds.{submit_answers, collect_answers, withdraw_answers}
use Rattle.machine.proofs.Lists.{after_numbers}
use Rattle.machine.proofs.Theorem.{demand_3}
use Rattle.std.specs.Prelude.{Option, Some, None, Ok, Err}
use Rattle.machine.specs.Answers.{Answered}

answers_as : (a : Answered) (o : Outcome) (n : ℕ) → a ≡ number_unless o n → AnswerIs a o n
answers_as a (Ok done) n e = record { number = ap answer_number e; values = ap answer_values e }
answers_as a (Err code) n e = record { number = ap answer_number e; values = ap answer_values e }

-- ---- at any record and any store
module _ (rules : Rules) (workable : Workable rules) (r : Service) (store : List ℕ) where
  tick_is : (o : Outcome) (f : Option ℕ) → tick_checks rules r store ≡ o → served_place rules r ≡ f
      → (answer_number (tick_of rules r store).answer ≡ outcome_number o) × (answer_values (tick_of rules r store).answer ≡ tick_values r o f)
  unfolding tick_of
  tick_is (Ok done) (Some i) e g = rw (e, g) (refl, refl)
  tick_is (Ok done) None e g = rw (e, g) (refl, refl)
  tick_is (Err code) f e g = rw e (refl, refl)

  count_is : (o : Outcome) → count_checks rules r ≡ o
      → (count_number (free_count_of rules r) ≡ outcome_number o) × (count_values (free_count_of rules r) ≡ values_unless o (free_buffers rules r))
  unfolding free_count_of
  count_is (Ok done) e = rw e (refl, refl)
  count_is (Err code) e = rw e (refl, refl)

  pub calls_in_numbers : CallsInNumbers rules r store
  calls_in_numbers =
      record {
        submits = λ choice shape k w h pixels.
            answers_as _ (submit_checks rules r store shape k w h pixels) (r.last + 1) (submit_answers rules workable r store choice shape k w h pixels);
        ticks = (tick_is (tick_checks rules r store) (served_place rules r) refl refl).0;
        ticked = (tick_is (tick_checks rules r store) (served_place rules r) refl refl).1;
        collects = λ n lent. answers_as _ (collect_checks rules r store n lent) n (collect_answers rules workable r store n lent);
        withdraws = λ n. answers_as _ (withdraw_checks rules r n) n (withdraw_answers rules workable r store n);
        counts = (count_is (count_checks rules r) refl).0;
        counted = (count_is (count_checks rules r) refl).1;
      }

-- ---- at a place of a list
some_value : (n : ℕ) → n ∷ [] ≡ [] → ⊥
some_value n e = let z = ap length e in omega arith

module _ (p : Place) (d : AtPlace p) (slots : p.rules.slot_count ≡ 8) (buffers : p.rules.buffers_per_slot ≡ 2) where
  free_is : free_count_of p.rules p.service ≡ Ok (16 - 2 * held_count p.history)
  free_is = d.free_buffers_are ∙ ap₂ (λ s b. Ok (s * b - b * held_count p.history)) slots buffers

  held_at_most : held_count p.history ≤ 8
  held_at_most = subst (λ n. held_count p.history ≤ n) slots d.at_most_all_slots

  in_numbers : InNumbers p
  in_numbers =
      record {
        submits = λ choice shape k w h pixels.
            answers_as _ (submit_outcome p.rules p.history shape k w h pixels) (job_count p.history + 1) (d.submit_answer_is choice shape k w h pixels);
        collects = λ n lent. answers_as _ (collect_outcome p.history n lent) n (d.collect_answer_is n lent);
        withdraws = λ n. answers_as _ (withdraw_outcome p.history n) n (d.withdraw_answer_is n);
        ticks = ⊎_elim (λ e. ap answer_number e) (λ w. ap answer_number w.1) d.tick_serves;
        ticked = ⊎_elim (λ e. inl (ap answer_values e)) (λ w. inr (w.0, ap answer_values w.1, w.2, w.3)) d.tick_serves;
        idle = (
          λ e. ⊎_elim (λ i. d.tick_idle.0 i) (λ w. absurd (some_value w.0 (sym (ap answer_values w.1) ∙ e))) d.tick_serves,
          λ f. ap answer_values (d.tick_idle.1 f),
        );
        waits = λ n entries h t. d.wait n entries h (t ∙ ap (λ s. s * steps_left p.history n) (sym slots));
        at_most_eight = held_at_most;
        counts = ap count_number free_is;
        counted = (
          16 - 2 * held_count p.history,
          ap count_values free_is,
          let l = held_at_most in omega arith,
        );
      }

-- both rules that a list opens by have these numbers, and the change-over keeps them
opening_numbers : (rules : Rules) → Opening rules → (rules.slot_count ≡ 8) × (rules.buffers_per_slot ≡ 2)
opening_numbers base_rules by_base = (refl, refl)
opening_numbers choice_rules by_choice = (refl, refl)

pub demand_3_in_numbers : Demand3InNumbers
demand_3_in_numbers rules opening store long entries =
    let w = after_numbers entries (opened rules store) in
    let o = opening_numbers rules opening in
    in_numbers (after (opened rules store) entries) (demand_3 rules opening store long entries) (w.0 ∙ o.0) (w.1 ∙ o.1)
