-- The calls and demand 3 in REFERENCE's numbers: the number and the values of each answer (specs/Answers), at any record and
-- store, and at a place of a list of calls. Definitions only; `proofs/Numbers` shows both.
use Rattle.std.specs.Prelude.{◌≡◌, true, ◌⊎◌, ◌↔◌, List, [], ◌∷◌, ℕ, ◌+◌, ◌*◌, ◌<◌, ◌≤◌, length, Option, Some, None, Ok, Err}
use Rattle.limits.specs.Errors.{Outcome, outcome_number}
use Rattle.kernel.specs.declared.Choice.{Choice}
use Rattle.covariance.specs.declared.Shape.{Shape}
use Rattle.machine.specs.declared.Service.{Service}
use Rattle.machine.specs.Answers.{answer_number, answer_values, count_number, count_values}
use Rattle.machine.specs.Rules.{Rules}
use Rattle.machine.specs.Slots.{slot_at}
use Rattle.machine.specs.Store.{store_length}
use Rattle.machine.specs.Calls.{submit, tick, collect, withdraw, free_buffers, submit_checks, submit_of, tick_checks, served_place, tick_of, collect_checks, collect_of, withdraw_checks, withdraw_of, count_checks, free_count_of}
use Rattle.machine.specs.History.{Place, Entry, opened, after, since, held, steps_left, finished, job_count, held_count, withdrawn_in, ticks_in}
use Rattle.machine.specs.Demand.{Opening, answer_at, submit_outcome, withdraw_outcome, collect_outcome}
use Rattle.machine.specs.Answers.{Answered}

-- the values of a call that gives one number where it is not refused: "a refusal answers its number alone"
abbrev pub values_unless : Outcome → ℕ → List ℕ
values_unless (Ok done) n = n ∷ []
values_unless (Err code) n = []

-- an answer with the number of an outcome and, where nothing is refused, this one value
pub record AnswerIs (a : Answered) (o : Outcome) (n : ℕ) : Type 0 where
  pub number : answer_number a ≡ outcome_number o
  pub values : answer_values a ≡ values_unless o n

-- ---- at any record and any store, by any rules
-- the values of a tick: the number of the job that it serves
abbrev pub tick_values : Service → Outcome → Option ℕ → List ℕ
tick_values r (Ok done) (Some i) = (slot_at r i).number ∷ []
tick_values r (Ok done) None = []
tick_values r (Err code) f = []

pub record CallsInNumbers (rules : Rules) (r : Service) (store : List ℕ) : Type 0 where
  pub submits : (choice : Choice) (shape : Shape) (k w h : ℕ) (pixels : List ℕ)
      → AnswerIs (submit_of rules r store choice shape k w h pixels).answer (submit_checks rules r store shape k w h pixels) (r.last + 1)
  pub ticks : answer_number (tick_of rules r store).answer ≡ outcome_number (tick_checks rules r store)
  pub ticked : answer_values (tick_of rules r store).answer ≡ tick_values r (tick_checks rules r store) (served_place rules r)
  pub collects : (n : ℕ) (lent : List ℕ) → AnswerIs (collect_of rules r store n lent).answer (collect_checks rules r store n lent) n
  pub withdraws : (n : ℕ) → AnswerIs (withdraw_of rules r store n).answer (withdraw_checks rules r n) n
  pub counts : count_number (free_count_of rules r) ≡ outcome_number (count_checks rules r)
  pub counted : count_values (free_count_of rules r) ≡ values_unless (count_checks rules r) (free_buffers rules r)

-- ---- at a place of a list
-- by REFERENCE's rules, whose numbers stand here as it gives them
pub record InNumbers (p : Place) : Type 0 where
  -- a submit answers 0 and the next number, or the refusal's number
  pub submits : (choice : Choice) (shape : Shape) (k w h : ℕ) (pixels : List ℕ)
      → AnswerIs (answer_at p (submit choice shape k w h pixels)) (submit_outcome p.rules p.history shape k w h pixels) (job_count p.history + 1)
  -- a collect and a withdraw answer 0 and the job's number, or the refusal's number
  pub collects : (n : ℕ) (lent : List ℕ) → AnswerIs (answer_at p (collect n lent)) (collect_outcome p.history n lent) n
  pub withdraws : (n : ℕ) → AnswerIs (answer_at p (withdraw n)) (withdraw_outcome p.history n) n
  -- a tick is never refused: it answers the number of a held job that has steps left, or nothing exactly where each is finished
  pub ticks : answer_number (answer_at p tick) ≡ 0
  pub ticked : (answer_values (answer_at p tick) ≡ [])
      ⊎ ((n : ℕ) × (answer_values (answer_at p tick) ≡ n ∷ []) × (held p.history n ≡ true) × (0 < steps_left p.history n))
  pub idle : (answer_values (answer_at p tick) ≡ []) ↔ ((n : ℕ) → held p.history n ≡ true → finished p.history n ≡ true)
  -- the wait: 8 ticks for each step left
  pub waits : (n : ℕ) (entries : List Entry) → held p.history n ≡ true → ticks_in entries ≡ 8 * steps_left p.history n
      → (finished (after p entries).history n ≡ true) ⊎ (withdrawn_in (since p entries) n ≡ true)
  pub at_most_eight : held_count p.history ≤ 8
  -- nor is the free count refused: with 2 for each job held it makes 16
  pub counts : count_number (free_count_of p.rules p.service) ≡ 0
  pub counted : (free : ℕ) × (count_values (free_count_of p.rules p.service) ≡ free ∷ []) × (free + 2 * held_count p.history ≡ 16)

-- at the place after any list from an opening by the old rules or the new on
abbrev pub Demand3InNumbers : Type 0
Demand3InNumbers =
    (rules : Rules) → Opening rules → (store : List ℕ) → length store ≡ store_length → (entries : List Entry)
    → InNumbers (after (opened rules store) entries)
