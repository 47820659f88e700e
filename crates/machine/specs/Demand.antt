-- Demand 3: one claim about a whole list of calls, with a field for each sentence of REFERENCE under "Demand 3 is one
-- claim". Definitions only; `proofs/Theorem` shows it of every list.
use Rattle.std.specs.Prelude.{◌≡◌, Bool, true, false, not, ◌&&◌, ◌⊎◌, ◌↔◌, List, [], ◌∷◌, ℕ, zero, suc, ◌+◌, ◌-◌, ◌*◌, ◌≤◌, ◌<◌, ltb, length, replicate, Ok, Err}
use Rattle.limits.specs.Limits.{fills_picture}
use Rattle.limits.specs.Errors.{Outcome, ◌otherwise◌, first_refusal}
use Rattle.limits.specs.declared.ErrorCode.TheVariants.{RecordOutOfOrder, NoSuchJob, StepsAreLeft, WrongLength, NoFreeBuffers, NumbersUsedUp}
use Rattle.kernel.specs.declared.Choice.{Choice}
use Rattle.covariance.specs.declared.Shape.{Shape}
use Rattle.averaging.specs.Distances.{Entrywise, Distance}
use Rattle.machine.specs.Rules.{Rules, base_rules, choice_rules}
use Rattle.machine.specs.Store.{buffer_count, store_length}
use Rattle.machine.specs.Calls.{Call, submit, tick, collect, withdraw, submitted_checks, last_number, free_count_of}
use Rattle.machine.specs.Change.{change_checks}
use Rattle.machine.specs.History.{Event, Place, Entry, calling, opened, next, event_of, after, since, accepts, Submitted, kernel_of_job, alone_after, exact_after, job_of, held, ticks_of, steps_left, finished, numbers, job_count, held_count, withdrawn_in, ticks_in}
use Rattle.machine.specs.declared.Answer.TheVariants.{Job, Idle}
use Rattle.machine.specs.Answers.{Answered}

-- the answer of a call that gives this number where it is not refused
abbrev pub number_unless : Outcome → ℕ → Answered
number_unless (Ok done) n = Ok (Job n)
number_unless (Err code) n = Err code

-- "A submit is accepted where no refusal from 3 to 11 in checking order applies to it, fewer jobs are held than there are
-- seats, and fewer than 2^64 − 1 jobs came before it"
abbrev pub submit_outcome : Rules → List Event → Shape → ℕ → ℕ → ℕ → List ℕ → Outcome
submit_outcome rules es shape k w h pixels =
    first_refusal
    (submitted_checks shape k w h pixels
    ((ltb (held_count es) rules.slot_count otherwise NoFreeBuffers) ∷ (ltb (job_count es) last_number otherwise NumbersUsedUp) ∷ []))

-- it answers the next number
abbrev pub submit_answer : Rules → List Event → Shape → ℕ → ℕ → ℕ → List ℕ → Answered
submit_answer rules es shape k w h pixels = number_unless (submit_outcome rules es shape k w h pixels) (job_count es + 1)

-- "While it is held, a withdraw of it is accepted"
abbrev pub withdraw_outcome : List Event → ℕ → Outcome
withdraw_outcome es n = first_refusal ((held es n otherwise NoSuchJob) ∷ [])

abbrev pub withdraw_answer : List Event → ℕ → Answered
withdraw_answer es n = number_unless (withdraw_outcome es n) n

-- "While it is held and finished, a collect of it with a lent picture of w × h pixels is accepted; before it is finished none
-- is"
abbrev pub collect_outcome : List Event → ℕ → List ℕ → Outcome
collect_outcome es n lent =
    first_refusal
    ((held es n otherwise NoSuchJob)
    ∷ (finished es n otherwise StepsAreLeft)
    ∷ (fills_picture (length lent) (job_of es n).width (job_of es n).height otherwise WrongLength)
    ∷ [])

abbrev pub collect_answer : List Event → ℕ → List ℕ → Answered
collect_answer es n lent = number_unless (collect_outcome es n lent) n

-- what a call answers at a place, the picture lent to it, and the same picture as the call leaves it
abbrev pub answer_at : Place → Call → Answered
answer_at p c = (event_of p c).answer

abbrev pub lent_to : Call → List ℕ
lent_to (submit choice shape k w h pixels) = pixels
lent_to tick = []
lent_to (collect n lent) = lent
lent_to (withdraw n) = []

abbrev pub lent_after : Place → Call → List ℕ
lent_after p c = (event_of p c).lent

-- "Handed over is the whole lent picture as an accepted collect leaves it"
abbrev pub handed_over : Place → ℕ → List ℕ → List ℕ
handed_over p n lent = lent_after p (collect n lent)

-- n, .. 2, 1
abbrev pub countdown : ℕ → List ℕ
countdown zero = []
countdown (suc n) = suc n ∷ countdown n

-- the change-over is accepted wherever the rules have no choice yet
abbrev pub change_outcome : Rules → Outcome
change_outcome rules = first_refusal ((not rules.holds_choice otherwise RecordOutOfOrder) ∷ [])

-- ---- "A service opened for it only, with its submit, k ticks and a collect": what stands before its collect. "the job alone that a
-- mixed run is compared with has the same choice"
abbrev pub lone_calls : Submitted → List Entry
lone_calls j =
    calling (submit j.choice j.shape j.steps j.width j.height j.picture) ∷ replicate j.steps (calling tick)

unfoldable pub all_accepted : List Event → Bool
all_accepted [] = true
all_accepted (e ∷ es) = accepts e.answer && all_accepted es

-- what such a service does, where its collect is lent the picture `mine` at the place after those calls: none of them is refused
-- or idle, the collect of its job, which is the first, is accepted, and "hands over the same"
pub record LoneService (end : Place) (mine same : List ℕ) : Type 0 where
  pub calls_accepted : all_accepted end.history ≡ true
  pub collect_accepted : answer_at end (collect 1 mine) ≡ Ok (Job 1)
  pub hands_over_the_same : handed_over end 1 mine ≡ same

-- what is claimed of the picture that a collect hands over for a job
pub record AsAlone (job : Submitted) (handed : List ℕ) : Type 0 where
  -- "Alone it gets its picture after k steps of its kernel, each rounded as above"
  pub lone_run : handed ≡ alone_after job job.steps
  -- "each pixel that a collect hands over for a job of k steps lies within k/2 units of an exact run"
  pub within_half : Entrywise (Distance (kernel_of_job job).sum job.steps) handed (exact_after job job.steps)
  -- "A service opened for it only .. hands over the same", whatever its store and the picture lent to its collect held: opened by the
  -- rules that the job was submitted by
  pub lone_service : (store mine : List ℕ) → length store ≡ store_length → length mine ≡ job.width * job.height
      → LoneService (after (opened job.rules store) (lone_calls job)) mine handed

-- what is claimed at a place of the list, of whatever is called there. An event in mid-list is a call at the place after those
-- before it, and those are a list too: so what is claimed at the place after any list is claimed of every event of every list.
pub record AtPlace (p : Place) : Type 0 where
  -- whichever choice it names
  pub submit_answer_is : (choice : Choice) (shape : Shape) (k w h : ℕ) (pixels : List ℕ)
      → answer_at p (submit choice shape k w h pixels) ≡ submit_answer p.rules p.history shape k w h pixels
  pub withdraw_answer_is : (n : ℕ) → answer_at p (withdraw n) ≡ withdraw_answer p.history n
  pub collect_answer_is : (n : ℕ) (lent : List ℕ) → answer_at p (collect n lent) ≡ collect_answer p.history n lent
  -- what an accepted collect hands over is what its job gets alone
  pub handed_over_is : (n : ℕ) (lent : List ℕ) → answer_at p (collect n lent) ≡ Ok (Job n)
      → AsAlone (job_of p.history n) (handed_over p n lent)
  -- a tick answers idle exactly where each held job is finished; any other tick answers a held job that has steps left
  pub tick_idle : (answer_at p tick ≡ Ok Idle) ↔ ((n : ℕ) → held p.history n ≡ true → finished p.history n ≡ true)
  pub tick_serves : (answer_at p tick ≡ Ok Idle)
      ⊎ ((n : ℕ) × (answer_at p tick ≡ Ok (Job n)) × (held p.history n ≡ true) × (0 < steps_left p.history n))
  -- "where a held job has r steps left and 8 × r more ticks follow in the list, it is finished or was withdrawn by the last
  -- of them, whatever calls stand between": 8 are the slots. The change-over may stand between them too
  pub wait : (n : ℕ) (entries : List Entry) → held p.history n ≡ true
      → ticks_in entries ≡ p.rules.slot_count * steps_left p.history n
      → (finished (after p entries).history n ≡ true) ⊎ (withdrawn_in (since p entries) n ≡ true)
  -- "It is finished when none are left, and stays so when collected": after whatever follows
  pub stays_finished : (n : ℕ) (entries : List Entry) → held p.history n ≡ true → finished p.history n ≡ true
      → finished (after p entries).history n ≡ true
  -- the change-over, called here: accepted at every place by the old rules, refused at every one by the new
  pub change_answer : change_checks p.rules p.service ≡ change_outcome p.rules
  -- "Free buffers at a place are what the free count, called there as well, answers": 16, those of all slots, less 2, those of one,
  -- for each job held
  pub free_buffers_are : free_count_of p.rules p.service ≡ Ok (buffer_count p.rules - p.rules.buffers_per_slot * held_count p.history)
  -- "Numbers are not given twice": those given so far are 1, 2, 3 and so on
  pub numbers_given : numbers p.history ≡ countdown (job_count p.history)
  pub at_most_all_slots : held_count p.history ≤ p.rules.slot_count
  -- the steps left are never fewer than none
  pub ticks_within : (n : ℕ) → held p.history n ≡ true → ticks_of p.history n ≤ (job_of p.history n).steps
  -- "record, store and every lent buffer keep their contents", of a refused call and of an idle tick
  pub unchanged : (c : Call) → accepts (answer_at p c) ≡ false
      → ((next p c).service ≡ p.service) × ((next p c).store ≡ p.store) × (lent_after p c ≡ lent_to c)

-- "The list starts with the opening's record and a store of 16,384 pixels of any value": at the place after any list, from an opening by
-- given rules on
abbrev pub Demand3By : Rules → Type 0
Demand3By rules = (store : List ℕ) → length store ≡ store_length → (entries : List Entry) → AtPlace (after (opened rules store) entries)

-- "For demand 3 a list either opens by the new rules or runs on through the change-over: from the opening on calls by the old rules"
pub data Opening : Rules → Type 0 where
  by_base : Opening base_rules
  by_choice : Opening choice_rules

-- ONE claim about whole lists: 8 slots of 2 buffers each, by the old rules and by the new
abbrev pub Demand3 : Type 0
Demand3 = (rules : Rules) → Opening rules → Demand3By rules
