-- Lists of calls, and the words of demand 3: "taken from the calls and their answers, never from the record". Definitions
-- only.
use Rattle.std.specs.Prelude.{Bool, true, false, cond, ◌&&◌, ◌||◌, List, [], ◌∷◌, ◌++◌, ℕ, ◌+◌, ◌-◌, eqb, length, pos, Ok, Err}
use Rattle.covariance.specs.declared.Shape.{Shape}
use Rattle.covariance.specs.Shapes.{kernel_of_shape_by}
use Rattle.kernel.specs.declared.Kernel.{Kernel}
use Rattle.kernel.specs.declared.Choice.{Choice}
use Rattle.kernel.specs.declared.Choice.TheVariants.{Smallest}
use Rattle.averaging.specs.Steps.{steps_of, exact_of}
use Rattle.machine.specs.declared.Service.{Service}
use Rattle.machine.specs.Rules.{Rules, base_rules, with_choice}
use Rattle.machine.specs.Slots.{opening}
use Rattle.machine.specs.Calls.{Call, submit, tick, collect, withdraw, call_of, choice_by}
use Rattle.machine.specs.Change.{changed_over, change_checks}
use Rattle.limits.specs.Errors.{Outcome}
use Rattle.machine.specs.declared.Answer.TheVariants.{Job, Idle}
use Rattle.machine.specs.Answers.{Answered}

-- a call of the list with the rules that it followed, its answer, and the picture that was lent to it as it left it
pub record Event : Type 0 where
  pub rules : Rules
  pub call : Call
  pub answer : Answered
  pub lent : List ℕ

-- a place in the list: the rules that a call follows there, the record and the store, and all that was called and answered before it,
-- the latest first
pub record Place : Type 0 where
  pub rules : Rules
  pub service : Service
  pub store : List ℕ
  pub history : List Event

abbrev pub opened : Rules → List ℕ → Place
opened rules store = record { rules = rules; service = opening rules; store = store; history = [] }

abbrev pub event_of : Place → Call → Event
event_of p c =
    record {
      rules = p.rules;
      call = c;
      answer = (call_of p.rules p.service p.store c).answer;
      lent = (call_of p.rules p.service p.store c).lent;
    }

-- "Accepted, idle or refused, each passes its record and store to the next"; no call changes the rules
abbrev pub next : Place → Call → Place
next p c =
    record {
      rules = p.rules;
      service = (call_of p.rules p.service p.store c).service;
      store = (call_of p.rules p.service p.store c).store;
      history = event_of p c ∷ p.history;
    }

-- ---- lists
-- an entry of a list: a call, or the change-over. "from the opening on calls by the old rules, then the change-over, then calls by the
-- new": it may stand anywhere, and where the rules have changed already it is refused with 2
pub data Entry : Type 0 where
  calling : Call → Entry
  changing : Entry

-- the change-over passes the new record and the store on, and from there on calls follow the new rules; refused, it changes nothing.
-- It is no call of a job, so the words below do not see it
abbrev pub changed_place : Outcome → Place → Place
changed_place (Ok done) p =
    record { rules = with_choice p.rules; service = changed_over p.service; store = p.store; history = p.history }
changed_place (Err code) p = p

abbrev pub onward : Place → Entry → Place
onward p (calling c) = next p c
onward p changing = changed_place (change_checks p.rules p.service) p

-- the place after a list
unfoldable pub after : Place → List Entry → Place
after p [] = p
after p (e ∷ es) = after (onward p e) es

abbrev pub events_of : Place → Entry → List Event
events_of p (calling c) = event_of p c ∷ []
events_of p changing = []

-- the events of a list from a place on, the latest first
unfoldable pub since : Place → List Entry → List Event
since p [] = []
since p (e ∷ es) = since (onward p e) es ++ events_of p e

-- ---- what an event is to the job with a number
abbrev pub accepts : Answered → Bool
accepts (Ok (Job n)) = true
accepts (Ok Idle) = false
accepts (Err code) = false

abbrev pub answers_number : Answered → ℕ → Bool
answers_number (Ok (Job m)) n = eqb m n
answers_number (Ok Idle) n = false
answers_number (Err code) n = false

-- "A job is an accepted submit, named by the number it answered"
abbrev pub starts_by : Call → Answered → ℕ → Bool
starts_by (submit choice shape k w h pixels) a n = answers_number a n
starts_by tick a n = false
starts_by (collect m lent) a n = false
starts_by (withdraw m) a n = false

-- a tick that answered its number
abbrev pub serves_by : Call → Answered → ℕ → Bool
serves_by (submit choice shape k w h pixels) a n = false
serves_by tick a n = answers_number a n
serves_by (collect m lent) a n = false
serves_by (withdraw m) a n = false

-- an accepted withdraw of its number
abbrev pub withdraws_by : Call → Answered → ℕ → Bool
withdraws_by (submit choice shape k w h pixels) a n = false
withdraws_by tick a n = false
withdraws_by (collect m lent) a n = false
withdraws_by (withdraw m) a n = eqb m n && accepts a

-- an accepted collect or withdraw of its number
abbrev pub ends_by : Call → Answered → ℕ → Bool
ends_by (submit choice shape k w h pixels) a n = false
ends_by tick a n = false
ends_by (collect m lent) a n = eqb m n && accepts a
ends_by (withdraw m) a n = eqb m n && accepts a

abbrev pub starts : Event → ℕ → Bool
starts e n = starts_by e.call e.answer n

abbrev pub serves : Event → ℕ → Bool
serves e n = serves_by e.call e.answer n

abbrev pub ends : Event → ℕ → Bool
ends e n = ends_by e.call e.answer n

-- ---- the words
-- "Its picture is the w × h pixels lent there; its kernel is that of its shape and its step count k", by its choice; with the rules
-- that its submit followed
pub record Submitted : Type 0 where
  pub rules : Rules
  pub choice : Choice
  pub shape : Shape
  pub steps : ℕ
  pub width : ℕ
  pub height : ℕ
  pub picture : List ℕ

abbrev pub kernel_of_job : Submitted → Kernel
kernel_of_job j = kernel_of_shape_by j.choice j.shape j.steps

-- "Alone it gets its picture after k steps of its kernel, each rounded as above"
abbrev pub alone_after : Submitted → ℕ → List ℕ
alone_after j n = steps_of (kernel_of_job j) j.width j.height n j.picture

-- "The exact run is the one above, after k steps"
abbrev pub exact_after : Submitted → ℕ → List ℕ
exact_after j n = exact_of (kernel_of_job j) j.width j.height n j.picture

-- what a submit hands in, and of another call what does not matter
abbrev pub submitted_by : Rules → Call → Submitted → Submitted
submitted_by rules (submit choice shape k w h pixels) j =
    record { rules = rules; choice = choice_by rules choice; shape = shape; steps = k; width = w; height = h; picture = pixels }
submitted_by rules tick j = j
submitted_by rules (collect m lent) j = j
submitted_by rules (withdraw m) j = j

-- a job of no steps, for a number that no submit answered
abbrev pub no_job : Submitted
no_job =
    record { rules = base_rules; choice = Smallest; shape = Shape.Matrix (pos 0) (pos 0) (pos 0); steps = 0; width = 0; height = 0; picture = [] }

unfoldable pub job_of : List Event → ℕ → Submitted
job_of [] n = no_job
job_of (e ∷ es) n = cond (starts e n) (submitted_by e.rules e.call no_job) (job_of es n)

-- "It is held until a collect or withdraw of its number is accepted"
unfoldable pub held : List Event → ℕ → Bool
held [] n = false
held (e ∷ es) n = cond (starts e n) true (cond (ends e n) false (held es n))

-- "the ticks since its submit that answered its number"
unfoldable pub ticks_of : List Event → ℕ → ℕ
ticks_of [] n = 0
ticks_of (e ∷ es) n = cond (starts e n) 0 (cond (serves e n) (ticks_of es n + 1) (ticks_of es n))

-- "Its steps left are k less the ticks since its submit that answered its number"
abbrev pub steps_left : List Event → ℕ → ℕ
steps_left es n = (job_of es n).steps - ticks_of es n

-- "It is finished when none are left"
abbrev pub finished : List Event → ℕ → Bool
finished es n = eqb (steps_left es n) 0

-- the numbers that accepted submits answered, the latest first
abbrev pub given_by : Call → Answered → List ℕ → List ℕ
given_by (submit choice shape k w h pixels) (Ok (Job n)) ns = n ∷ ns
given_by (submit choice shape k w h pixels) (Ok Idle) ns = ns
given_by (submit choice shape k w h pixels) (Err code) ns = ns
given_by tick a ns = ns
given_by (collect m lent) a ns = ns
given_by (withdraw m) a ns = ns

unfoldable pub numbers : List Event → List ℕ
numbers [] = []
numbers (e ∷ es) = given_by e.call e.answer (numbers es)

-- how many numbers of a list pass a test
unfoldable pub how_many : (ℕ → Bool) → List ℕ → ℕ
how_many test [] = 0
how_many test (n ∷ ns) = cond (test n) (how_many test ns + 1) (how_many test ns)

-- how many jobs came before this place, and how many of them are held
abbrev pub job_count : List Event → ℕ
job_count es = length (numbers es)

abbrev pub held_count : List Event → ℕ
held_count es = how_many (held es) (numbers es)

-- an accepted withdraw of this number is among the events
unfoldable pub withdrawn_in : List Event → ℕ → Bool
withdrawn_in [] n = false
withdrawn_in (e ∷ es) n = withdraws_by e.call e.answer n || withdrawn_in es n

-- how many ticks stand in a list
abbrev pub one_for_tick : Call → ℕ
one_for_tick (submit choice shape k w h pixels) = 0
one_for_tick tick = 1
one_for_tick (collect m lent) = 0
one_for_tick (withdraw m) = 0

abbrev pub ticks_of_entry : Entry → ℕ
ticks_of_entry (calling c) = one_for_tick c
ticks_of_entry changing = 0

unfoldable pub ticks_in : List Entry → ℕ
ticks_in [] = 0
ticks_in (e ∷ es) = ticks_of_entry e + ticks_in es
