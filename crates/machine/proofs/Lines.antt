-- The lines of a worked list of calls: a call or a question, and what is answered there. Assumes nothing; `proofs/Worked` has the
-- lists.
use mathlib.Core.Bool.{Bool}
use mathlib.Core.List.{List, [], ◌∷◌}
use Prim.Native.Nat.{ℕ}
use lib.ListN.{length}
use lib.IntN.{ℤ, pos}
use Rattle.limits.specs.Errors.{outcome_number}
use Rattle.kernel.specs.declared.Choice.{Choice}
use Rattle.kernel.specs.Choice.{default_choice}
use Rattle.covariance.specs.declared.Shape.{Shape}
use Rattle.machine.specs.declared.Slot.{Slot}
use Rattle.machine.specs.declared.Service.{Service}
use Rattle.machine.specs.Answers.{answer_number, answer_values, count_number, count_values}
use Rattle.machine.specs.Rules.{Rules, base_rules}
use Rattle.machine.specs.Store.{part}
use Rattle.machine.specs.Calls.{Call, submit, tick, collect, withdraw, free_count_of}
use Rattle.machine.specs.Change.{change_checks}
use Rattle.machine.specs.History.{Place, Entry, changing, next, onward, after, since, Submitted, job_of, held, ticks_of, steps_left, finished, numbers, held_count, withdrawn_in, ticks_in}
use Rattle.machine.specs.Demand.{answer_at, lent_after, lone_calls, all_accepted}

-- ---- a line of a worked list
pub data Line : Type 0 where
  -- a call; the number and the values of its answer; the picture lent to it as the call leaves it
  called : Call → ℕ → List ℕ → List ℕ → Line
  -- the number and the values that the free count answers here
  counted : ℕ → List ℕ → Line
  -- the whole record here
  stands : Service → Line
  -- what the store holds from a pixel on
  stored : ℕ → List ℕ → Line
  -- of a job: whether it is held, the ticks that it got, its steps left, whether it is finished
  word : ℕ → Bool → ℕ → ℕ → Bool → Line
  -- what was submitted under a number
  job : ℕ → Submitted → Line
  -- the numbers given so far, the latest first, and how many of these jobs are held
  given : List ℕ → ℕ → Line
  -- whether each call so far was accepted
  accepted : Bool → Line
  -- for a job and what could follow here: the ticks among them, whether the job is finished after them, and whether it was
  -- withdrawn by one of them
  waits : ℕ → List Entry → ℕ → Bool → Bool → Line
  -- what stands before the collect of a service opened for a job only
  lone : Submitted → List Entry → Line
  -- the change-over, and the number of its refusal
  changes : ℕ → Line
  -- the rules here hold a choice, or not yet
  chooses : Bool → Line

-- a list from a place on
pub record Worked : Type 0 where
  pub from : Place
  pub lines : List Line

-- the lines with what the definitions give in the place of what is expected
unfoldable pub computed : Place → List Line → List Line
computed p [] = []
computed p (called c number values lent ∷ rest) =
    called c (answer_number (answer_at p c)) (answer_values (answer_at p c)) (lent_after p c) ∷ computed (next p c) rest
computed p (counted number values ∷ rest) =
    counted (count_number (free_count_of p.rules p.service)) (count_values (free_count_of p.rules p.service)) ∷ computed p rest
computed p (stands r ∷ rest) = stands p.service ∷ computed p rest
computed p (stored start pixels ∷ rest) = stored start (part start (length pixels) p.store) ∷ computed p rest
computed p (word n h t l f ∷ rest) =
    word n (held p.history n) (ticks_of p.history n) (steps_left p.history n) (finished p.history n) ∷ computed p rest
computed p (job n j ∷ rest) = job n (job_of p.history n) ∷ computed p rest
computed p (given ns count ∷ rest) = given (numbers p.history) (held_count p.history) ∷ computed p rest
computed p (accepted a ∷ rest) = accepted (all_accepted p.history) ∷ computed p rest
computed p (waits n calls t f w ∷ rest) =
    waits n calls (ticks_in calls) (finished (after p calls).history n) (withdrawn_in (since p calls) n) ∷ computed p rest
computed p (lone j calls ∷ rest) = lone j (lone_calls j) ∷ computed p rest
computed p (changes number ∷ rest) = changes (outcome_number (change_checks p.rules p.service)) ∷ computed (onward p changing) rest
computed p (chooses t ∷ rest) = chooses p.rules.holds_choice ∷ computed p rest

-- ---- how a line is written. "a refusal answers its number alone", and a lent picture keeps its contents; 0 is no refusal
abbrev pub submits_by : Choice → Shape → ℕ → ℕ → ℕ → List ℕ → ℕ → Line
submits_by choice shape k w h pixels n = called (submit choice shape k w h pixels) 0 (n ∷ []) pixels

-- a submit that names no choice: by rules without one it has the smallest
abbrev pub submits : Shape → ℕ → ℕ → ℕ → List ℕ → ℕ → Line
submits shape k w h pixels n = submits_by default_choice shape k w h pixels n

abbrev pub submit_refused : Shape → ℕ → ℕ → ℕ → List ℕ → ℕ → Line
submit_refused shape k w h pixels number = called (submit default_choice shape k w h pixels) number [] pixels

abbrev pub ticks : ℕ → Line
ticks n = called tick 0 (n ∷ []) []

abbrev pub idles : Line
idles = called tick 0 [] []

abbrev pub collects : ℕ → List ℕ → List ℕ → Line
collects n lent pixels = called (collect n lent) 0 (n ∷ []) pixels

abbrev pub collect_refused : ℕ → List ℕ → ℕ → Line
collect_refused n lent number = called (collect n lent) number [] lent

abbrev pub withdraws : ℕ → Line
withdraws n = called (withdraw n) 0 (n ∷ []) []

abbrev pub withdraw_refused : ℕ → ℕ → Line
withdraw_refused n number = called (withdraw n) number [] []

abbrev pub free : ℕ → Line
free n = counted 0 (n ∷ [])

-- "The record keeps, per seat, job number .., xx, xy, yy, steps, steps left, w, h"
abbrev pub seat : ℕ → ℤ → ℤ → ℤ → ℕ → ℕ → ℕ → ℕ → Slot
seat number xx xy yy steps left w h =
    record {
      number = number;
      xx = xx;
      xy = xy;
      yy = yy;
      steps = steps;
      left = left;
      width = w;
      height = h;
      free = 0;
    }

-- "Each seat gains f"
abbrev pub seat_with : ℕ → Slot → Slot
seat_with f s =
    record {
      number = s.number;
      xx = s.xx;
      xy = s.xy;
      yy = s.yy;
      steps = s.steps;
      left = s.left;
      width = s.width;
      height = s.height;
      free = f;
    }

abbrev pub none : Slot
none = seat 0 (pos 0) (pos 0) (pos 0) 0 0 0 0

-- ".. and the last number given, the seat last filled, the seat last served"
abbrev pub keeps : List Slot → ℕ → ℕ → ℕ → Service
keeps slots last filled served = record { slots = slots; last = last; filled = filled; served = served }

abbrev pub placed_by : Rules → Service → List ℕ → Place
placed_by rules r store = record { rules = rules; service = r; store = store; history = [] }

abbrev pub placed : Service → List ℕ → Place
placed r store = placed_by base_rules r store
