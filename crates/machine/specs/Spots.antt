-- docs/REFERENCE.md, "Bright spots", of the service: what a tick does to the picture of the job that it answers, and the words
-- for a picture that a collect hands over. Definitions only; `proofs/Spots` has the theorems.
use Rattle.std.specs.Prelude.{◌≡◌, List, ℕ, length, Ok}
use Rattle.averaging.specs.Extrema.{NonEnhancement}
use Rattle.machine.specs.declared.Service.{Service}
use Rattle.machine.specs.Rules.{Rules}
use Rattle.machine.specs.Slots.{slot_at}
use Rattle.machine.specs.Store.{store_length, Workable, current_image}
use Rattle.machine.specs.Calls.{collect, tick_of, stepped_slot}
use Rattle.machine.specs.History.{Place, Entry, opened, after, Submitted, job_of}
use Rattle.machine.specs.Demand.{answer_at, handed_over}
use Rattle.machine.specs.declared.Answer.TheVariants.{Job}

-- from the picture that slot i had before a tick to the one that it has after a step no local maximum rises and no local minimum falls
abbrev pub TickEnhancesNone : Rules → Service → List ℕ → ℕ → Type 0
TickEnhancesNone rules r store i =
    NonEnhancement 1 (slot_at r i).width (slot_at r i).height (current_image rules store i (slot_at r i))
    (current_image rules (tick_of rules r store).store i (stepped_slot (slot_at r i)))

-- an accepted collect in a list from an opening on, by whichever rules a service can run by
pub record Collected : Type 0 where
  pub rules : Rules
  pub store : List ℕ
  pub entries : List Entry
  pub number : ℕ
  pub lent : List ℕ
  pub workable : Workable rules
  pub long : length store ≡ store_length
  pub accepted : answer_at (after (opened rules store) entries) (collect number lent) ≡ Ok (Job number)

abbrev pub place_collected : Collected → Place
place_collected c = after (opened c.rules c.store) c.entries

-- the job as it was submitted, and the picture that it is handed over
abbrev pub job_collected : Collected → Submitted
job_collected c = job_of (place_collected c).history c.number

abbrev pub picture_collected : Collected → List ℕ
picture_collected c = handed_over (place_collected c) c.number c.lent
