-- Parts of the running calls, in terms of the state machine. Definitions only.
use Rattle.std.specs.Prelude.{List, [], ◌∷◌, ℕ, length, set, Option, Some, None, Result as ResultOf, Ok, Err}
use Rattle.limits.specs.Limits.{steps_in_range, sides_in_range, fills_picture, fits_buffer}
use Rattle.limits.specs.Errors.{Check, ◌otherwise◌, first_refusal}
use Rattle.limits.specs.declared.ErrorCode.{ErrorCode}
use Rattle.limits.specs.declared.ErrorCode.TheVariants.{StepsOutOfRange, SideOutOfRange, NoSuchJob, WrongLength, TooManyPixels, NoFreeBuffers}
use Rattle.machine.specs.declared.Slot.{Slot}
use Rattle.machine.specs.declared.Service.{Service}
use Rattle.machine.specs.Rules.{current_rules}
use Rattle.machine.specs.Slots.{slot_at}
use Rattle.machine.specs.Store.{put, buffer_after}
use Rattle.machine.specs.Calls.{Result, place_of, hand_over_checks, unless_refused, collect_at}
use Rattle.machine.specs.declared.Answer.TheVariants.{Job}

-- the slot of a job, or refusal 7
abbrev pub found_or : Option ℕ → ResultOf ℕ ErrorCode
found_or (Some i) = Ok i
found_or None = Err NoSuchJob

abbrev pub job_found : Service → ℕ → ResultOf ℕ ErrorCode
job_found r number = found_or (place_of current_rules r number)

-- the checks of a submit that look at sizes alone: refusals 5, 6, 9 and 10
abbrev pub size_checks : ℕ → ℕ → ℕ → ℕ → List Check
size_checks k w h pixels =
    (steps_in_range k otherwise StepsOutOfRange)
    ∷ (sides_in_range w h otherwise SideOutOfRange)
    ∷ (fills_picture pixels w h otherwise WrongLength)
    ∷ (fits_buffer w h otherwise TooManyPixels)
    ∷ []

-- a submit that passed its checks, with its slot at hand
abbrev pub fill_at : Service → List ℕ → Slot → List ℕ → Option ℕ → Result
fill_at r store slot pixels (Some i) =
    record {
      answer = Ok (Job slot.number);
      service = record { slots = set r.slots i slot; last = slot.number; filled = i; served = r.served };
      store = put (buffer_after current_rules i 0) pixels store;
      lent = pixels;
    }
fill_at r store slot pixels None = record { answer = Err NoFreeBuffers; service = r; store = store; lent = pixels }

-- a collect that found its slot
abbrev pub hand_over : Service → List ℕ → ℕ → List ℕ → ℕ → Result
hand_over r store number lent i =
    unless_refused (first_refusal (hand_over_checks (slot_at r i) (length lent))) r store lent (collect_at current_rules r store number lent (Some i))
