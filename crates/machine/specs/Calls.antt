-- The calls of the service: each as a function of the record, the store and what is lent to it, with its refusals in checking
-- order. Definitions only; the contracts of the running calls are equations with these.
use Rattle.std.specs.Prelude.{Bool, true, false, not, cond, List, [], ◌∷◌, ℕ, ◌+◌, ◌-◌, ◌*◌, ◌^◌, leb, ltb, eqb, length, set, ℤ, pos, Option, Some, None, Ok, Err}
use Rattle.limits.specs.Limits.{steps_in_range, sides_in_range, fills_picture, fits_buffer}
use Rattle.limits.specs.Errors.{Outcome, Check, ◌otherwise◌, first_refusal}
use Rattle.limits.specs.declared.ErrorCode.TheVariants.{RecordOutOfOrder, VarianceOutOfRange, NotADirection, StepsOutOfRange, SideOutOfRange, NoSuchJob, StepsAreLeft, WrongLength, TooManyPixels, NoKernel, NoFreeBuffers, NumbersUsedUp}
use Rattle.kernel.specs.declared.Kernel.{Kernel}
use Rattle.kernel.specs.declared.Choice.{Choice}
use Rattle.kernel.specs.declared.Choice.TheVariants.{Smallest}
use Rattle.kernel.specs.Molecule.{units_of, kernel_of, kernel_with}
use Rattle.kernel.specs.Choice.{free_by}
use Rattle.kernel.specs.Existence.{kernel_exists}
use Rattle.covariance.specs.declared.Shape.{Shape}
use Rattle.covariance.specs.Shapes.{variances_fine, direction_fine, covariance_xx, covariance_xy, covariance_yy}
use Rattle.averaging.specs.Steps.{step_of}
use Rattle.machine.specs.declared.Slot.{Slot}
use Rattle.machine.specs.declared.Service.{Service}
use Rattle.machine.specs.Rules.{Rules}
use Rattle.machine.specs.Slots.{empty_slot, slot_at, is_empty, has_steps_left, has_number, next_place, first_from, count_of}
use Rattle.machine.specs.Store.{buffer_count, put, buffer_after, steps_done, current_image}
use Rattle.machine.specs.Order.{in_order, usable}
use Rattle.machine.specs.declared.Answer.TheVariants.{Job, Idle}
use Rattle.machine.specs.Answers.{Answered, FreeCount}

-- what a call leaves behind: its answer, the record, the store, and the picture that was lent to it
pub record Result : Type 0 where
  pub answer : Answered
  pub service : Service
  pub store : List ℕ
  pub lent : List ℕ

-- the largest job number, 2^64 − 1
abbrev pub last_number : ℕ
last_number = 2 ^ 64 - 1

-- "Free buffers are 16 less 2 for each filled seat"
unfoldable pub free_buffers : Rules → Service → ℕ
free_buffers rules r = buffer_count rules - rules.buffers_per_slot * count_of (λ s. not (is_empty s)) r.slots rules.slot_count

-- ---- submit
-- the checks of a submit from refusal 5 to 11, for the covariance of its shape and the number of pixels lent
abbrev pub job_checks : ℤ → ℤ → ℤ → ℕ → ℕ → ℕ → ℕ → List Check → List Check
job_checks xx xy yy k w h pixels rest =
    (steps_in_range k otherwise StepsOutOfRange)
    ∷ (sides_in_range w h otherwise SideOutOfRange)
    ∷ (fills_picture pixels w h otherwise WrongLength)
    ∷ (fits_buffer w h otherwise TooManyPixels)
    ∷ (kernel_exists xx xy yy (units_of k) otherwise NoKernel)
    ∷ rest

-- its checks between refusals 2 and 12, in order: they look only at what the caller hands in
abbrev pub submitted_checks : Shape → ℕ → ℕ → ℕ → List ℕ → List Check → List Check
submitted_checks shape k w h pixels rest =
    (variances_fine shape otherwise VarianceOutOfRange)
    ∷ (direction_fine shape otherwise NotADirection)
    ∷ job_checks (covariance_xx shape) (covariance_xy shape) (covariance_yy shape) k w h (length pixels) rest

-- refusals 12 and 13
abbrev pub room_checks : Rules → Service → List Check
room_checks rules r =
    (leb rules.buffers_per_slot (free_buffers rules r) otherwise NoFreeBuffers) ∷ (ltb r.last last_number otherwise NumbersUsedUp) ∷ []

unfoldable pub submit_checks : Rules → Service → List ℕ → Shape → ℕ → ℕ → ℕ → List ℕ → Outcome
submit_checks rules r store shape k w h pixels =
    first_refusal ((usable rules r store otherwise RecordOutOfOrder) ∷ submitted_checks shape k w h pixels (room_checks rules r))

-- "the first empty seat counted on cyclically from the one after the seat last filled"
abbrev pub empty_place : Rules → Service → Option ℕ
empty_place rules r = first_from is_empty r.slots rules.slot_count (next_place rules.slot_count r.filled) rules.slot_count

-- the choice of a job, by the rules of its submit: the one that it names, and by rules without a choice the smallest, whatever stands
-- in its place: "a job from before it has the smallest choice"
abbrev pub choice_by : Rules → Choice → Choice
choice_by rules choice = cond rules.holds_choice choice Smallest

-- f of a new job as its slot holds it: that of its choice, and nothing by rules without one
abbrev pub free_held : Rules → Choice → Shape → ℕ → ℕ
free_held rules choice shape k = cond rules.holds_choice (free_by choice (covariance_xx shape) (covariance_xy shape) (covariance_yy shape) k) 0

abbrev pub new_slot : Rules → ℕ → Choice → Shape → ℕ → ℕ → ℕ → Slot
new_slot rules number choice shape k w h =
    record {
      number = number;
      xx = covariance_xx shape;
      xy = covariance_xy shape;
      yy = covariance_yy shape;
      steps = k;
      left = k;
      width = w;
      height = h;
      free = free_held rules choice shape k;
    }

-- "Submit fills [that seat], copies the picture to the start of buffer 2i, and gives the next number". After its checks there is an
-- empty seat: the second case cannot occur (`submit_finds` of proofs/Finds).
abbrev pub submit_at : Rules → Service → List ℕ → Choice → Shape → ℕ → ℕ → ℕ → List ℕ → Option ℕ → Result
submit_at rules r store choice shape k w h pixels (Some i) =
    record {
      answer = Ok (Job (r.last + 1));
      service =
          record {
            slots = set r.slots i (new_slot rules (r.last + 1) choice shape k w h);
            last = r.last + 1;
            filled = i;
            served = r.served;
          };
      store = put (buffer_after rules i 0) pixels store;
      lent = pixels;
    }
submit_at rules r store choice shape k w h pixels None =
    record { answer = Err NoFreeBuffers; service = r; store = store; lent = pixels }

-- a refused call: "a refusal answers its number alone; record, store and every lent buffer keep their contents"
abbrev pub unless_refused : Outcome → Service → List ℕ → List ℕ → Result → Result
unless_refused (Ok done) r store lent result = result
unless_refused (Err code) r store lent result =
    record { answer = Err code; service = r; store = store; lent = lent }

unfoldable pub submit_of : Rules → Service → List ℕ → Choice → Shape → ℕ → ℕ → ℕ → List ℕ → Result
submit_of rules r store choice shape k w h pixels =
    unless_refused (submit_checks rules r store shape k w h pixels) r store pixels
    (submit_at rules r store choice shape k w h pixels (empty_place rules r))

-- ---- tick
-- the kernel of a job by what its slot holds: with the slot's f, and by rules without a choice with the smallest
abbrev pub kernel_of_slot : Rules → Slot → Kernel
kernel_of_slot rules s =
    cond rules.holds_choice (kernel_with s.xx s.xy s.yy (pos s.free) s.steps) (kernel_of s.xx s.xy s.yy s.steps)

-- a slot with so many steps left, and with one step less
abbrev pub with_left : Slot → ℕ → Slot
with_left s left =
    record {
      number = s.number;
      xx = s.xx;
      xy = s.xy;
      yy = s.yy;
      steps = s.steps;
      left = left;
      width = s.width;
      height = s.height;
      free = s.free;
    }

abbrev pub stepped_slot : Slot → Slot
stepped_slot s = with_left s (s.left - 1)

-- the record with so many steps left of a slot, which is then the one last served
abbrev pub turned_at : Service → ℕ → ℕ → Service
turned_at r i left =
    record { slots = set r.slots i (with_left (slot_at r i) left); last = r.last; filled = r.filled; served = i }

-- "one step, from the buffer of the current picture to the seat's other one, w × h pixels only"
abbrev pub next_image : Rules → List ℕ → ℕ → Slot → List ℕ
next_image rules store i s = step_of (kernel_of_slot rules s) s.width s.height (current_image rules store i s)

-- "counted cyclically from the one after the seat last served, the first seat with steps left"
abbrev pub served_place : Rules → Service → Option ℕ
served_place rules r = first_from has_steps_left r.slots rules.slot_count (next_place rules.slot_count r.served) rules.slot_count

-- "it answers the job number. It answers idle where no seat has steps left, and only there, and then changes nothing"
abbrev pub tick_at : Rules → Service → List ℕ → Option ℕ → Result
tick_at rules r store (Some i) =
    record {
      answer = Ok (Job (slot_at r i).number);
      service = turned_at r i ((slot_at r i).left - 1);
      store = put (buffer_after rules i (steps_done (slot_at r i) + 1)) (next_image rules store i (slot_at r i)) store;
      lent = [];
    }
tick_at rules r store None = record { answer = Ok Idle; service = r; store = store; lent = [] }

abbrev pub tick_checks : Rules → Service → List ℕ → Outcome
tick_checks rules r store = first_refusal ((usable rules r store otherwise RecordOutOfOrder) ∷ [])

unfoldable pub tick_of : Rules → Service → List ℕ → Result
tick_of rules r store = unless_refused (tick_checks rules r store) r store [] (tick_at rules r store (served_place rules r))

-- ---- collect and withdraw
-- "No seat has this job number (0 included)" is refusal 7
abbrev pub place_of : Rules → Service → ℕ → Option ℕ
place_of rules r number = cond (eqb number 0) None (first_from (has_number number) r.slots rules.slot_count 0 rules.slot_count)

abbrev pub is_found : Option ℕ → Bool
is_found (Some i) = true
is_found None = false

-- the slot that was found; where none was, a call is refused with 7 before it looks at the slot
abbrev pub slot_found : Service → Option ℕ → Slot
slot_found r (Some i) = slot_at r i
slot_found r None = empty_slot

abbrev pub emptied : Service → ℕ → Service
emptied r i = record { slots = set r.slots i empty_slot; last = r.last; filled = r.filled; served = r.served }

-- the checks of a collect after refusal 7, for the slot that was found
abbrev pub hand_over_checks : Slot → ℕ → List Check
hand_over_checks s pixels =
    (not (has_steps_left s) otherwise StepsAreLeft) ∷ (fills_picture pixels s.width s.height otherwise WrongLength) ∷ []

unfoldable pub collect_checks : Rules → Service → List ℕ → ℕ → List ℕ → Outcome
collect_checks rules r store number lent =
    first_refusal
    ((usable rules r store otherwise RecordOutOfOrder)
    ∷ (is_found (place_of rules r number) otherwise NoSuchJob)
    ∷ hand_over_checks (slot_found r (place_of rules r number)) (length lent))

-- "Collect writes it out and empties the seat .. neither changes the store". After its checks the job was found: the second case
-- cannot occur (`collect_finds`).
abbrev pub collect_at : Rules → Service → List ℕ → ℕ → List ℕ → Option ℕ → Result
collect_at rules r store number lent (Some i) =
    record { answer = Ok (Job number); service = emptied r i; store = store; lent = current_image rules store i (slot_at r i) }
collect_at rules r store number lent None =
    record { answer = Err NoSuchJob; service = r; store = store; lent = lent }

unfoldable pub collect_of : Rules → Service → List ℕ → ℕ → List ℕ → Result
collect_of rules r store number lent =
    unless_refused (collect_checks rules r store number lent) r store lent (collect_at rules r store number lent (place_of rules r number))

-- a withdraw is lent no store, so refusal 2 is the record's half alone
abbrev pub withdraw_checks : Rules → Service → ℕ → Outcome
withdraw_checks rules r number =
    first_refusal ((in_order rules r otherwise RecordOutOfOrder) ∷ (is_found (place_of rules r number) otherwise NoSuchJob) ∷ [])

-- "withdraw empties the seat, finished or not". After its checks the job was found: the second case cannot occur
-- (`withdraw_finds`).
abbrev pub withdraw_at : Service → List ℕ → ℕ → Option ℕ → Result
withdraw_at r store number (Some i) =
    record { answer = Ok (Job number); service = emptied r i; store = store; lent = [] }
withdraw_at r store number None =
    record { answer = Err NoSuchJob; service = r; store = store; lent = [] }

unfoldable pub withdraw_of : Rules → Service → List ℕ → ℕ → Result
withdraw_of rules r store number =
    unless_refused (withdraw_checks rules r number) r store [] (withdraw_at r store number (place_of rules r number))

-- ---- the free count, which is lent no store
abbrev pub count_checks : Rules → Service → Outcome
count_checks rules r = first_refusal ((in_order rules r otherwise RecordOutOfOrder) ∷ [])

abbrev pub free_count_with : Outcome → ℕ → FreeCount
free_count_with (Ok done) n = Ok n
free_count_with (Err code) n = Err code

unfoldable pub free_count_of : Rules → Service → FreeCount
free_count_of rules r = free_count_with (count_checks rules r) (free_buffers rules r)

-- ---- all of them as one function
pub data Call : Type 0 where
  submit : Choice → Shape → ℕ → ℕ → ℕ → List ℕ → Call
  tick : Call
  collect : ℕ → List ℕ → Call
  withdraw : ℕ → Call

abbrev pub call_of : Rules → Service → List ℕ → Call → Result
call_of rules r store (submit choice shape k w h pixels) = submit_of rules r store choice shape k w h pixels
call_of rules r store tick = tick_of rules r store
call_of rules r store (collect number lent) = collect_of rules r store number lent
call_of rules r store (withdraw number) = withdraw_of rules r store number
