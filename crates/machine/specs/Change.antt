-- S-3, "Units in the field change over while running": an old record becomes a new one. Definitions only.
use Rattle.std.specs.Prelude.{not, cond, ◌&&◌, [], ◌∷◌, map, ℕ, Result, Ok, Err}
use Rattle.limits.specs.Errors.{Outcome, ◌otherwise◌, first_refusal}
use Rattle.limits.specs.declared.ErrorCode.{ErrorCode}
use Rattle.limits.specs.declared.ErrorCode.TheVariants.{RecordOutOfOrder}
use Rattle.kernel.specs.declared.Choice.TheVariants.{Smallest}
use Rattle.kernel.specs.Choice.{free_by}
use Rattle.machine.specs.declared.Slot.{Slot}
use Rattle.machine.specs.declared.Service.{Service}
use Rattle.machine.specs.declared.BaseSlot.{BaseSlot}
use Rattle.machine.specs.declared.BaseService.{BaseService}
use Rattle.machine.specs.Rules.{Rules, base_rules}
use Rattle.machine.specs.Slots.{is_empty}
use Rattle.machine.specs.Order.{in_order}

-- ---- the old record, which has no f: in one record for every time f is 0 there, and no definition by the base rules reads it
abbrev pub slot_from_base : BaseSlot → Slot
slot_from_base old =
    record {
      number = old.number;
      xx = old.xx;
      xy = old.xy;
      yy = old.yy;
      steps = old.steps;
      left = old.left;
      width = old.width;
      height = old.height;
      free = 0;
    }

abbrev pub service_from_base : BaseService → Service
service_from_base r = record { slots = map slot_from_base r.slots; last = r.last; filled = r.filled; served = r.served }

-- ---- the change-over
-- a slot with this f
abbrev pub with_free : Slot → ℕ → Slot
with_free s free =
    record {
      number = s.number;
      xx = s.xx;
      xy = s.xy;
      yy = s.yy;
      steps = s.steps;
      left = s.left;
      width = s.width;
      height = s.height;
      free = free;
    }

-- ".. with the smallest f in each filled seat", "0 when empty"
abbrev pub changed_slot : Slot → Slot
changed_slot s = with_free s (cond (is_empty s) 0 (free_by Smallest s.xx s.xy s.yy s.steps))

-- "An old record becomes a new one": every other field is kept, "turn order and job numbers carry on"
abbrev pub changed_over : Service → Service
changed_over r = record { slots = map changed_slot r.slots; last = r.last; filled = r.filled; served = r.served }

-- "one not in order by the old rule gets 2", and so does one that has changed over already
abbrev pub change_checks : Rules → Service → Outcome
change_checks rules r = first_refusal (((not rules.holds_choice && in_order rules r) otherwise RecordOutOfOrder) ∷ [])

-- ---- the call, which takes the old record and gives the new one; beside a refusal there is none
abbrev pub change_with : Outcome → Service → Result Service ErrorCode
change_with (Ok done) r = Ok r
change_with (Err code) r = Err code

abbrev pub change_of : BaseService → Result Service ErrorCode
change_of old = change_with (change_checks base_rules (service_from_base old)) (changed_over (service_from_base old))
