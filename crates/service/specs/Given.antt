-- The change-over as the code makes it: the free number that the kernel's call answers, 0 where it refuses. Definitions only;
-- `proofs/Change` ties it to the state machine's.
use Rattle.std.specs.Prelude.{cond, ℕ, map}
use Rattle.std.specs.Result.{result_unwrap_or}
use Rattle.kernel.specs.declared.Choice.TheVariants.{Smallest}
use Rattle.kernel.specs.Answer.{free_answer}
use Rattle.machine.specs.declared.Slot.{Slot}
use Rattle.machine.specs.declared.Service.{Service}
use Rattle.machine.specs.Slots.{is_empty}
use Rattle.machine.specs.Change.{with_free}

abbrev pub free_given : Slot → ℕ
free_given s = cond (is_empty s) 0 (result_unwrap_or (free_answer Smallest s.xx s.xy s.yy s.steps) 0)

abbrev pub slot_given : Slot → Slot
slot_given s = with_free s (free_given s)

abbrev pub service_given : Service → Service
service_given r = record { slots = map slot_given r.slots; last = r.last; filled = r.filled; served = r.served }
