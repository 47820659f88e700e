-- When a service record is in order: refusal 2 is its failure. Definitions only.
use Rattle.std.specs.Prelude.{◌≡◌, Bool, true, cond, ◌&&◌, List, ℕ, ◌≤◌, leb, ltb, eqb, length, ℤ, nat_abs}
use Rattle.limits.specs.Limits.{steps_in_range, sides_in_range, fits_buffer}
use Rattle.kernel.specs.Molecule.{units_of}
use Rattle.kernel.specs.Existence.{kernel_exists, free_fits}
use Rattle.machine.specs.declared.Slot.{Slot}
use Rattle.machine.specs.declared.Service.{Service}
use Rattle.machine.specs.Rules.{Rules}
use Rattle.machine.specs.Slots.{is_empty, has_number, count_of, every_slot}
use Rattle.machine.specs.Store.{store_length}

abbrev pub is_zero : ℤ → Bool
is_zero z = eqb (nat_abs z) 0

-- f of an empty slot, and of a filled one: "Each seat gains f, 0 when empty, and a record in order has f between the two bounds that
-- make all weights nonnegative". By rules without a choice nothing is asked of it
abbrev pub free_zero : Rules → Slot → Bool
free_zero rules s = cond rules.holds_choice (eqb s.free 0) true

abbrev pub free_fine : Rules → Slot → Bool
free_fine rules s = cond rules.holds_choice (free_fits s.xx s.xy s.yy s.free (units_of s.steps)) true

-- "each empty seat is all zero"
unfoldable pub all_zero : Rules → Slot → Bool
all_zero rules s =
    is_zero s.xx && (is_zero s.xy && (is_zero s.yy
    && (eqb s.steps 0 && (eqb s.left 0 && (eqb s.width 0 && (eqb s.height 0 && free_zero rules s))))))

-- "each filled one meets refusals 5, 6 and 10's limits, has a kernel, a number from 1 to the last given .., steps left at
-- most its steps"
unfoldable pub filled_fine : Rules → ℕ → Slot → Bool
filled_fine rules last s =
    (steps_in_range s.steps && (kernel_exists s.xx s.xy s.yy (units_of s.steps) && free_fine rules s))
    && (sides_in_range s.width s.height && (fits_buffer s.width s.height && (leb s.number last && leb s.left s.steps)))

-- the same facts of a filled slot one by one, for contracts that ask for them
pub record FilledSlot (rules : Rules) (last : ℕ) (s : Slot) : Type 0 where
  pub steps : steps_in_range s.steps ≡ true
  pub kernel : kernel_exists s.xx s.xy s.yy (units_of s.steps) ≡ true
  pub free : free_fine rules s ≡ true
  pub sides : sides_in_range s.width s.height ≡ true
  pub fits : fits_buffer s.width s.height ≡ true
  pub number : s.number ≤ last
  pub left : s.left ≤ s.steps

-- ".. shared with no other seat"
abbrev pub unshared : Rules → List Slot → Slot → Bool
unshared rules slots s = eqb (count_of (has_number s.number) slots rules.slot_count) 1

unfoldable pub slot_fine : Rules → Service → Slot → Bool
slot_fine rules r s = cond (is_empty s) (all_zero rules s) (filled_fine rules r.last s && unshared rules r.slots s)

-- "and both named seats are 0 to 7", each a slot
unfoldable pub in_order : Rules → Service → Bool
in_order rules r = every_slot (slot_fine rules r) r.slots rules.slot_count && (ltb r.filled rules.slot_count && ltb r.served rules.slot_count)

-- "The service record is not in order, or the store's length is not 16,384": refusal 2 of a call that is lent the store
unfoldable pub usable : Rules → Service → List ℕ → Bool
usable rules r store = in_order rules r && eqb (length store) store_length
