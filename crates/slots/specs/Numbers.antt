-- The numbers of the slots by themselves, and the test of a slot after the earlier ones. Definitions only.
use Rattle.std.specs.Prelude.{Bool, cond, ◌&&◌, List, ℕ, zero, suc, ◌+◌, eqb, get_or}
use Rattle.image.specs.Image.{entries}
use Rattle.machine.specs.declared.Slot.{Slot}
use Rattle.machine.specs.Rules.{Rules}
use Rattle.machine.specs.Slots.{empty_slot, is_empty}
use Rattle.machine.specs.Order.{all_zero, filled_fine}

abbrev pub number_at : List Slot → ℕ → ℕ
number_at slots i = (get_or slots i empty_slot).number

-- the numbers of the first n slots
abbrev pub numbers_of : ℕ → List Slot → List ℕ
numbers_of n slots = entries n (number_at slots)

-- how many of the first n numbers are this one
unfoldable pub occurrences_of : List ℕ → ℕ → ℕ → ℕ
occurrences_of numbers number zero = 0
occurrences_of numbers number (suc n) =
    cond (eqb (get_or numbers n 0) number) (occurrences_of numbers number n + 1) (occurrences_of numbers number n)

-- the test of the slot at a place: the number of a filled one is none of the numbers before
unfoldable pub slot_fine_after : Rules → ℕ → List ℕ → ℕ → Slot → Bool
slot_fine_after rules last numbers place s =
    cond (is_empty s) (all_zero rules s) (filled_fine rules last s && eqb (occurrences_of numbers s.number place) 0)
