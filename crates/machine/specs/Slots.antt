-- The slots (REFERENCE: seats) of the service record, and searches over them. Definitions only.
use Rattle.std.specs.Prelude.{Bool, true, cond, ◌&&◌, List, ℕ, zero, suc, ◌+◌, ◌-◌, ltb, eqb, get_or, replicate, pos, Option, Some, None}
use Rattle.machine.specs.declared.Slot.{Slot}
use Rattle.machine.specs.declared.Service.{Service}
use Rattle.machine.specs.Rules.{Rules, current_rules}

-- how many there are by the rules that the calls of this library run by: "Eight seats, 0 to 7"
abbrev pub slot_count : ℕ
slot_count = current_rules.slot_count

-- "each empty seat is all zero"
abbrev pub empty_slot : Slot
empty_slot = record { number = 0; xx = pos 0; xy = pos 0; yy = pos 0; steps = 0; left = 0; width = 0; height = 0; free = 0 }

abbrev pub slot_at : Service → ℕ → Slot
slot_at s i = get_or s.slots i empty_slot

-- "Opening: all empty, last number 0, both named seats 7": the last of the slots
abbrev pub opening : Rules → Service
opening rules =
    record {
      slots = replicate rules.slot_count empty_slot;
      last = 0;
      filled = rules.slot_count - 1;
      served = rules.slot_count - 1;
    }

-- what the searches look for: an empty slot, one with steps left, one with a number
abbrev pub is_empty : Slot → Bool
is_empty s = eqb s.number 0

abbrev pub has_steps_left : Slot → Bool
has_steps_left s = ltb 0 s.left

abbrev pub has_number : ℕ → Slot → Bool
has_number n s = eqb s.number n

-- the place after i of so many, counted cyclically
abbrev pub next_place : ℕ → ℕ → ℕ
next_place size i = cond (ltb (i + 1) size) (i + 1) 0

-- the first slot that passes the test, counted on cyclically from a place, looking at n of them
unfoldable pub first_from : (Slot → Bool) → List Slot → ℕ → ℕ → ℕ → Option ℕ
first_from test slots size place zero = None
first_from test slots size place (suc n) =
    cond (test (get_or slots place empty_slot)) (Some place) (first_from test slots size (next_place size place) n)

-- how many of the first n slots pass the test
unfoldable pub count_of : (Slot → Bool) → List Slot → ℕ → ℕ
count_of test slots zero = 0
count_of test slots (suc n) = cond (test (get_or slots n empty_slot)) (count_of test slots n + 1) (count_of test slots n)

-- whether each of the first n places passes a test, and each of the first n slots
unfoldable pub every_place : (ℕ → Bool) → ℕ → Bool
every_place test zero = true
every_place test (suc n) = every_place test n && test n

abbrev pub every_slot : (Slot → Bool) → List Slot → ℕ → Bool
every_slot test slots n = every_place (λ i. test (get_or slots i empty_slot)) n
