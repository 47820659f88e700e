-- The store: "16 buffers of 1024 pixels; seat i has buffers 2i and 2i+1". Definitions only.
use Rattle.std.specs.Prelude.{List, ◌++◌, ℕ, ◌+◌, ◌-◌, ◌*◌, ◌%◌, ◌<◌, ◌≤◌, length, take, drop}
use Rattle.limits.specs.Limits.{buffer_pixels}
use Rattle.machine.specs.declared.Slot.{Slot}
use Rattle.machine.specs.Rules.{Rules}

-- "The store has 16 buffers of 1024 pixels"
abbrev pub store_buffers : ℕ
store_buffers = 16

-- 16,384 pixels
abbrev pub store_length : ℕ
store_length = store_buffers * buffer_pixels

-- how many buffers the slots have together: by the base rules all 16 of the store
abbrev pub buffer_count : Rules → ℕ
buffer_count rules = rules.slot_count * rules.buffers_per_slot

-- rules that a service can run by: there is a slot, each has a buffer, and all their buffers are in the store
pub record Workable (rules : Rules) : Type 0 where
  pub some_slot : 0 < rules.slot_count
  pub some_buffer : 0 < rules.buffers_per_slot
  pub in_store : buffer_count rules ≤ store_buffers

-- n entries from a place on
abbrev pub part : ℕ → ℕ → List ℕ → List ℕ
part start n store = take n (drop start store)

-- the store with these entries in the place of those that stood there
abbrev pub put : ℕ → List ℕ → List ℕ → List ℕ
put start entries store = take start store ++ (entries ++ drop (start + length entries) store)

-- "seat i has buffers 2i and 2i+1"; "The current picture is in buffer 2i after an even number of steps done, in 2i+1 after an odd
-- one": where it starts. The steps go round the buffers of the slot
abbrev pub buffer_after : Rules → ℕ → ℕ → ℕ
buffer_after rules i done = buffer_pixels * (rules.buffers_per_slot * i + done % rules.buffers_per_slot)

abbrev pub pixel_count : Slot → ℕ
pixel_count s = s.width * s.height

abbrev pub steps_done : Slot → ℕ
steps_done s = s.steps - s.left

-- the current picture of slot i
abbrev pub current_image : Rules → List ℕ → ℕ → Slot → List ℕ
current_image rules store i s = part (buffer_after rules i (steps_done s)) (pixel_count s) store
