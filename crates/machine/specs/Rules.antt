-- The rules by which a service runs. docs/REFERENCE.md gives the first, and change requests change them while a service runs: so
-- the state machine takes them as a parameter, and each place in a list of calls has its own. Definitions only.
use Rattle.std.specs.Prelude.{Bool, true, false, ℕ}

pub record Rules : Type 0 where
  -- how many slots there are (REFERENCE: seats)
  pub slot_count : ℕ
  -- how many buffers of the store each slot has
  pub buffers_per_slot : ℕ
  -- whether a slot holds f, and so a submit may name a choice
  pub holds_choice : Bool

-- REFERENCE: "Eight seats, 0 to 7"; "seat i has buffers 2i and 2i+1"
abbrev pub base_rules : Rules
base_rules = record { slot_count = 8; buffers_per_slot = 2; holds_choice = false }

-- S-3: "Each seat gains f". The change-over leads from rules without a choice to these, and changes no number of them
abbrev pub with_choice : Rules → Rules
with_choice rules = record { slot_count = rules.slot_count; buffers_per_slot = rules.buffers_per_slot; holds_choice = true }

abbrev pub choice_rules : Rules
choice_rules = with_choice base_rules

-- the rules that the calls of this library run by, as its code has them
abbrev pub current_rules : Rules
current_rules = choice_rules
