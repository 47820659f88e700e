-- Rules that a service can run by, whatever their numbers: where the buffers of a slot lie in the store, and where a slot's buffers are
-- free. Assumes nothing.
use mathlib.Core.Path.{◌≡◌, refl}
use mathlib.Core.Bool.{Bool, true, false}
use Prim.Native.Nat.{ℕ, ◌+◌, ◌-◌, ◌*◌, ◌≤◌, ◌<◌}
use native.Mathlib.Nat.{le_trans, mul-le-mul_left, mul_comm, mod-lt}
use native.Mathlib.Omega.{arith}
use borrow.Author.Tests.{le-leb, lt-leb, ltb-true, ltb-false}
use lib.Dec.{leb, ltb}
use Rattle.limits.specs.Limits.{buffer_pixels}
use Rattle.machine.specs.Rules.{Rules, base_rules, current_rules}
use Rattle.machine.specs.Store.{store_length, buffer_count, Workable, buffer_after}

-- in numbers: a slot, a buffer, and slots × buffers × 1024 pixels at most the store's 16,384
pub workable_when : (rules : Rules) → 0 < rules.slot_count → 0 < rules.buffers_per_slot
    → rules.slot_count * rules.buffers_per_slot * 1024 ≤ 16384 → Workable rules
workable_when rules slot buffer room = record { some_slot = slot; some_buffer = buffer; in_store = omega arith }

-- REFERENCE's rules are such rules, and so are those that the calls of this library run by
pub base_workable : Workable base_rules
base_workable = workable_when base_rules (omega arith) (omega arith) (omega arith)

pub current_workable : Workable current_rules
current_workable = workable_when current_rules (omega arith) (omega arith) (omega arith)

-- the buffers of a slot lie in one block of the store
abbrev pub block : Rules → ℕ
block rules = rules.buffers_per_slot * buffer_pixels

module _ (rules : Rules) (workable : Workable rules) where
  abbrev per_slot : ℕ
  per_slot = rules.buffers_per_slot

  block_at : (j : ℕ) → block rules * j ≡ buffer_pixels * (per_slot * j)
  block_at j = omega arith

  -- a buffer lies within its slot's block
  pub from_block : (j done : ℕ) → block rules * j ≤ buffer_after rules j done
  from_block j done = rw (block_at j) (omega arith)

  pub within_block : (j done n : ℕ) → n ≤ buffer_pixels → buffer_after rules j done + n ≤ block rules * (j + 1)
  within_block j done n h =
      let m = mod-lt done workable.some_buffer in
      rw (block_at (j + 1)) (omega arith)

  -- and in the store
  pub in_store : (j done n : ℕ) → j < rules.slot_count → n ≤ buffer_pixels → buffer_after rules j done + n ≤ store_length
  in_store j done n l h =
      let all : per_slot * (j + 1) ≤ per_slot * rules.slot_count = mul-le-mul_left per_slot (omega arith) in
      let e = mul_comm per_slot rules.slot_count in
      let s = workable.in_store in
      le_trans (within_block j done n h) (rw (block_at (j + 1)) (omega arith))

  -- a slot's buffers are free exactly where a slot is
  module _ (held : ℕ) where
    room : held < rules.slot_count → per_slot ≤ buffer_count rules - per_slot * held
    room l =
        let m : per_slot * (held + 1) ≤ per_slot * rules.slot_count = mul-le-mul_left per_slot (omega arith) in
        let e = mul_comm per_slot rules.slot_count in
        omega arith

    full : rules.slot_count ≤ held → buffer_count rules - per_slot * held < per_slot
    full l =
        let m : per_slot * rules.slot_count ≤ per_slot * held = mul-le-mul_left per_slot l in
        let e = mul_comm per_slot rules.slot_count in
        let s = workable.some_buffer in
        omega arith

    pub free_test : leb per_slot (buffer_count rules - per_slot * held) ≡ ltb held rules.slot_count
    free_test = go (ltb held rules.slot_count) refl
      where
        go : (t : Bool) → ltb held rules.slot_count ≡ t → leb per_slot (buffer_count rules - per_slot * held) ≡ t
        go true e = le-leb per_slot (buffer_count rules - per_slot * held) (room (ltb-true held rules.slot_count e))
        go false e = lt-leb per_slot (buffer_count rules - per_slot * held) (full (ltb-false held rules.slot_count e))
