-- What is asked of places in the store. Definitions only.
use Rattle.std.specs.Prelude.{◌≡◌, ℕ, ◌+◌, ◌*◌, ◌<◌, ◌≤◌}
use Rattle.limits.specs.Limits.{buffer_pixels}
use Rattle.machine.specs.declared.Slot.{Slot}
use Rattle.machine.specs.Rules.{current_rules}
use Rattle.machine.specs.Slots.{slot_count}
use Rattle.machine.specs.Store.{store_length}
use Rattle.machine.specs.Order.{FilledSlot}

-- a picture of w × h pixels that a buffer holds, at two places inside n pixels
pub record Between (n from to w h : ℕ) : Type 0 where
  pub wide : 1 ≤ w
  pub high : 1 ≤ h
  pub small : w * h ≤ buffer_pixels
  pub source : from + w * h ≤ n
  pub target : to + w * h ≤ n

-- a slot whose picture can be taken one step on
pub record Ready (n : ℕ) (s : Slot) (i : ℕ) : Type 0 where
  pub long : n ≡ store_length
  pub at : i < slot_count
  pub left : 0 < s.left
  pub last : ℕ
  pub filled : FilledSlot current_rules last s
