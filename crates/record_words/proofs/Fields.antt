-- The fields of the record that words hold, each by the words that it is read from: for calls that make no record of them. Assumes nothing.
use mathlib.Core.Path.{◌≡◌, refl, ap}
use mathlib.Core.List.{List}
use Prim.Native.Nat.{ℕ, ◌<◌}
use Rattle.averaging.proofs.Images.{entry}
use Rattle.machine.specs.declared.Slot.{Slot}
use Rattle.machine.specs.Rules.{current_rules}
use Rattle.machine.specs.Slots.{slot_count, slot_at, empty_slot}
use Rattle.record_words.specs.Words.{word_at, slot_of, service_of}

module _ (words : List ℕ) where
  pub held_slot : (i : ℕ) → i < slot_count → slot_at (service_of current_rules words) i ≡ slot_of current_rules words i
  unfolding service_of
  held_slot i h = entry slot_count (slot_of current_rules words) empty_slot i h

  pub held_number : (i : ℕ) → i < slot_count → (slot_at (service_of current_rules words) i).number ≡ word_at current_rules words i 0
  unfolding slot_of
  held_number i h = ap (λ (s : Slot). s.number) (held_slot i h)

  pub held_left : (i : ℕ) → i < slot_count → (slot_at (service_of current_rules words) i).left ≡ word_at current_rules words i 5
  unfolding slot_of
  held_left i h = ap (λ (s : Slot). s.left) (held_slot i h)

  pub held_last : (service_of current_rules words).last ≡ word_at current_rules words slot_count 0
  unfolding service_of
  held_last = refl

  pub held_filled : (service_of current_rules words).filled ≡ word_at current_rules words slot_count 1
  unfolding service_of
  held_filled = refl

  pub held_served : (service_of current_rules words).served ≡ word_at current_rules words slot_count 2
  unfolding service_of
  held_served = refl
