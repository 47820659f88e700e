-- What a search is told to look for. Definitions only.
use Rattle.std.specs.Prelude.{◌≡◌, Bool}
use Rattle.machine.specs.declared.Slot.{Slot}

-- what a closure answers of a slot is what the test says of it
abbrev pub Computes : (Slot → Bool → Type 0) → (Slot → Bool) → Type 0
Computes answers test = (slot : Slot) (answer : Bool) → answers slot answer → answer ≡ test slot
