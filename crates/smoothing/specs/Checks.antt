-- The part of a run's checks that its step count and its pictures decide. Only private contracts and laws cite it: what a run
-- checks stands whole in `specs/Runs`. Definitions only.
use Rattle.std.specs.Prelude.{List, [], ◌∷◌, ℕ}
use Rattle.limits.specs.Limits.{steps_in_range, sides_in_range, fills_picture}
use Rattle.limits.specs.Errors.{Check, ◌otherwise◌}
use Rattle.limits.specs.declared.ErrorCode.TheVariants.{StepsOutOfRange, SideOutOfRange, WrongLength}

-- refusals 5, 6 and 9, in checking order, of two lent pictures of so many pixels
abbrev pub picture_checks : ℕ → ℕ → ℕ → ℕ → ℕ → List Check
picture_checks k w h first second =
    (steps_in_range k otherwise StepsOutOfRange)
    ∷ (sides_in_range w h otherwise SideOutOfRange)
    ∷ (fills_picture first w h otherwise WrongLength)
    ∷ (fills_picture second w h otherwise WrongLength)
    ∷ []
