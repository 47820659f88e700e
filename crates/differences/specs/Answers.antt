-- The checks of the calls. Definitions only.
use Rattle.std.specs.Prelude.{List, [], ◌∷◌, ℕ}
use Rattle.limits.specs.Limits.{sides_in_range, fills_picture}
use Rattle.limits.specs.Errors.{Check, ◌otherwise◌}
use Rattle.limits.specs.declared.ErrorCode.TheVariants.{NotADirection, SideOutOfRange, WrongLength}
use Rattle.covariance.specs.declared.Direction.{Direction}
use Rattle.covariance.specs.Shapes.{direction_in_range}

-- refusals 6 and 9, in checking order, of a lent picture and a lent result of so many entries
abbrev pub difference_checks : ℕ → ℕ → ℕ → ℕ → List Check
difference_checks picture result w h =
    (sides_in_range w h otherwise SideOutOfRange)
    ∷ (fills_picture picture w h otherwise WrongLength)
    ∷ (fills_picture result w h otherwise WrongLength)
    ∷ []

-- refusals 4, 6 and 9, in checking order
abbrev pub directional_checks : Direction → ℕ → ℕ → ℕ → ℕ → List Check
directional_checks d picture result w h = (direction_in_range d otherwise NotADirection) ∷ difference_checks picture result w h
