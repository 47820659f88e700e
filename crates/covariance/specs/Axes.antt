-- Directions along an axis, "where one of c, s is 0 and the other 1 or −1 (the two zeros count as equal)". Definitions only.
use Rattle.std.specs.Prelude.{Bool, true, false, ◌&&◌, ◌||◌, pos, Float}
use Rattle.std.specs.Float.{fin}
use Rattle.std.specs.Float.Ieee.{eq}
use Rattle.covariance.specs.declared.Direction.{Direction}

unfoldable pub is_zero : Float → Bool
is_zero x = eq x (fin false 0 (pos 0))

unfoldable pub is_unit : Float → Bool
is_unit x = eq x (fin false 1 (pos 0)) || eq x (fin true 1 (pos 0))

unfoldable pub along_x : Direction → Bool
along_x d = is_unit d.cosine && is_zero d.sine

unfoldable pub along_y : Direction → Bool
along_y d = is_zero d.cosine && is_unit d.sine
