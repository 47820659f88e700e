-- For the contracts of the private functions that cut a float to a whole number: bounds on its size, and the whole numbers
-- next to it. Definitions only.
use Rattle.std.specs.Prelude.{◌≡◌, ℕ, ◌+◌, ◌-◌, ◌*◌, ◌/◌, ◌≤◌, true, false, Float}
use Rattle.std.specs.Float.{nan, inf, fin}
use Rattle.std.specs.Float.Ieee.{up, down}
use Rattle.limits.specs.Limits.{units_per_square_pixel}

-- in square pixels: no entry of an accepted Round or Oval is larger in size, since it comes of two variances at most, and
-- each is at most 64
abbrev pub most_squares : ℕ
most_squares = 128

abbrev pub most_units : ℕ
most_units = units_per_square_pixel * most_squares

abbrev pub most_halves : ℕ
most_halves = 2 * most_units

-- x is finite, and at most b in size
abbrev pub Within : ℕ → Float → Type 0
Within b nan = ⊥
Within b (inf s) = ⊥
Within b (fin s m e) = m * up e ≤ b * down e

-- x is a number from 0 to b; −0.0 is one
abbrev pub UpTo : ℕ → Float → Type 0
UpTo b nan = ⊥
UpTo b (inf s) = ⊥
UpTo b (fin false m e) = m * up e ≤ b * down e
UpTo b (fin true m e) = m * up e ≡ 0

-- the whole number at the size of x, or next below it, or next above it
abbrev pub whole_below : Float → ℕ
whole_below nan = 0
whole_below (inf s) = 0
whole_below (fin s m e) = m * up e / down e

abbrev pub whole_above : Float → ℕ
whole_above nan = 0
whole_above (inf s) = 0
whole_above (fin s m e) = (m * up e + down e - 1) / down e
