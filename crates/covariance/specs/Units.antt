-- From the exact value of a float to whole numbers of 1/4096 square pixel ("units"). Definitions only.
use Rattle.std.specs.Prelude.{ℕ, ◌*◌, ◌≤◌, T, ℤ, pos, ◌+ℤ◌, ◌-ℤ◌, ◌*ℤ◌, unsigned_abs, Float}
use Rattle.std.specs.Int.Signed.{shr_z}
use Rattle.std.specs.Float.Ieee.Scale.{finite}
use Rattle.limits.specs.Limits.{units_per_square_pixel}
use Rattle.covariance.specs.Floats.{numerator, denominator}

-- the whole number at n / d or next below it
abbrev pub floor_of : ℤ → ℕ → ℤ
floor_of n d = shr_z n d

-- n / d to the nearest whole number, halves upward: n / d + 1/2 rounded down
abbrev pub nearest_whole : ℤ → ℕ → ℤ
nearest_whole n d = floor_of (pos 2 *ℤ n +ℤ pos d) (2 * d)

-- "The result times 4096 goes to the nearest whole number, halves upward"
unfoldable pub nearest_units : Float → ℤ
nearest_units x = nearest_whole (pos units_per_square_pixel *ℤ numerator x) (denominator x)

-- "It thus lies within half a unit of 4096 times the float value": x has a value n / d, and |u − 4096 × n / d| ≤ 1/2, with
-- both sides times 2 × d
unfoldable pub WithinHalfUnit : ℤ → Float → Type 0
WithinHalfUnit u x =
    T (finite x) × (2 * unsigned_abs (pos (denominator x) *ℤ u -ℤ pos units_per_square_pixel *ℤ numerator x) ≤ denominator x)
