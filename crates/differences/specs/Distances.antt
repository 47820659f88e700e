-- How far the differences of a rounded run may lie from those of the exact run. Definitions only.
use Rattle.std.specs.Prelude.{List, [], ◌∷◌, ℕ, ◌+◌, ◌*◌, ◌^◌, ◌≤◌, ℤ, pos, nat_abs, ◌-ℤ◌, ◌*ℤ◌}
use Rattle.differences.specs.declared.Difference.{Difference}
use Rattle.differences.specs.declared.Difference.TheVariants.{FirstX, FirstY, SecondX, SecondY, Mixed}
use Rattle.differences.specs.Stencils.{Term}

-- the sum of the sizes of a stencil's coefficients
abbrev pub total_size : List Term → ℕ
total_size [] = 0
total_size (t ∷ ts) = nat_abs t.coefficient + total_size ts

-- "within k, 2k and 2k units": so many units for each step
abbrev pub units_per_step : Difference → ℕ
units_per_step FirstX = 1
units_per_step FirstY = 1
units_per_step SecondX = 2
units_per_step SecondY = 2
units_per_step Mixed = 2

-- after j steps with d = 4 × M a difference r of the rounded run lies within c × j units of the exact run's, the whole number
-- e over d ^ j: |r − e / d ^ j| ≤ c × j, with both sides times d ^ j
abbrev pub CloseTo : ℕ → ℕ → ℕ → ℤ → ℤ → Type 0
CloseTo c d j r e = nat_abs (pos (d ^ j) *ℤ r -ℤ e) ≤ c * (j * d ^ j)
