-- Rounding to the nearest whole number, halves up: within half, monotone, and it moves no further than what is rounded.
-- Assumes nothing.
use mathlib.Core.Path.{◌≡◌, ap, subst, ◌∙◌}
use Prim.Native.Nat.{ℕ, ◌+◌, ◌*◌, ◌/◌, ◌%◌, ◌≤◌, ◌<◌}
use native.Mathlib.Nat.{mul_comm, add_right_comm, le_trans}
use native.Mathlib.Nat.{add-mul-div_left, mul-div-le, lt-mul-div-succ, le-div_iff_mul-le, div-mul-le_self, div-eq_of_lt}
use native.Mathlib.Omega.{arith}
use Rattle.averaging.specs.Steps.{nearest}

-- s / d is less than half above the whole number that it is rounded to ..
pub nearest_above : (s d : ℕ) → d % 2 ≡ 0 → 0 < d → 2 * s < 2 * d * nearest s d + d
nearest_above s d e l = omega (arith, lt-mul-div-succ (s + d / 2) l)

-- .. and at most half below
pub nearest_below : (s d : ℕ) → d % 2 ≡ 0 → 2 * d * nearest s d ≤ 2 * s + d
nearest_below s d e = omega (arith, mul-div-le (s + d / 2) d)

-- more is not rounded to less
pub nearest_monotone : (s t d : ℕ) → 0 < d → s ≤ t → nearest s d ≤ nearest t d
nearest_monotone s t d l h = (le-div_iff_mul-le l).1 (le_trans (div-mul-le_self (s + d / 2) d) (omega arith))

-- c more before rounding is c more after it
pub nearest_plus : (s c d : ℕ) → 0 < d → nearest (s + d * c) d ≡ nearest s d + c
nearest_plus s c d l = ap (λ x. x / d) (add_right_comm s (d * c) (d / 2)) ∙ add-mul-div_left (s + d / 2) c l

-- at most c more before rounding is at most c more after it
pub nearest_moves : (s t c d : ℕ) → 0 < d → s ≤ t + d * c → nearest s d ≤ nearest t d + c
nearest_moves s t c d l h = subst (λ x. nearest s d ≤ x) (nearest_plus t c d l) (nearest_monotone s (t + d * c) d l h)

-- what is at most the whole number c is rounded to at most c
pub nearest_at_most : (s c d : ℕ) → 0 < d → s ≤ d * c → nearest s d ≤ c
nearest_at_most s c d l h =
    let none : nearest 0 d ≡ 0 = div-eq_of_lt (omega arith) in
    omega (arith, nearest_moves s 0 c d l (omega arith))

-- what is at least the whole number c is rounded to at least c
pub nearest_at_least : (s c d : ℕ) → 0 < d → d * c ≤ s → c ≤ nearest s d
nearest_at_least s c d l h = (le-div_iff_mul-le l).1 (omega (arith, h, mul_comm c d))
