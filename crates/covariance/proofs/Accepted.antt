-- A direction along an axis is no refusal 4, whichever sign its zero has: the cosine and the sine are 0, 1 or −1, and the sum of
-- their squares is 1. Assumes nothing.
use Rattle.std.proofs.Common.{◌≡◌, ℕ, ◌+◌, ◌*◌, ◌≤◌, Bool, true, false, ◌&&◌, ◌||◌, eqb, ltb, ℤ, pos, sym, refl, ◌∙◌, ap₂, ⊎_elim, mul-le-mul_right, eq-or-lt_of_le, mul-pos, mul-one, arith, lit<, lit≤, lt-ltb, eq-eqb}
use mathlib.Core.Bool.{or-true}
use native.Mathlib.Nat.{mul-mul-mul_comm}
use lib.Ieee.{Float, nan, inf, fin, binary64, up, down, unlike, round, add, mul, lt, eq, le}
use lib.Ieee.Fits.{down_pos}
use lib.Ieee.Exact.{HasValue}
use lib.Ieee.Scale.{round_same}
use Rattle.limits.proofs.Laws.{both_true}
use Rattle.covariance.specs.declared.Direction.{Direction}
use Rattle.covariance.specs.Floats.{◌⊕◌, ◌⊗◌, in_range}
use Rattle.covariance.specs.Shapes.{cosine_in_range, square_in_range, direction_in_range}
use Rattle.covariance.specs.Axes.{is_zero, is_unit, along_x, along_y}
use Rattle.covariance.proofs.Zeros.{zero_of, unit_of, zero_value, unit_value}

-- ---- a float of at most 1 in size lies from −1 to 1
at_most : (a b : ℕ) → a ≤ b → (ltb a b || (eqb a b && true) ≡ true) × (ltb a b || (eqb b a && true) ≡ true)
at_most a b l =
    ⊎_elim (λ e. (rw (eq-eqb a b e) (or-true (ltb a b)), rw (eq-eqb b a (sym e)) (or-true (ltb a b))))
    (λ g. (rw (lt-ltb a b g), rw (lt-ltb a b g))) (eq-or-lt_of_le l)

module _ (s : Bool) (n : ℕ) (l : n ≤ 1) where
  size_le : (m : ℕ) (e : ℤ) → m * up e * 1 ≡ n * down e → m * up e * 1 ≤ 1 * down e
  size_le m e v = omega (arith, v, mul-le-mul_right (down e) l)

  from_minus_one : (x : Float) → HasValue x s n 1 → le (fin true 1 (pos 0)) x ≡ true
  unfolding le lt eq
  from_minus_one nan v = absurd v
  from_minus_one (inf t) v = absurd v
  from_minus_one (fin false m e) v = rw (lt-ltb 0 (1 * down e + m * up e * 1) (omega (arith, down_pos e)))
  from_minus_one (fin true m e) v = (at_most (m * up e * 1) (1 * down e) (size_le m e v.1)).1

  to_one : (x : Float) → HasValue x s n 1 → le x (fin false 1 (pos 0)) ≡ true
  unfolding le lt eq
  to_one nan v = absurd v
  to_one (inf t) v = absurd v
  to_one (fin true m e) v = rw (lt-ltb 0 (m * up e * 1 + 1 * down e) (omega (arith, down_pos e)))
  to_one (fin false m e) v = (at_most (m * up e * 1) (1 * down e) (size_le m e v.1)).0

  in_unit_range : (x : Float) → HasValue x s n 1 → cosine_in_range x ≡ true
  unfolding cosine_in_range in_range
  in_unit_range x v = rw (from_minus_one x v, to_one x v)

-- ---- its square is that of the whole number that it equals
square : (x : Float) (s : Bool) (n : ℕ) → HasValue x s n 1 → x ⊗ x ≡ round binary64 (unlike s s) (n * n) 1
unfolding mul
square nan s n v = absurd v
square (inf t) s n v = absurd v
square (fin t m e) s n v =
    rw v.0
    (round_same binary64 (unlike s s) (m * up e * (m * up e)) (down e * down e) (n * n) 1 (mul-pos (down_pos e) (down_pos e)) (lit< tt)
    (mul-one (m * up e * (m * up e)) ∙ ap₂ ◌*◌ whole whole ∙ mul-mul-mul_comm n (down e) n (down e)))
  where
    whole : m * up e ≡ n * down e
    whole = sym (mul-one (m * up e)) ∙ v.1

unit_squared : (x : Float) (s : Bool) → HasValue x s 1 1 → x ⊗ x ≡ unit_of false
unfolding round
unit_squared x true v = square x true 1 v
unit_squared x false v = square x false 1 v

zero_squared : (x : Float) (s : Bool) → HasValue x s 0 1 → x ⊗ x ≡ zero_of false
unfolding round
zero_squared x true v = square x true 0 v
zero_squared x false v = square x false 0 v

one_in_range : (square_in_range (unit_of false ⊕ zero_of false) ≡ true) × (square_in_range (zero_of false ⊕ unit_of false) ≡ true)
unfolding square_in_range in_range le add
one_in_range = (refl, refl)

-- ALONG X, AND ALONG Y, A DIRECTION IS ACCEPTED
pub accepted_along_x : (d : Direction) → along_x d ≡ true → direction_in_range d ≡ true
unfolding along_x direction_in_range
accepted_along_x d h =
    let tests = both_true (is_unit d.cosine) (is_zero d.sine) h in
    let c = unit_value d.cosine tests.0 in
    let s = zero_value d.sine tests.1 in
    rw (
      in_unit_range c.0 1 (lit≤ tt) d.cosine c.1,
      in_unit_range s.0 0 (lit≤ tt) d.sine s.1,
      unit_squared d.cosine c.0 c.1,
      zero_squared d.sine s.0 s.1,
    )
    one_in_range.0

pub accepted_along_y : (d : Direction) → along_y d ≡ true → direction_in_range d ≡ true
unfolding along_y direction_in_range
accepted_along_y d h =
    let tests = both_true (is_zero d.cosine) (is_unit d.sine) h in
    let c = zero_value d.cosine tests.0 in
    let s = unit_value d.sine tests.1 in
    rw (
      in_unit_range c.0 0 (lit≤ tt) d.cosine c.1,
      in_unit_range s.0 1 (lit≤ tt) d.sine s.1,
      zero_squared d.cosine c.0 c.1,
      unit_squared d.sine s.0 s.1,
    )
    one_in_range.1
