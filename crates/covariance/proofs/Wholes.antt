-- The whole numbers next to a float x from 0 to b, for a b up to which floats have no gaps: the cast to an integer gives the
-- one below, and comparing that with x tells whether the one above is another. Assumes nothing.
use Rattle.std.proofs.Common.{◌≡◌, ℕ, ◌+◌, ◌-◌, ◌*◌, ◌/◌, ◌^◌, ◌<◌, ◌≤◌, min, true, false, T, ℤ, pos, sym, ap, ◌∙◌, true≢false, le_trans, le_of_eq, lt_of_le_of_lt, mul_comm, add-mul, lt_of_mul-lt-mul_right, mul-lt-mul_of_pos_right, mul-one, mul_right_comm, div-mul-le_self, le_of_mul-le-mul_right, arith, le→leb, lt→ltb, ltb-false, ltb-true}
use native.Mathlib.Nat.{div-eq_of_lt-le, lt-div-mul-add, div-le_of_le-mul, zero-div}
use lib.Ieee.{Float, nan, inf, fin, binary64, up, down, lt, of_int, in_float, to_unsigned}
use lib.Ieee.Fits.{down_pos}
use lib.Ieee.Exact.{HasValue}
use lib.Ieee.Back.{round_whole}
use Rattle.covariance.specs.Cuts.{UpTo, whole_below, whole_above}

-- ---- the whole number above a / d is the one below, or one more
above_is_more : (a d : ℕ) → 0 < d → a / d * d < a → a / d + 1 ≡ (a + d - 1) / d
above_is_more a d p h =
    let q = a / d in
    sym (div-eq_of_lt-le d (omega (arith, add-mul q 1 d)) (omega (arith, add-mul (q + 1) 1 d, add-mul q 1 d, lt-div-mul-add {a = a} p)))

above_is_same : (a d : ℕ) → 0 < d → a ≤ a / d * d → a / d ≡ (a + d - 1) / d
above_is_same a d p h = let q = a / d in sym (div-eq_of_lt-le d (omega (arith, div-mul-le_self a d)) (omega (arith, add-mul q 1 d)))

-- ---- a whole number t as a float, compared with a float
level : (t : ℕ) (n : ℕ) (k e : ℤ) → n * up k * 1 ≡ t * down k → t * down e * down k ≡ n * up k * down e
level t n k e v = mul_right_comm t (down e) (down k) ∙ ap (λ z. z * down e) (sym v ∙ mul-one (n * up k))

is_less : (t : ℕ) (y : Float) (m : ℕ) (e : ℤ) → HasValue y false t 1 → lt y (fin false m e) ≡ true → t * down e < m * up e
unfolding lt
is_less t nan m e v h = absurd v
is_less t (inf s) m e v h = absurd v
is_less t (fin true n k) m e v h = absurd (true≢false v.0)
is_less t (fin false n k) m e v h = lt_of_mul-lt-mul_right (down k) (rw (level t n k e v.1) (ltb-true (n * up k * down e) (m * up e * down k) h))

not_less : (t : ℕ) (y : Float) (m : ℕ) (e : ℤ) → HasValue y false t 1 → lt y (fin false m e) ≡ false → m * up e ≤ t * down e
unfolding lt
not_less t nan m e v h = absurd v
not_less t (inf s) m e v h = absurd v
not_less t (fin true n k) m e v h = absurd (true≢false v.0)
not_less t (fin false n k) m e v h = le_of_mul-le-mul_right (rw (level t n k e v.1) (ltb-false (n * up k * down e) (m * up e * down k) h)) (down_pos k)

never_less : (t : ℕ) (y : Float) (m : ℕ) (e : ℤ) → HasValue y false t 1 → lt y (fin true m e) ≡ true → ⊥
unfolding lt
never_less t nan m e v h = v
never_less t (inf s) m e v h = v
never_less t (fin true n k) m e v h = true≢false v.0
never_less t (fin false n k) m e v h = true≢false (sym h)

module _ (b : ℕ) (small : b ≤ 2 ^ 53) where
  -- ---- the cast
  room : (a d : ℕ) → 0 < d → a ≤ b * d → a * 1 < 2 ^ 64 * d
  room a d p h =
      let c : b < 2 ^ 64 = lt_of_le_of_lt small (omega arith) in
      lt_of_le_of_lt (le_trans (le_of_eq (mul-one a)) h) (mul-lt-mul_of_pos_right c p)

  pub castable : (x : Float) → UpTo b x → T (lt (fin true 1 (pos 0)) x) × T (lt x (fin false 1 (pos 64)))
  unfolding lt
  castable nan h = absurd h
  castable (inf s) h = absurd h
  castable (fin false m e) h = (lt→ltb _ _ (some (down e) (m * up e) (down_pos e)), lt→ltb _ _ (room (m * up e) (down e) (down_pos e) h))
    where
      some : (d a : ℕ) → 0 < d → 0 < 1 * d + a * 1
      some d a p = omega arith
  castable (fin true m e) h = (lt→ltb _ _ (none (down e) (m * up e) (down_pos e) h), lt→ltb _ _ (some (down e) (m * up e) (down_pos e)))
    where
      none : (d a : ℕ) → 0 < d → a ≡ 0 → a * 1 < 1 * d
      none d a p h = omega arith

      some : (d a : ℕ) → 0 < d → 0 < a * 1 + 2 ^ 64 * d
      some d a p = omega arith

  pub below_le : (x : Float) → UpTo b x → whole_below x ≤ b
  below_le nan h = absurd h
  below_le (inf s) h = absurd h
  below_le (fin false m e) h = div-le_of_le-mul (down e) (le_trans h (le_of_eq (mul_comm b (down e))))
  below_le (fin true m e) h = rw h (rw zero-div (omega arith))

  pub cast_is_below : (x : Float) → UpTo b x → to_unsigned 64 x ≡ whole_below x
  unfolding to_unsigned
  cast_is_below nan h = absurd h
  cast_is_below (inf s) h = absurd h
  cast_is_below (fin false m e) h = least (m * up e / down e) (below_le (fin false m e) h)
    where
      least : (q : ℕ) → q ≤ b → min q 18446744073709551615 ≡ q
      least q p = omega arith
  cast_is_below (fin true m e) h = rw h (sym (zero-div (down e)))

  -- ---- the comparison of the cast with the float
  pub back_is_exact : (t : ℕ) → t ≤ b → T (in_float binary64 (pos t))
  unfolding in_float
  back_is_exact t h = le→leb _ _ (le_trans h small)

  back : (t : ℕ) → t ≤ b → HasValue (of_int binary64 (pos t)) false t 1
  unfolding of_int
  back t h = round_whole binary64 false t (le_trans h small)

  pub above_when_less : (x : Float) (t : ℕ) → UpTo b x → t ≤ b → t ≡ whole_below x → lt (of_int binary64 (pos t)) x ≡ true → t + 1 ≡ whole_above x
  above_when_less nan t u h e l = absurd u
  above_when_less (inf s) t u h e l = absurd u
  above_when_less (fin false m k) t u h e l = rw e (above_is_more (m * up k) (down k) (down_pos k) (rw e at (is_less t (of_int binary64 (pos t)) m k (back t h) l)))
  above_when_less (fin true m k) t u h e l = absurd (never_less t (of_int binary64 (pos t)) m k (back t h) l)

  pub above_when_not : (x : Float) (t : ℕ) → UpTo b x → t ≤ b → t ≡ whole_below x → lt (of_int binary64 (pos t)) x ≡ false → t ≡ whole_above x
  above_when_not nan t u h e l = absurd u
  above_when_not (inf s) t u h e l = absurd u
  above_when_not (fin false m k) t u h e l = e ∙ above_is_same (m * up k) (down k) (down_pos k) (rw e at (not_less t (of_int binary64 (pos t)) m k (back t h) l))
  above_when_not (fin true m k) t u h e l = e ∙ above_is_same (m * up k) (down k) (down_pos k) (rw u (omega arith))
