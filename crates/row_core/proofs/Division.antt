-- A division by twice the sum of k steps, 16384 × k, is one by the sum of a step and then a multiplication by the reciprocal of
-- 2 × k, which is rounded up: for a quotient below 65536 × 2 × k the error stays below 1 / (2 × k), too little to reach the
-- next whole number. Assumes nothing.
use mathlib.Core.Path.{◌≡◌, ap, ◌∙◌}
use Prim.Native.Nat.{ℕ, ◌+◌, ◌-◌, ◌*◌, ◌/◌, ◌^◌, ◌≤◌, ◌<◌}
use native.Mathlib.Nat.{mul-le-mul_left, le_of_mul-le-mul_left, lt_of_mul-lt-mul_left, mod-lt, div-add-mod', mul-div-le, lt-mul-div-succ, div-eq_of_lt-le, div-div-eq-div-mul, div-lt_iff_lt-mul}
use native.Mathlib.Omega.{arith}
use Rattle.limits.specs.Limits.{largest_pixel, most_steps}
use Rattle.kernel.specs.Molecule.{sum_of}
use Rattle.row_core.specs.Weights.{reciprocal_one, reciprocal_of}

-- a product of two numbers of 32 bits fits 64
pub product_below : {a b : ℕ} → a < 2 ^ 32 → b < 2 ^ 32 → a * b < 2 ^ 64
product_below {a} {b} la lb = let most : a * b ≤ a * 2 ^ 32 = mul-le-mul_left a (omega arith) in omega arith

-- the reciprocal of 2 or more is below 1
pub reciprocal_below : (n : ℕ) → 2 ≤ n → reciprocal_of n < reciprocal_one
reciprocal_below n two = (div-lt_iff_lt-mul {k = n} {x = reciprocal_one + (n - 1)} {y = reciprocal_one} (omega arith)).1 (omega arith)

module _ (k : ℕ) (some : 1 ≤ k) where
  reciprocal_least : reciprocal_one ≤ k * reciprocal_of k
  reciprocal_least = omega (arith, div-add-mod' (reciprocal_one + (k - 1)) k, mod-lt (reciprocal_one + (k - 1)) some)

  reciprocal_most : k * reciprocal_of k ≤ reciprocal_one + (k - 1)
  reciprocal_most = omega (arith, div-add-mod' (reciprocal_one + (k - 1)) k)

  by_reciprocal : (q : ℕ) → q * (k - 1) < reciprocal_one → q * reciprocal_of k / reciprocal_one ≡ q / k
  by_reciprocal q small =
      let least = mul-le-mul_left q reciprocal_least in
      let most = mul-le-mul_left q reciprocal_most in
      let below : k * (q / k * reciprocal_one) ≤ k * (q * reciprocal_of k) = omega (arith, mul-div-le q k) in
      let above : k * (q * reciprocal_of k) < k * ((q / k + 1) * reciprocal_one) = omega (arith, lt-mul-div-succ q some) in
      div-eq_of_lt-le reciprocal_one (le_of_mul-le-mul_left below some) (lt_of_mul-lt-mul_left k above)

-- n over twice the sum of k steps, where it is a pixel
module _ (k : ℕ) (some : 1 ≤ k) (few : k ≤ most_steps) (n : ℕ) (bound : n < (largest_pixel + 1) * (2 * sum_of k)) where
  pub divided : n / sum_of 1 * reciprocal_of (2 * k) / reciprocal_one ≡ n / (2 * sum_of k)
  divided =
      let first : ℕ = n / sum_of 1 in
      let most : first * (2 * k - 1) ≤ first * (2 * most_steps - 1) = mul-le-mul_left first (omega arith) in
      by_reciprocal (2 * k) (omega arith) first (omega arith) ∙ div-div-eq-div-mul n (sum_of 1) (2 * k) ∙ ap (λ d. n / d) (omega arith)

  pub divided_below : n / (2 * sum_of k) < largest_pixel + 1
  divided_below = (div-lt_iff_lt-mul {k = 2 * sum_of k} {x = n} {y = largest_pixel + 1} (omega arith)).1 bound
