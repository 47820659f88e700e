-- The laws of decimal numerals: a numeral grows by one digit at its end. Assumes nothing.
use mathlib.Core.Path.{◌≡◌, refl, ◌∙◌}
use mathlib.Core.Bool.{Bool, true, false}
use mathlib.Core.List.{List, [], ◌∷◌, ◌++◌}
use Prim.Native.Nat.{ℕ, zero, suc, ◌+◌, ◌*◌, ◌/◌, ◌%◌, ◌^◌, ◌≤◌, ◌<◌, max}
use native.Mathlib.Nat.{pow-suc, div-lt_iff_lt-mul}
use native.Mathlib.Omega.{arith}
use borrow.Author.Tests.{lt-ltb, le-ltb, ltb-true, ltb-false}
use lib.Dec.{ltb}
use lib.ListN.{length, length-append}
use lib.IntN.{ℤ, pos, negsuc}
use Rattle.job_printer.specs.Numerals.{digit, numeral_within, numeral, integer}

-- places that are not needed make no difference
enough : (p q n : ℕ) → n < p → n < q → numeral_within p n ≡ numeral_within q n
unfolding numeral_within
enough zero q n h k = absurd (omega arith)
enough (suc p) zero n h k = absurd (omega arith)
enough (suc p) (suc q) n h k = go (ltb n 10) refl (enough p q (n / 10))
  where
    go : (b : Bool) → ltb n 10 ≡ b → (n / 10 < p → n / 10 < q → numeral_within p (n / 10) ≡ numeral_within q (n / 10)) → numeral_within (suc p) n ≡ numeral_within (suc q) n
    go true e r = rw e
    go false e r = let big = ltb-false n 10 e in rw e (rw (r (omega arith) (omega arith)))

pub one_digit : (n : ℕ) → n < 10 → numeral n ≡ digit n ∷ []
unfolding numeral numeral_within
one_digit n h = rw (lt-ltb n 10 h)

pub last_digit : (n : ℕ) → 10 ≤ n → numeral n ≡ numeral (n / 10) ++ digit (n % 10) ∷ []
unfolding numeral numeral_within
last_digit n h = rw (le-ltb n 10 h) (rw (enough n (suc (n / 10)) (n / 10) (omega arith) (omega arith)))

pub one_more : (v d : ℕ) → 0 < v → d < 10 → numeral (v * 10 + d) ≡ numeral v ++ digit d ∷ []
one_more v d h k =
    let q : (v * 10 + d) / 10 ≡ v = omega arith in
    let r : (v * 10 + d) % 10 ≡ d = omega arith in
    last_digit (v * 10 + d) (omega arith) ∙ rw (q, r)

-- the first digit of a numeral
pub record Led (n : ℕ) : Type 0 where
  pub first : ℕ
  pub others : List ℕ
  pub small : first < 10
  pub is : numeral n ≡ digit first ∷ others
  pub not_zero : 0 < n → 0 < first

led_within : (p n : ℕ) → n < p → Led n
led_within zero n h = absurd (omega arith)
led_within (suc p) n h = go (ltb n 10) refl (led_within p (n / 10))
  where
    go : (b : Bool) → ltb n 10 ≡ b → (n / 10 < p → Led (n / 10)) → Led n
    go true e r = let s = ltb-true n 10 e in record { first = n; others = []; small = s; is = one_digit n s; not_zero = λ k. k }
    go false e r =
        let s = ltb-false n 10 e in
        let q = r (omega arith) in
        record { first = q.first; others = q.others ++ digit (n % 10) ∷ []; small = q.small; is = last_digit n s ∙ rw q.is; not_zero = λ k. q.not_zero (omega arith) }

-- "no leading zero"
pub led : (n : ℕ) → Led n
led n = led_within (suc n) n (omega arith)

-- a number has at least one digit
pub numeral_long : (n : ℕ) → 0 < length (numeral n)
numeral_long n = let l = led n in rw l.is (omega arith)

pub integer_long : (z : ℤ) → 0 < length (integer z)
integer_long (pos n) = numeral_long n
integer_long (negsuc n) = omega arith

-- at most so many places hold a number below a power of ten
pub short : (k n : ℕ) → n < 10 ^ suc k → length (numeral n) ≤ suc k
short zero n h = rw (one_digit n h) (omega arith)
short (suc k) n h = go (ltb n 10) refl (short k (n / 10))
  where
    go : (b : Bool) → ltb n 10 ≡ b → (n / 10 < 10 ^ suc k → length (numeral (n / 10)) ≤ suc k) → length (numeral n) ≤ suc (suc k)
    go true e r = rw (one_digit n (ltb-true n 10 e)) (omega arith)
    go false e r =
        let front = r ((div-lt_iff_lt-mul (omega arith)).1 (rw (pow-suc 10 (suc k)) at h)) in
        rw (last_digit n (ltb-false n 10 e), length-append) (omega arith)

power_some : (k : ℕ) → 0 < 10 ^ k
power_some zero = omega arith
power_some (suc k) = let power : 10 ^ suc k ≡ 10 ^ k * 10 = pow-suc 10 k in let some = power_some k in omega arith

-- and as many at least where the power is not above it
long : (k n : ℕ) → 10 ^ k ≤ n → suc k ≤ length (numeral n)
long zero n h = numeral_long n
long (suc k) n h =
    let power : 10 ^ suc k ≡ 10 ^ k * 10 = pow-suc 10 k in
    let some = power_some k in
    let front : 10 ^ k ≤ n / 10 = omega arith in
    let shorter = long k (n / 10) front in
    rw (last_digit n (omega arith), length-append) (omega arith)

-- 0 has one digit, as 1 has
pub counted : (n k : ℕ) → 10 ^ k ≤ max n 1 → max n 1 < 10 * 10 ^ k → k + 1 ≡ length (numeral n)
counted zero k h l = go k h
  where
    go : (k : ℕ) → 10 ^ k ≤ 1 → k + 1 ≡ length (numeral 0)
    go zero h = rw (one_digit 0 (omega arith)) refl
    go (suc k) h = let power : 10 ^ suc k ≡ 10 ^ k * 10 = pow-suc 10 k in let some = power_some k in absurd (omega arith)
counted (suc n) k h l =
    let same : max (suc n) 1 ≡ suc n = omega arith in
    let power : 10 ^ suc k ≡ 10 ^ k * 10 = pow-suc 10 k in
    let low : suc k ≤ length (numeral (suc n)) = long k (suc n) (omega arith) in
    let high : length (numeral (suc n)) ≤ suc k = short k (suc n) (omega arith) in
    omega arith

-- the last k digits of n
abbrev pub lowest : ℕ → ℕ → List ℕ
lowest zero n = []
lowest (suc k) n = lowest k (n / 10) ++ digit (n % 10) ∷ []

lowest_within : (p n : ℕ) → n < p → lowest (length (numeral n)) n ≡ numeral n
lowest_within zero n h = absurd (omega arith)
lowest_within (suc p) n h = go (ltb n 10) refl (lowest_within p (n / 10))
  where
    go : (b : Bool) → ltb n 10 ≡ b → (n / 10 < p → lowest (length (numeral (n / 10))) (n / 10) ≡ numeral (n / 10)) → lowest (length (numeral n)) n ≡ numeral n
    go true e r = let small : n % 10 ≡ n = omega (arith, ltb-true n 10 e) in rw (one_digit n (ltb-true n 10 e), small)
    go false e r =
        let big = ltb-false n 10 e in
        let one : length (numeral (n / 10)) + 1 ≡ suc (length (numeral (n / 10))) = omega arith in
        rw (last_digit n big, length-append, one) (rw (r (omega arith)))

pub lowest_all : (n : ℕ) → lowest (length (numeral n)) n ≡ numeral n
lowest_all n = lowest_within (suc n) n (omega arith)
