-- What the kernel call answers, once the signs are off: the existence test and the nine weights in naturals. Assumes
-- nothing.
use mathlib.Core.Path.{◌≡◌, ap, ◌∙◌}
use mathlib.Core.Bool.{true, false, true≢false}
use mathlib.Core.List.{List, [], ◌∷◌, map}
use Prim.Native.Nat.{ℕ, ◌+◌, ◌-◌, ◌*◌, ◌≤◌, ◌<◌, min, max}
use native.Mathlib.Nat.{add-zero, sub-zero}
use native.Mathlib.Omega.{arith}
use borrow.Author.Tests.{ltb-true, lt-leb, le-leb}
use lib.Dec.{leb}
use lib.IntN.{ℤ, pos, negsuc, nat_abs}
use lib.Signed.{lt_z}
use Rattle.limits.specs.Limits.{steps_in_range}
use Rattle.limits.specs.Errors.{◌otherwise◌, answer_with}
use Rattle.limits.specs.declared.ErrorCode.TheVariants.{StepsOutOfRange, NoKernel}
use Rattle.limits.proofs.Checks.{all_hold, accepted_alone}
use Rattle.kernel.specs.declared.Choice.{Choice}
use Rattle.kernel.specs.Molecule.{units_of, sum_of, kernel_with}
use Rattle.kernel.specs.Choice.{free_by}
use Rattle.kernel.specs.Existence.{kernel_exists}
use Rattle.kernel.specs.Answer.{kernel_checks}
use Rattle.kernel.proofs.Plain.{unsigned, exists_plain, none_x, none_y, plain, Between, weights}
use Rattle.std.specs.Prelude.{Ok, Err}

-- the kernel and the free number alone pass the same checks
pub absent : {A : Type 0} (value : A) (x z y : ℤ) (k : ℕ) → steps_in_range k ≡ true → kernel_exists x z y (units_of k) ≡ false
    → answer_with (kernel_checks x z y k) value ≡ Err NoKernel
absent value x z y k s e = rw (s, e)

pub present : {A : Type 0} (value : A) (x z y : ℤ) (k : ℕ) → steps_in_range k ≡ true → kernel_exists x z y (units_of k) ≡ true
    → answer_with (kernel_checks x z y k) value ≡ Ok value
present value x z y k s e = rw (s, e)

-- an answer that is no refusal passed both checks, and is the value
pub answered : {A : Type 0} (value answer : A) (x z y : ℤ) (k : ℕ) → answer_with (kernel_checks x z y k) value ≡ Ok answer
    → (steps_in_range k ≡ true) × (kernel_exists x z y (units_of k) ≡ true) × (answer ≡ value)
answered value answer x z y k e =
    let t = accepted_alone (kernel_checks x z y k) value answer e in
    let h = all_hold ((steps_in_range k otherwise StepsOutOfRange) ∷ (kernel_exists x z y (units_of k) otherwise NoKernel) ∷ []) t.0 in
    (h.0, h.1.0, t.1)

pub negative_x : (x z y : ℤ) (m : ℕ) → lt_z x (pos 0) ≡ true → kernel_exists x z y m ≡ false
negative_x (pos a) z y m h = let g = ltb-true a 0 h in absurd (omega arith)
negative_x (negsuc a) z y m h = none_x a z y m

pub negative_y : (x z y : ℤ) (m : ℕ) → lt_z y (pos 0) ≡ true → kernel_exists x z y m ≡ false
negative_y x z (pos b) m h = let g = ltb-true b 0 h in absurd (omega arith)
negative_y x z (negsuc b) m h = none_y b x z m

-- the smallest free number of a covariance whose signs are off
abbrev pub smallest_of : ℤ → ℤ → ℤ → ℕ → ℕ
smallest_of x z y m = max (nat_abs z) (nat_abs x + nat_abs y - m)

test : (x z y : ℤ) (m : ℕ) → lt_z x (pos 0) ≡ false → lt_z y (pos 0) ≡ false
    → kernel_exists x z y m ≡ leb (smallest_of x z y m) (min (nat_abs x) (nat_abs y))
test (pos a) z (pos b) m h g = exists_plain a z b m
test (pos a) z (negsuc b) m h g = absurd (true≢false g)
test (negsuc a) z (pos b) m h g = absurd (true≢false h)
test (negsuc a) z (negsuc b) m h g = absurd (true≢false h)

module _ (x z y : ℤ) (m : ℕ) (h : lt_z x (pos 0) ≡ false) (g : lt_z y (pos 0) ≡ false) where
  pub too_large : min (nat_abs x) (nat_abs y) < smallest_of x z y m → kernel_exists x z y m ≡ false
  too_large l = test x z y m h g ∙ lt-leb (smallest_of x z y m) (min (nat_abs x) (nat_abs y)) l

  pub fits : smallest_of x z y m ≤ min (nat_abs x) (nat_abs y) → kernel_exists x z y m ≡ true
  fits l = test x z y m h g ∙ le-leb (smallest_of x z y m) (min (nat_abs x) (nat_abs y)) l

-- the kernel of a free number between the bounds, in naturals
pub made_with : (a : ℕ) (z : ℤ) (b n k : ℕ) → Between a (nat_abs z) b n (units_of k)
    → kernel_with (pos a) z (pos b) (pos n) k ≡ record { weights = plain a z b n (units_of k); sum = sum_of k }
unfolding kernel_with
made_with a z b n k h = ap (λ ws. record { weights = map nat_abs ws; sum = sum_of k }) (weights a z b n (units_of k) h)

-- two variances that are not negative are the naturals that the code works with
pub by_size : (choice : Choice) (x z y : ℤ) (k : ℕ) → lt_z x (pos 0) ≡ false → lt_z y (pos 0) ≡ false
    → free_by choice (pos (nat_abs x)) z (pos (nat_abs y)) k ≡ free_by choice x z y k
by_size choice x z y k h g = rw (← unsigned x h, ← unsigned y g)

-- the two diagonals, by the sign of xy
abbrev pub five : ℕ → ℕ → ℕ → ℕ → ℕ → ℕ → List ℕ
five diagonal anti a b n m =
    diagonal ∷ (2 * (b - n)) ∷ anti ∷ (2 * (a - n)) ∷ (4 * (m + n - (a + b))) ∷ (2 * (a - n)) ∷ anti ∷ (2 * (b - n)) ∷ diagonal ∷ []

pub leans_down : (a : ℕ) (z : ℤ) (b n m : ℕ) → lt_z z (pos 0) ≡ true → plain a z b n m ≡ five (n - nat_abs z) (n + nat_abs z) a b n m
leans_down a (pos c) b n m h = let g = ltb-true c 0 h in absurd (omega arith)
leans_down a (negsuc c) b n m h = simp (add-zero, sub-zero)

pub leans_up : (a : ℕ) (z : ℤ) (b n m : ℕ) → lt_z z (pos 0) ≡ false → plain a z b n m ≡ five (n + nat_abs z) (n - nat_abs z) a b n m
leans_up a (pos c) b n m h = simp (add-zero, sub-zero)
leans_up a (negsuc c) b n m h = absurd (true≢false h)
