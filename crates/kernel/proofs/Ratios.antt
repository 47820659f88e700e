-- When a kernel has the paper's ratio of two, in sums of natural numbers: from the bound of S-2 on, and not before. `Centre` has the
-- theorem that this makes. Assumes nothing.
use mathlib.Core.Path.{◌≡◌, sym, ap, subst}
use Prim.Native.Nat.{ℕ, ◌+◌, ◌-◌, ◌*◌, ◌/◌, ◌≤◌, max}
use native.Mathlib.Nat.{add_comm, le_trans, le-max_right, max-le}
use native.Mathlib.Omega.{arith}
use lib.IntN.{ℤ, pos, nat_abs}
use Rattle.kernel.specs.Molecule.{units_of, kernel_with}
use Rattle.kernel.specs.Centre.{RatioOfTwo}
use Rattle.kernel.proofs.Plain.{bound_of, Between}
use Rattle.kernel.proofs.Theorems.{with_weights}

-- ---- the bound of S-2 in sums alone
half_to : (t n : ℕ) → (t + 1) / 2 ≤ n → t ≤ 2 * n
half_to t n h = omega arith

half_from : (t n : ℕ) → t ≤ 2 * n → (t + 1) / 2 ≤ n
half_from t n h = omega arith

pub three_to : (a b m n : ℕ) → a + b + max a b - m ≤ 2 * n → (2 * a + b ≤ m + 2 * n) × (a + 2 * b ≤ m + 2 * n)
three_to a b m n h = (omega arith, omega arith)

three_from : (a b m n : ℕ) → 2 * a + b ≤ m + 2 * n → a + 2 * b ≤ m + 2 * n → a + b + max a b - m ≤ 2 * n
three_from a b m n g h = omega arith

-- a side of the kernel beside its centre, for a variance a and the other one b
side_from : (a b m n : ℕ) → 2 * a + b ≤ m + 2 * n → 2 * (2 * (a - n)) ≤ 4 * (m + n - (a + b))
side_from a b m n h = omega arith

side_to : (a b m n : ℕ) → n ≤ a → a + b ≤ m + n → 2 * (2 * (a - n)) ≤ 4 * (m + n - (a + b)) → 2 * a + b ≤ m + 2 * n
side_to a b m n g l h = omega arith

-- ---- the ratio of two, for any free number between the bounds
module _ (a : ℕ) (xy : ℤ) (b n k : ℕ) (h : Between a (nat_abs xy) b n (units_of k)) where
  swapped : 4 * (units_of k + n - (b + a)) ≡ 4 * (units_of k + n - (a + b))
  swapped = ap (λ s. 4 * (units_of k + n - s)) (add_comm b a)

  pub ratio_from : bound_of (nat_abs xy) a b (units_of k) ≤ n → RatioOfTwo (kernel_with (pos a) xy (pos b) (pos n) k)
  ratio_from l =
      let half = le_trans (le-max_right (max (nat_abs xy) (a + b - units_of k)) ((a + b + max a b - units_of k + 1) / 2)) l in
      let three = three_to a b (units_of k) n (half_to (a + b + max a b - units_of k) n half) in
      record {
        beside = rw (with_weights a xy b n k h) (side_from a b (units_of k) n three.0);
        above = rw (with_weights a xy b n k h) (subst (λ c. 2 * (2 * (b - n)) ≤ c) swapped (side_from b a (units_of k) n (rw (add_comm (2 * b) a) three.1)));
      }

  pub ratio_needs : RatioOfTwo (kernel_with (pos a) xy (pos b) (pos n) k) → bound_of (nat_abs xy) a b (units_of k) ≤ n
  ratio_needs r =
      let beside = side_to a b (units_of k) n h.across h.steps (rw (with_weights a xy b n k h) at r.beside) in
      let above =
      side_to b a (units_of k) n h.down (rw (add_comm b a) h.steps)
      (subst (λ c. 2 * (2 * (b - n)) ≤ c) (sym swapped) (rw (with_weights a xy b n k h) at r.above)) in
      let three = three_from a b (units_of k) n beside (rw (add_comm a (2 * b)) above) in
      max-le (max-le h.leans (omega (arith, h.steps))) (half_from (a + b + max a b - units_of k) n three)
