-- What S-2's choice is for. Among the free numbers between the bounds, those whose kernel has the paper's ratio of two are exactly
-- those from `binomial_bound` on: so S-2's free number is the smallest one with the ratio, and where none has it the largest there
-- is. Its centre is 0 exactly where the larger variance is M, and there each kernel of the covariance has a centre of 0, of nine
-- weights in the wide sense too. Assumes nothing.
use mathlib.Core.Path.{◌≡◌, refl, sym, ap, ◌∙◌, subst}
use mathlib.Core.Bool.{Bool, true, false, cond}
use mathlib.Core.Logic.{◌↔◌}
use mathlib.Core.List.{List, [], ◌∷◌}
use Prim.Native.Nat.{ℕ, ◌+◌, ◌-◌, ◌*◌, ◌/◌, ◌≤◌, ◌<◌, min, max}
use native.Mathlib.Nat.{mul_comm, mul-zero, le_of_mul-le-mul_left, le_trans, le_of_eq, min-le_left, min-eq_left}
use native.Mathlib.Omega.{arith}
use borrow.Author.Tests.{ltb-true, ltb-false}
use lib.Dec.{T, leb, ltb}
use lib.ListN.{get_or, length}
use lib.IntN.{ℤ, pos, nat_abs, ◌*ℤ◌}
use lib.Signed.{◌≤ℤ◌, le_z}
use Rattle.kernel.specs.declared.Choice.TheVariants.{Binomial}
use Rattle.kernel.specs.Offsets.{Offset, offsets, total, weighted, moment}
use Rattle.kernel.specs.Molecule.{units_of, larger, smaller, kernel_with}
use Rattle.kernel.specs.Choice.{binomial_bound, free_number_by, kernel_by}
use Rattle.kernel.specs.Existence.{kernel_exists, Weights}
use Rattle.kernel.specs.Centre.{centre_of, RatioOfTwo}
use Rattle.kernel.proofs.Signs.{plus, minus}
use Rattle.kernel.proofs.Moments.{every}
use Rattle.kernel.proofs.Plain.{choose, choose_smaller, bound_of, free_of, bound, free_by_lem, Between}
use Rattle.kernel.proofs.Theorems.{is_le, le_is, xx_of, yy_of, equation, with_weights, lift_by}
use Rattle.kernel.proofs.Ratios.{three_to, ratio_from, ratio_needs}

-- ---- the ratio of two, for any free number between the bounds
module _ (a : ℕ) (xy : ℤ) (b n k : ℕ) (h : Between a (nat_abs xy) b n (units_of k)) where
  -- it holds exactly from the bound of S-2 on
  pub ratio_exactly : RatioOfTwo (kernel_with (pos a) xy (pos b) (pos n) k) ↔ (binomial_bound (pos a) xy (pos b) (units_of k) ≤ℤ pos n)
  ratio_exactly = (
    λ r. subst (λ f. f ≤ℤ pos n) (sym (bound a xy b (units_of k))) (is_le (ratio_needs a xy b n k h r)),
    λ l. ratio_from a xy b n k h (le_is (subst (λ f. f ≤ℤ pos n) (bound a xy b (units_of k)) l)),
  )

  -- no free number with the ratio is smaller than that of S-2
  pub smallest_with_ratio : RatioOfTwo (kernel_with (pos a) xy (pos b) (pos n) k) → free_number_by Binomial (pos a) xy (pos b) (units_of k) ≤ℤ pos n
  smallest_with_ratio r =
      subst (λ f. f ≤ℤ pos n) (sym (free_by_lem Binomial a xy b (units_of k)))
      (is_le (le_trans (min-le_left (bound_of (nat_abs xy) a b (units_of k)) (min a b)) (ratio_needs a xy b n k h r)))

-- ---- S-2's kernel
-- wherever its free number is not held down to the smaller variance, the centre weighs at least twice as much as each side
pub uncapped_ratio : (xx xy yy : ℤ) (k : ℕ) → kernel_exists xx xy yy (units_of k) ≡ true
    → binomial_bound xx xy yy (units_of k) ≤ℤ smaller xx yy → RatioOfTwo (kernel_by Binomial xx xy yy k)
uncapped_ratio xx xy yy k e =
    lift_by (λ xx xy yy k kernel. binomial_bound xx xy yy (units_of k) ≤ℤ smaller xx yy → RatioOfTwo kernel) k Binomial law xx xy yy e
  where
    law : (a : ℕ) (xy : ℤ) (b : ℕ) → Between a (nat_abs xy) b (free_of Binomial (nat_abs xy) a b (units_of k)) (units_of k)
        → binomial_bound (pos a) xy (pos b) (units_of k) ≤ℤ smaller (pos a) (pos b)
        → RatioOfTwo (kernel_with (pos a) xy (pos b) (pos (free_of Binomial (nat_abs xy) a b (units_of k))) k)
    law a xy b h l =
        let below : bound_of (nat_abs xy) a b (units_of k) ≤ min a b =
        le_is (rw (bound a xy b (units_of k), choose_smaller a b) at l) in
        ratio_from a xy b (free_of Binomial (nat_abs xy) a b (units_of k)) k h (le_of_eq (sym (min-eq_left below)))

-- where the centre is 0, f is xx + yy − M. Below the smaller variance that is less than the third number of S-2, so it is the
-- smaller variance itself
at_least_half : (low t top : ℕ) → min (max low ((t + 1) / 2)) top < top → t ≤ 2 * min (max low ((t + 1) / 2)) top
at_least_half low t top h = omega arith

hollow_where_full : (a b m n : ℕ) → n ≤ a → n ≤ b → max a b ≡ m → 4 * (m + n - (a + b)) ≡ 0
hollow_where_full a b m n g h e = omega arith

full_where_hollow : (a b m n : ℕ) → n ≤ a → n ≤ b → a + b ≤ m + n → (n < min a b → a + b + max a b - m ≤ 2 * n) → 4 * (m + n - (a + b)) ≡ 0
    → max a b ≡ m
full_where_hollow a b m n g h l half z = go (ltb n (min a b)) refl
  where
    go : (t : Bool) → ltb n (min a b) ≡ t → max a b ≡ m
    go true e = let three = three_to a b m n (half (ltb-true n (min a b) e)) in let under = ltb-true n (min a b) e in omega arith
    go false e = let over = ltb-false n (min a b) e in omega arith

-- the centre is 0 exactly where the larger variance is M: a whole square pixel in a step, so that no weight may stay in the middle
pub hollow_exactly : (xx xy yy : ℤ) (k : ℕ) → kernel_exists xx xy yy (units_of k) ≡ true
    → (centre_of (kernel_by Binomial xx xy yy k) ≡ 0) ↔ (larger xx yy ≡ pos (units_of k))
hollow_exactly xx xy yy k e =
    lift_by (λ xx xy yy k kernel. (centre_of kernel ≡ 0) ↔ (larger xx yy ≡ pos (units_of k))) k Binomial law xx xy yy e
  where
    law : (a : ℕ) (xy : ℤ) (b : ℕ) (h : Between a (nat_abs xy) b (free_of Binomial (nat_abs xy) a b (units_of k)) (units_of k))
        → (centre_of (kernel_with (pos a) xy (pos b) (pos (free_of Binomial (nat_abs xy) a b (units_of k))) k) ≡ 0) ↔ (larger (pos a) (pos b) ≡ pos (units_of k))
    law a xy b h =
        let m = units_of k in
        let n = free_of Binomial (nat_abs xy) a b m in
        let w = with_weights a xy b n k h in
        let half = at_least_half (max (nat_abs xy) (a + b - m)) (a + b + max a b - m) (min a b) in (
          λ z. choose a b ∙ ap pos (full_where_hollow a b m n h.across h.down h.steps half (rw w at z)),
          λ z. rw w (hollow_where_full a b m n h.across h.down (ap nat_abs (sym (choose a b) ∙ z))),
        )

-- ---- nine weights in the wide sense
-- no weight at the centre counts in a second moment along an axis
outside : (ws : List ℕ) → length ws ≡ 9
    → (weighted (λ d. plus (xx_of d)) ws + get_or ws 4 0 ≤ total ws) × (weighted (λ d. plus (yy_of d)) ws + get_or ws 4 0 ≤ total ws)
outside [] e = absurd (omega (arith, e))
outside (a ∷ []) e = absurd (omega (arith, e))
outside (a ∷ b ∷ []) e = absurd (omega (arith, e))
outside (a ∷ b ∷ c ∷ []) e = absurd (omega (arith, e))
outside (a ∷ b ∷ c ∷ d ∷ []) e = absurd (omega (arith, e))
outside (a ∷ b ∷ c ∷ d ∷ f ∷ []) e = absurd (omega (arith, e))
outside (a ∷ b ∷ c ∷ d ∷ f ∷ g ∷ []) e = absurd (omega (arith, e))
outside (a ∷ b ∷ c ∷ d ∷ f ∷ g ∷ h ∷ []) e = absurd (omega (arith, e))
outside (a ∷ b ∷ c ∷ d ∷ f ∷ g ∷ h ∷ i ∷ []) e = absurd (omega (arith, e))
outside (a ∷ b ∷ c ∷ d ∷ f ∷ g ∷ h ∷ i ∷ j ∷ rest) e = (omega arith, omega arith)

-- where the variance along an axis is M, all weight stands off that axis' middle
none_left : (m : ℕ) (g : Offset → ℤ) (ws : List ℕ) → 0 < m → 0 < total ws → T (every (λ d. leb (plus (g d)) 1) offsets)
    → T (every (λ d. leb (minus (g d)) 0) offsets) → pos m *ℤ moment g ws ≡ pos m *ℤ pos (total ws)
    → weighted (λ d. plus (g d)) ws + get_or ws 4 0 ≤ total ws → get_or ws 4 0 ≡ 0
none_left m g ws some positive ones none h l =
    let e = equation m (pos m) g ws positive ones none h in
    let all : total ws ≤ weighted (λ d. plus (g d)) ws =
    le_of_mul-le-mul_left {k = m} (omega (arith, e, mul-zero (total ws), mul_comm m (total ws))) some in
    omega arith

pub hollow_in_each : (xx xy yy : ℤ) (m : ℕ) → 0 < m → larger xx yy ≡ pos m → (w : Weights xx xy yy m) → get_or w.weights 4 0 ≡ 0
unfolding every
hollow_in_each xx xy yy m some e w = go (le_z xx yy) e
  where
    go : (t : Bool) → cond t yy xx ≡ pos m → get_or w.weights 4 0 ≡ 0
    go true is =
        none_left m yy_of w.weights some w.positive tt tt (w.second_yy ∙ ap (λ v. v *ℤ pos (total w.weights)) is) (outside w.weights w.nine).1
    go false is =
        none_left m xx_of w.weights some w.positive tt tt (w.second_xx ∙ ap (λ v. v *ℤ pos (total w.weights)) is) (outside w.weights w.nine).0
