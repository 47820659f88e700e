-- The theorems on kernels. For every free number between its two bounds the molecule's weights are not negative, sum to
-- 4 × M, have mean zero and exactly the requested second moments; the test of REFERENCE passes exactly where nine weights
-- exist in the wide sense, so refusal 11 is answered exactly where none do. Assumes nothing.
use mathlib.Core.Path.{◌≡◌, refl, sym, ap, ◌∙◌, subst}
use mathlib.Core.Bool.{Bool, true, false, true≢false}
use mathlib.Core.Logic.{◌↔◌}
use mathlib.Core.List.{List, map}
use Prim.Native.Nat.{ℕ, suc, ◌+◌, ◌-◌, ◌*◌, ◌≤◌, ◌<◌, min, max}
use native.Mathlib.Nat.{mul-one, mul_comm, mul_assoc, mul_left_comm, mul-add, mul-zero, mul-le-mul_left, le_of_mul-le-mul_left, le_trans, le_of_eq, mul-pos}
use native.Mathlib.Omega.{arith}
use borrow.Author.Tests.{le-leb, lt-leb, leb-true}
use lib.Dec.{T, leb, leb→le, le→leb}
use lib.ListN.{length}
use lib.IntN.{ℤ, pos, negsuc, nat_abs, ◌-ℤ◌, ◌*ℤ◌}
use lib.Signed.{◌≤ℤ◌, ◌<ℤ◌, le_z_yes, lt_z_yes}
use Rattle.limits.specs.Limits.{steps_in_range, most_steps}
use Rattle.limits.specs.declared.ErrorCode.TheVariants.{NoKernel}
use Rattle.limits.proofs.Laws.{in_range_lem}
use Rattle.limits.proofs.Checks.{refused_not_accepted}
use Rattle.kernel.specs.declared.Kernel.{Kernel}
use Rattle.kernel.specs.Offsets.{Offset, offsets, total, moment, weighted}
use Rattle.kernel.specs.declared.Choice.{Choice}
use Rattle.kernel.specs.declared.Choice.TheVariants.{Smallest}
use Rattle.kernel.specs.Molecule.{units_of, sum_of, molecule, kernel_with, kernel_of}
use Rattle.kernel.specs.Choice.{kernel_by}
use Rattle.kernel.specs.Existence.{kernel_exists, Weights}
use Rattle.kernel.specs.Sound.{Sound}
use Rattle.kernel.specs.Answer.{kernel_checks, kernel_answer}
use Rattle.limits.specs.Errors.{answer_with}
use Rattle.kernel.proofs.Signs.{plus, minus, equal, parts}
use Rattle.kernel.proofs.Moments.{split, every, mono, constant, second, second_of}
use Rattle.kernel.proofs.Answers.{absent, present, made_with}
use Rattle.kernel.proofs.Plain.{free_of, free_by_lem, exists_plain, none_x, none_y, plain, Between, between_by, plus_le, minus_le, weights}
use Rattle.std.specs.Prelude.{Err}

-- ---- the order of signed numbers that are not negative
pub is_le : {a b : ℕ} → a ≤ b → pos a ≤ℤ pos b
is_le {a} {b} h = le_z_yes (le→leb a b h)

pub le_is : {a b : ℕ} → pos a ≤ℤ pos b → a ≤ b
le_is {a} {b} h = leb→le a b h.le

-- ---- nine weights in the wide sense give the bounds
abbrev pub xx_of : Offset → ℤ
xx_of d = d.dx *ℤ d.dx

abbrev xy_of : Offset → ℤ
xy_of d = d.dx *ℤ d.dy

abbrev pub yy_of : Offset → ℤ
yy_of d = d.dy *ℤ d.dy

-- a second moment whose terms are 0 or 1: the number that it gives is from 0 to M
module _ (m : ℕ) (z : ℤ) (g : Offset → ℤ) (ws : List ℕ) (some : 0 < total ws)
    (ones : T (every (λ d. leb (plus (g d)) 1) offsets)) (none : T (every (λ d. leb (minus (g d)) 0) offsets))
    (h : pos m *ℤ moment g ws ≡ z *ℤ pos (total ws)) where
  at_most_whole : m * weighted (λ d. plus (g d)) ws ≤ m * total ws
  at_most_whole =
      mul-le-mul_left m (le_trans (mono (λ d. plus (g d)) (λ d. 1) ws ones) (le_of_eq (constant 1 ws ∙ mul-one (total ws))))

  none_negative : m * weighted (λ d. minus (g d)) ws ≡ 0
  none_negative =
      let n : weighted (λ d. minus (g d)) ws ≤ 0 = le_trans (mono (λ d. minus (g d)) (λ d. 0) ws none) (le_of_eq (constant 0 ws ∙ mul-zero (total ws))) in
      let e : weighted (λ d. minus (g d)) ws ≡ 0 = omega arith in
      ap (λ x. m * x) e ∙ mul-zero m

  pub equation : m * weighted (λ d. plus (g d)) ws + total ws * minus z ≡ total ws * plus z
  equation = let e = second m z g ws h in let n = none_negative in omega arith

-- it is no negative number: a negative one would make a sum with a positive part 0
not_negative : (m n : ℕ) (g : Offset → ℤ) (ws : List ℕ) → 0 < total ws → T (every (λ d. leb (plus (g d)) 1) offsets)
    → T (every (λ d. leb (minus (g d)) 0) offsets) → pos m *ℤ moment g ws ≡ negsuc n *ℤ pos (total ws) → ⊥
not_negative m n g ws some ones none h =
    let e = equation m (negsuc n) g ws some ones none h in
    let p : 0 < total ws * suc n = mul-pos some (omega arith) in
    omega (arith, mul-zero (total ws))

pub variance_high : (m a : ℕ) (g : Offset → ℤ) (ws : List ℕ) → 0 < total ws → T (every (λ d. leb (plus (g d)) 1) offsets)
    → T (every (λ d. leb (minus (g d)) 0) offsets) → pos m *ℤ moment g ws ≡ pos a *ℤ pos (total ws) → a ≤ m
variance_high m a g ws some ones none h =
    let e = equation m (pos a) g ws some ones none h in
    let l = at_most_whole m (pos a) g ws some ones none h in
    le_of_mul-le-mul_left {k = total ws} (omega (arith, mul-zero (total ws), mul_comm m (total ws))) some

-- |xy| is at most either variance
module _ (m a : ℕ) (z : ℤ) (g : Offset → ℤ) (ws : List ℕ) (some : 0 < total ws)
    (ones : T (every (λ d. leb (plus (g d)) 1) offsets)) (none : T (every (λ d. leb (minus (g d)) 0) offsets))
    (up : T (every (λ d. leb (plus (xy_of d)) (plus (g d))) offsets)) (down : T (every (λ d. leb (minus (xy_of d)) (plus (g d))) offsets))
    (hg : pos m *ℤ moment g ws ≡ pos a *ℤ pos (total ws)) (hz : pos m *ℤ moment xy_of ws ≡ z *ℤ pos (total ws)) where
  whole : m * weighted (λ d. plus (g d)) ws ≡ total ws * a
  whole = let e = equation m (pos a) g ws some ones none hg in omega (arith, mul-zero (total ws))

  plus_small : total ws * plus z ≤ total ws * a + total ws * minus z
  plus_small =
      let e = second m z xy_of ws hz in
      let l = mul-le-mul_left m (mono (λ d. plus (xy_of d)) (λ d. plus (g d)) ws up) in
      let w = whole in
      omega arith

  minus_small : total ws * minus z ≤ total ws * a + total ws * plus z
  minus_small =
      let e = second m z xy_of ws hz in
      let l = mul-le-mul_left m (mono (λ d. minus (xy_of d)) (λ d. plus (g d)) ws down) in
      let w = whole in
      omega arith

pub cross_small : (m a : ℕ) (z : ℤ) (g : Offset → ℤ) (ws : List ℕ) → 0 < total ws → T (every (λ d. leb (plus (g d)) 1) offsets)
    → T (every (λ d. leb (minus (g d)) 0) offsets) → T (every (λ d. leb (plus (xy_of d)) (plus (g d))) offsets)
    → T (every (λ d. leb (minus (xy_of d)) (plus (g d))) offsets) → pos m *ℤ moment g ws ≡ pos a *ℤ pos (total ws)
    → pos m *ℤ moment xy_of ws ≡ z *ℤ pos (total ws) → nat_abs z ≤ a
cross_small m a (pos c) g ws some ones none up down hg hz =
    le_of_mul-le-mul_left {k = total ws} (omega (arith, plus_small m a (pos c) g ws some ones none up down hg hz, mul-zero (total ws))) some
cross_small m a (negsuc c) g ws some ones none up down hg hz =
    le_of_mul-le-mul_left {k = total ws} (omega (arith, minus_small m a (negsuc c) g ws some ones none up down hg hz, mul-zero (total ws))) some

-- the test passes where nine weights exist
pub needed : (xx xy yy : ℤ) (m : ℕ) → Weights xx xy yy m → kernel_exists xx xy yy m ≡ true
unfolding every
needed (pos a) xy (pos b) m s =
    let ws = s.weights in
    let ca : nat_abs xy ≤ a = cross_small m a xy xx_of ws s.positive tt tt tt tt s.second_xx s.second_xy in
    let cb : nat_abs xy ≤ b = cross_small m b xy yy_of ws s.positive tt tt tt tt s.second_yy s.second_xy in
    let am : a ≤ m = variance_high m a xx_of ws s.positive tt tt s.second_xx in
    let bm : b ≤ m = variance_high m b yy_of ws s.positive tt tt s.second_yy in
    exists_plain a xy b m ∙ le-leb (max (nat_abs xy) (a + b - m)) (min a b) (omega arith)
needed (pos a) xy (negsuc b) m s = absurd (not_negative m b yy_of s.weights s.positive tt tt s.second_yy)
needed (negsuc a) xy (pos b) m s = absurd (not_negative m a xx_of s.weights s.positive tt tt s.second_xx)
needed (negsuc a) xy (negsuc b) m s = absurd (not_negative m a xx_of s.weights s.positive tt tt s.second_xx)

-- ---- the molecule's weights, for any free number between the bounds
module _ (a : ℕ) (xy : ℤ) (b n m : ℕ) (h : Between a (nat_abs xy) b n m) where
  pub plain_total : total (plain a xy b n m) ≡ 4 * m
  plain_total = let p = plus_le xy in let q = minus_le xy in omega arith

  plain_xx : weighted (λ d. plus (xx_of d)) (plain a xy b n m) ≡ 4 * a
  plain_xx = let p = plus_le xy in let q = minus_le xy in omega arith

  plain_yy : weighted (λ d. plus (yy_of d)) (plain a xy b n m) ≡ 4 * b
  plain_yy = let p = plus_le xy in let q = minus_le xy in omega arith

  plain_xy : weighted (λ d. plus (xy_of d)) (plain a xy b n m) + 4 * minus xy ≡ 4 * plus xy + weighted (λ d. minus (xy_of d)) (plain a xy b n m)
  plain_xy = let p = plus_le xy in let q = minus_le xy in omega arith

  -- mean zero on either axis: the two sides of the centre weigh the same
  balanced : (g : Offset → ℤ) → weighted (λ d. plus (g d)) (plain a xy b n m) ≡ weighted (λ d. minus (g d)) (plain a xy b n m)
      → moment g (plain a xy b n m) ≡ pos 0
  balanced g e =
      split g (plain a xy b n m)
      ∙ equal (weighted (λ d. plus (g d)) (plain a xy b n m)) (weighted (λ d. minus (g d)) (plain a xy b n m)) 0 0 (omega arith)
      ∙ sym (parts (pos 0))

  -- a second moment, from its two parts
  exactly : (z : ℤ) (g : Offset → ℤ)
      → weighted (λ d. plus (g d)) (plain a xy b n m) + 4 * minus z ≡ 4 * plus z + weighted (λ d. minus (g d)) (plain a xy b n m)
      → pos m *ℤ moment g (plain a xy b n m) ≡ z *ℤ pos (total (plain a xy b n m))
  exactly z g e =
      let p = weighted (λ d. plus (g d)) (plain a xy b n m) in
      let q = weighted (λ d. minus (g d)) (plain a xy b n m) in
      let t = total (plain a xy b n m) in
      let turn : (x : ℕ) → t * x ≡ m * (4 * x) = λ x. ap (λ y. y * x) plain_total ∙ simp (mul_assoc, mul_left_comm) in
      second_of m z g (plain a xy b n m)
      (ap (λ x. m * p + x) (turn (minus z)) ∙ sym (mul-add m p (4 * minus z)) ∙ ap (λ x. m * x) e ∙ mul-add m (4 * plus z) q ∙ ap (λ x. x + m * q) (sym (turn (plus z))))

  -- nine weights in the wide sense
  pub given : 0 < m → Weights (pos a) xy (pos b) m
  given some =
      record {
        weights = plain a xy b n m;
        nine = refl;
        positive = let t = plain_total in omega arith;
        mean_x = balanced (λ d. d.dx) (omega arith);
        mean_y = balanced (λ d. d.dy) (omega arith);
        second_xx = exactly (pos a) xx_of (let e = plain_xx in omega arith);
        second_xy = exactly xy xy_of plain_xy;
        second_yy = exactly (pos b) yy_of (let e = plain_yy in omega arith);
      }

-- ---- the kernel of the call
-- the bounds that a passed test gives, for variances that are not negative
pub between : (choice : Choice) (a : ℕ) (xy : ℤ) (b m : ℕ) → kernel_exists (pos a) xy (pos b) m ≡ true
    → Between a (nat_abs xy) b (free_of choice (nat_abs xy) a b m) m
between choice a xy b m e =
    between_by choice a (nat_abs xy) b m (leb-true (max (nat_abs xy) (a + b - m)) (min a b) (sym (exists_plain a xy b m) ∙ e))

-- the weights of a kernel with any free number between the bounds, which are those of the molecule
pub with_weights : (a : ℕ) (xy : ℤ) (b n k : ℕ) → Between a (nat_abs xy) b n (units_of k)
    → (kernel_with (pos a) xy (pos b) (pos n) k).weights ≡ plain a xy b n (units_of k)
with_weights a xy b n k h = ap (λ kernel. kernel.weights) (made_with a xy b n k h)

-- no weight of the molecule is negative
pub with_molecule : (a : ℕ) (xy : ℤ) (b n k : ℕ) → Between a (nat_abs xy) b n (units_of k)
    → map pos (kernel_with (pos a) xy (pos b) (pos n) k).weights ≡ molecule (pos a) xy (pos b) (pos n) (units_of k)
with_molecule a xy b n k h = ap (map pos) (with_weights a xy b n k h) ∙ sym (weights a xy b n (units_of k) h)

with_sum : (xx xy yy f : ℤ) (k : ℕ) → (kernel_with xx xy yy f k).sum ≡ sum_of k
unfolding kernel_with
with_sum xx xy yy f k = refl

pub with_sound : (a : ℕ) (xy : ℤ) (b n k : ℕ) → 1 ≤ k → k ≤ most_steps → Between a (nat_abs xy) b n (units_of k)
    → Sound (kernel_with (pos a) xy (pos b) (pos n) k) k
with_sound a xy b n k low high h =
    let w = with_weights a xy b n k h in
    record {
      low = low;
      high = high;
      nine = ap length w;
      sum = with_sum (pos a) xy (pos b) (pos n) k;
      whole = ap total w ∙ plain_total a xy b n (units_of k) h;
      diagonal = rw w;
      down = rw w;
      across = rw w;
      along = rw w;
    }

-- a law of the kernel with a choice's free number, for variances that are not negative, is one of the choice's kernel ..
pub lift_by : (P : ℤ → ℤ → ℤ → ℕ → Kernel → Type 0) (k : ℕ) (choice : Choice)
    → ((a : ℕ) (xy : ℤ) (b : ℕ) → Between a (nat_abs xy) b (free_of choice (nat_abs xy) a b (units_of k)) (units_of k)
    → P (pos a) xy (pos b) k (kernel_with (pos a) xy (pos b) (pos (free_of choice (nat_abs xy) a b (units_of k))) k))
    → (xx xy yy : ℤ) → kernel_exists xx xy yy (units_of k) ≡ true → P xx xy yy k (kernel_by choice xx xy yy k)
lift_by P k choice law (pos a) xy (pos b) e =
    subst (λ f. P (pos a) xy (pos b) k (kernel_with (pos a) xy (pos b) f k)) (sym (free_by_lem choice a xy b (units_of k)))
    (law a xy b (between choice a xy b (units_of k) e))
lift_by P k choice law (pos a) xy (negsuc b) e = absurd (true≢false (sym e ∙ none_y b (pos a) xy (units_of k)))
lift_by P k choice law (negsuc a) xy yy e = absurd (true≢false (sym e ∙ none_x a xy yy (units_of k)))

-- .. and so is a law of kernels with any free number between the bounds
lift : (P : ℤ → ℤ → ℤ → ℕ → Kernel → Type 0) (k : ℕ)
    → ((a : ℕ) (xy : ℤ) (b n : ℕ) → Between a (nat_abs xy) b n (units_of k) → P (pos a) xy (pos b) k (kernel_with (pos a) xy (pos b) (pos n) k))
    → (choice : Choice) (xx xy yy : ℤ) → kernel_exists xx xy yy (units_of k) ≡ true → P xx xy yy k (kernel_by choice xx xy yy k)
lift P k law choice = lift_by P k choice (λ a xy b. law a xy b (free_of choice (nat_abs xy) a b (units_of k)))

-- every kernel that the call answers is symmetric, with the sum that a step divides by
pub sound_by : (choice : Choice) (xx xy yy : ℤ) (k : ℕ) → steps_in_range k ≡ true → kernel_exists xx xy yy (units_of k) ≡ true
    → Sound (kernel_by choice xx xy yy k) k
sound_by choice xx xy yy k s e =
    let r = in_range_lem 1 most_steps k s in
    lift (λ xx xy yy k kernel. Sound kernel k) k (λ a xy b n h. with_sound a xy b n k r.0 r.1 h) choice xx xy yy e

-- the service's kernel is one of them, by the smallest free number
pub sound : (xx xy yy : ℤ) (k : ℕ) → steps_in_range k ≡ true → kernel_exists xx xy yy (units_of k) ≡ true → Sound (kernel_of xx xy yy k) k
sound = sound_by Smallest

-- its weights are nine weights in the wide sense: mean zero and exactly the requested second moments
pub exact : (choice : Choice) (xx xy yy : ℤ) (k : ℕ) → steps_in_range k ≡ true → kernel_exists xx xy yy (units_of k) ≡ true
    → (w : Weights xx xy yy (units_of k)) × (w.weights ≡ (kernel_by choice xx xy yy k).weights)
unfolding given
exact choice xx xy yy k s e =
    let r = in_range_lem 1 most_steps k s in
    lift (λ xx xy yy k kernel. (w : Weights xx xy yy (units_of k)) × (w.weights ≡ kernel.weights)) k
    (λ a xy b n h. (given a xy b n (units_of k) h (omega arith), sym (with_weights a xy b n k h))) choice xx xy yy e

-- the test fails exactly where no nine weights exist
pub absent_exactly : (xx xy yy : ℤ) (k : ℕ) → steps_in_range k ≡ true
    → (kernel_exists xx xy yy (units_of k) ≡ false) ↔ (Weights xx xy yy (units_of k) → ⊥)
absent_exactly xx xy yy k s = (
  λ e w. true≢false (sym (needed xx xy yy (units_of k) w) ∙ e),
  go (kernel_exists xx xy yy (units_of k)) refl,
)
  where
    go : (t : Bool) → kernel_exists xx xy yy (units_of k) ≡ t → (Weights xx xy yy (units_of k) → ⊥) → t ≡ false
    go true e none = absurd (none (exact Smallest xx xy yy k s e).0)
    go false e none = refl

-- and so refusal 11 is answered exactly there, for each choice
pub refused_exactly : (choice : Choice) (xx xy yy : ℤ) (k : ℕ) → steps_in_range k ≡ true
    → (kernel_answer choice xx xy yy k ≡ Err NoKernel) ↔ (Weights xx xy yy (units_of k) → ⊥)
refused_exactly choice xx xy yy k s = (only, λ none. absent (kernel_by choice xx xy yy k) xx xy yy k s ((absent_exactly xx xy yy k s).1 none))
  where
    only : kernel_answer choice xx xy yy k ≡ Err NoKernel → Weights xx xy yy (units_of k) → ⊥
    only r w = refused_not_accepted (sym r ∙ present (kernel_by choice xx xy yy k) xx xy yy k s (needed xx xy yy (units_of k) w))

-- "A caller who needs the earlier f names the choice "smallest"": the call then answers what it answered before
pub as_before : (xx xy yy : ℤ) (k : ℕ) → kernel_answer Smallest xx xy yy k ≡ answer_with (kernel_checks xx xy yy k) (kernel_of xx xy yy k)
as_before xx xy yy k = refl

-- "|xy| must be at most the smaller variance, and the steps must be enough", of variances without their signs
pub unsigned_conditions : (a : ℕ) (xy : ℤ) (b m : ℕ)
    → (kernel_exists (pos a) xy (pos b) m ≡ true) ↔ ((nat_abs xy ≤ min a b) × (max a b ≤ m))
unsigned_conditions a xy b m = (
  λ e. let l = leb-true (max (nat_abs xy) (a + b - m)) (min a b) (sym (exists_plain a xy b m) ∙ e) in (omega arith, omega arith),
  λ h. exists_plain a xy b m ∙ le-leb (max (nat_abs xy) (a + b - m)) (min a b) (omega arith),
)

-- and of any three numbers: |xy| is at most either variance, so that neither is negative, and either is at most M
pub two_conditions : (xx xy yy : ℤ) (m : ℕ)
    → (kernel_exists xx xy yy m ≡ true) ↔ ((pos (nat_abs xy) ≤ℤ xx) × (pos (nat_abs xy) ≤ℤ yy) × (xx ≤ℤ pos m) × (yy ≤ℤ pos m))
two_conditions (pos a) xy (pos b) m = (
  λ e. let h = (unsigned_conditions a xy b m).0 e in (is_le (omega arith), is_le (omega arith), is_le (omega arith), is_le (omega arith)),
  λ h.
      let ca = le_is h.0 in
      let cb = le_is h.1 in
      let am = le_is h.2 in
      let bm = le_is h.3 in
      (unsigned_conditions a xy b m).1 (omega arith, omega arith),
)
two_conditions (pos a) xy (negsuc b) m = (λ e. absurd (true≢false (sym e ∙ none_y b (pos a) xy m)), λ h. absurd h.1.le)
two_conditions (negsuc a) xy yy m = (λ e. absurd (true≢false (sym e ∙ none_x a xy yy m)), λ h. absurd h.0.le)

-- ---- the determinant does not decide
abbrev pub determinant_of : ℤ → ℤ → ℤ → ℤ
determinant_of xx xy yy = xx *ℤ yy -ℤ xy *ℤ xy

-- it may be positive where there is no kernel for any number of steps, nor for any M
pub determinant : (pos 0 <ℤ determinant_of (pos 100) (pos 150) (pos 400)) × ((m : ℕ) → kernel_exists (pos 100) (pos 150) (pos 400) m ≡ false)
determinant = (lt_z_yes tt, λ m. exists_plain 100 (pos 150) 400 m ∙ lt-leb (max 150 (500 - m)) 100 (omega arith))

-- and 0 where there is one for every number of steps: the shape of REFERENCE's case f
pub determinant_zero : (determinant_of (pos 1000) (pos 1000) (pos 1000) ≡ pos 0)
    × ((k : ℕ) → 1 ≤ k → kernel_exists (pos 1000) (pos 1000) (pos 1000) (units_of k) ≡ true)
determinant_zero = (refl, λ k h. (unsigned_conditions 1000 (pos 1000) 1000 (units_of k)).1 (omega arith, omega arith))
