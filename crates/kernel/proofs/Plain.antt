-- The free number of each choice, the existence test and the molecule in naturals, once the signs are off. Assumes nothing.
use mathlib.Core.Path.{◌≡◌, refl, ap, ap₂, ◌∙◌}
use mathlib.Core.Bool.{Bool, true, false, not, cond, true≢false}
use mathlib.Core.List.{List, [], ◌∷◌, map}
use Prim.Native.Nat.{ℕ, zero, suc, ◌+◌, ◌-◌, ◌*◌, ◌/◌, ◌≤◌, ◌<◌, min, max}
use native.Mathlib.Nat.{le_refl, le-min, le-max_left, min-le_right}
use native.Mathlib.Omega.{arith}
use lib.Dec.{T, leb, leb→le, nleb→lt}
use lib.IntN.{ℤ, pos, negsuc, neg_ℤ, nat_abs, ◌+ℤ◌, ◌-ℤ◌}
use lib.Signed.{le_z, lt_z}
use borrow.Author.Tests.{ltb-true}
use Rattle.kernel.specs.declared.Choice.{Choice}
use Rattle.kernel.specs.declared.Choice.TheVariants.{Binomial, Smallest}
use Rattle.kernel.specs.Molecule.{larger, smaller, free_number, molecule}
use Rattle.kernel.specs.Choice.{half_up, binomial_bound, free_number_by}
use Rattle.kernel.specs.Existence.{kernel_exists}
use Rattle.kernel.proofs.Signs.{plus, minus, parts, neg_parts, sum, is_pos, is_plus}

-- ---- a signed number on either side of 0
pub turned : (v : ℤ) → lt_z v (pos 0) ≡ true → pos 0 -ℤ v ≡ pos (nat_abs v)
turned (pos n) h = let g = ltb-true n 0 h in absurd (omega arith)
turned (negsuc n) h = ap pos (omega arith)

pub unsigned : (v : ℤ) → lt_z v (pos 0) ≡ false → v ≡ pos (nat_abs v)
unsigned (pos n) h = refl
unsigned (negsuc n) h = absurd (true≢false h)

-- ---- the larger and the smaller of two
pub choose : (a b : ℕ) → cond (leb a b) (pos b) (pos a) ≡ pos (max a b)
choose a b = go (leb a b) (leb→le a b) (nleb→lt a b)
  where
    go : (t : Bool) → (T t → a ≤ b) → (T (not t) → b < a) → cond t (pos b) (pos a) ≡ pos (max a b)
    go true f g = let h = f tt in ap pos (omega arith)
    go false f g = let h = g tt in ap pos (omega arith)

pub choose_smaller : (a b : ℕ) → cond (leb a b) (pos a) (pos b) ≡ pos (min a b)
choose_smaller a b = go (leb a b) (leb→le a b) (nleb→lt a b)
  where
    go : (t : Bool) → (T t → a ≤ b) → (T (not t) → b < a) → cond t (pos a) (pos b) ≡ pos (min a b)
    go true f g = let h = f tt in ap pos (omega arith)
    go false f g = let h = g tt in ap pos (omega arith)

larger_pos : (c : ℕ) (z : ℤ) → larger (pos c) z ≡ pos (max c (plus z))
larger_pos c (pos n) = choose c n
larger_pos c (negsuc n) = ap pos (omega arith)

-- pos a + pos b - pos m
over : (a b m : ℕ) → plus (pos a +ℤ pos b -ℤ pos m) ≡ a + b - m
over a b m = ap plus (ap₂ ◌+ℤ◌ (parts (pos (a + b))) (neg_parts (pos m)) ∙ sum (a + b) 0 0 m) ∙ is_plus (a + b + 0) (0 + m) ∙ omega arith

pub free : (a : ℕ) (xy : ℤ) (b m : ℕ) → free_number (pos a) xy (pos b) m ≡ pos (max (nat_abs xy) (a + b - m))
free a xy b m = larger_pos (nat_abs xy) (pos a +ℤ pos b -ℤ pos m) ∙ ap (λ x. pos (max (nat_abs xy) x)) (over a b m)

-- ---- and of a choice
abbrev pub bound_of : ℕ → ℕ → ℕ → ℕ → ℕ
bound_of c a b m = max (max c (a + b - m)) ((a + b + max a b - m + 1) / 2)

abbrev pub free_of : Choice → ℕ → ℕ → ℕ → ℕ → ℕ
free_of Binomial c a b m = min (bound_of c a b m) (min a b)
free_of Smallest c a b m = max c (a + b - m)

negated_plus : (n : ℕ) → plus (neg_ℤ (pos n)) ≡ 0
negated_plus zero = refl
negated_plus (suc n) = refl

half_plus : (z : ℤ) → plus (half_up z) ≡ (plus z + 1) / 2
half_plus (pos n) = refl
half_plus (negsuc n) = negated_plus ((n + 1) / 2)

three : (a b m : ℕ) → plus (pos a +ℤ pos b +ℤ larger (pos a) (pos b) -ℤ pos m) ≡ a + b + max a b - m
three a b m = ap (λ l. plus (pos a +ℤ pos b +ℤ l -ℤ pos m)) (choose a b) ∙ over (a + b) (max a b) m

pub bound : (a : ℕ) (xy : ℤ) (b m : ℕ) → binomial_bound (pos a) xy (pos b) m ≡ pos (bound_of (nat_abs xy) a b m)
bound a xy b m =
    ap (λ f. larger f (half_up (pos a +ℤ pos b +ℤ larger (pos a) (pos b) -ℤ pos m))) (free a xy b m)
    ∙ larger_pos (max (nat_abs xy) (a + b - m)) (half_up (pos a +ℤ pos b +ℤ larger (pos a) (pos b) -ℤ pos m))
    ∙ ap (λ h. pos (max (max (nat_abs xy) (a + b - m)) h)) (half_plus (pos a +ℤ pos b +ℤ larger (pos a) (pos b) -ℤ pos m) ∙ ap (λ t. (t + 1) / 2) (three a b m))

pub free_by_lem : (choice : Choice) (a : ℕ) (xy : ℤ) (b m : ℕ) → free_number_by choice (pos a) xy (pos b) m ≡ pos (free_of choice (nat_abs xy) a b m)
free_by_lem Binomial a xy b m = ap₂ smaller (bound a xy b m) (choose_smaller a b) ∙ choose_smaller (bound_of (nat_abs xy) a b m) (min a b)
free_by_lem Smallest a xy b m = free a xy b m

pub exists_plain : (a : ℕ) (xy : ℤ) (b m : ℕ) → kernel_exists (pos a) xy (pos b) m ≡ leb (max (nat_abs xy) (a + b - m)) (min a b)
unfolding kernel_exists
exists_plain a xy b m = ap₂ le_z (free a xy b m) (choose_smaller a b)

pub no_negative_x : (n a : ℕ) (z : ℤ) → le_z (pos n) (smaller (negsuc a) z) ≡ false
no_negative_x n a (pos b) = refl
no_negative_x n a (negsuc b) = go (leb b a)
  where
    go : (t : Bool) → le_z (pos n) (cond t (negsuc a) (negsuc b)) ≡ false
    go true = refl
    go false = refl

pub no_negative_y : (n b : ℕ) (z : ℤ) → le_z (pos n) (smaller z (negsuc b)) ≡ false
no_negative_y n b (pos a) = refl
no_negative_y n b (negsuc a) = no_negative_x n a (negsuc b)

pub none_x : (a : ℕ) (xy yy : ℤ) (m : ℕ) → kernel_exists (negsuc a) xy yy m ≡ false
unfolding kernel_exists
none_x a xy yy m = ap (λ f. le_z f (smaller (negsuc a) yy)) (larger_pos (nat_abs xy) (negsuc a +ℤ yy -ℤ pos m)) ∙ no_negative_x _ a yy

pub none_y : (b : ℕ) (xx xy : ℤ) (m : ℕ) → kernel_exists xx xy (negsuc b) m ≡ false
unfolding kernel_exists
none_y b xx xy m = ap (λ f. le_z f (smaller xx (negsuc b))) (larger_pos (nat_abs xy) (xx +ℤ negsuc b -ℤ pos m)) ∙ no_negative_y _ b xx

-- ---- the molecule, with |xy| ≤ n ≤ a, b and a + b ≤ m + n
abbrev pub plain : ℕ → ℤ → ℕ → ℕ → ℕ → List ℕ
plain a xy b n m =
    (n + plus xy - minus xy) ∷ (2 * (b - n)) ∷ (n + minus xy - plus xy)
    ∷ (2 * (a - n)) ∷ (4 * (m + n - (a + b))) ∷ (2 * (a - n))
    ∷ (n + minus xy - plus xy) ∷ (2 * (b - n)) ∷ (n + plus xy - minus xy)
    ∷ []

pub record Between (a c b n m : ℕ) : Type 0 where
  pub leans : c ≤ n
  pub steps : a + b ≤ m + n
  pub across : n ≤ a
  pub down : n ≤ b

pub between_from : (a c b m n : ℕ) → max c (a + b - m) ≤ n → n ≤ min a b → Between a c b n m
between_from a c b m n low high = record { leans = omega arith; steps = omega arith; across = omega arith; down = omega arith }

-- the free number of each choice stands between the bounds wherever some number does
pub between_by : (choice : Choice) (a c b m : ℕ) → max c (a + b - m) ≤ min a b → Between a c b (free_of choice c a b m) m
between_by Binomial a c b m h =
    between_from a c b m (free_of Binomial c a b m)
    (le-min (le-max_left (max c (a + b - m)) ((a + b + max a b - m + 1) / 2)) h) (min-le_right (bound_of c a b m) (min a b))
between_by Smallest a c b m h = between_from a c b m (free_of Smallest c a b m) (le_refl (max c (a + b - m))) h

pub plus_le : (z : ℤ) → plus z ≤ nat_abs z
plus_le (pos n) = omega arith
plus_le (negsuc n) = omega arith

pub minus_le : (z : ℤ) → minus z ≤ nat_abs z
minus_le (pos n) = omega arith
minus_le (negsuc n) = omega arith

module _ (a : ℕ) (xy : ℤ) (b n m : ℕ) (h : Between a (nat_abs xy) b n m) where
  diagonal : pos n +ℤ xy ≡ pos (n + plus xy - minus xy)
  diagonal = ap₂ ◌+ℤ◌ (parts (pos n)) (parts xy) ∙ sum n 0 (plus xy) (minus xy) ∙ is_pos _ _ _ (omega (arith, plus_le xy, minus_le xy))

  anti : pos n -ℤ xy ≡ pos (n + minus xy - plus xy)
  anti = ap₂ ◌+ℤ◌ (parts (pos n)) (neg_parts xy) ∙ sum n 0 (minus xy) (plus xy) ∙ is_pos _ _ _ (omega (arith, plus_le xy, minus_le xy))

  less : (x : ℕ) → n ≤ x → pos x -ℤ pos n ≡ pos (x - n)
  less x le = ap₂ ◌+ℤ◌ (parts (pos x)) (neg_parts (pos n)) ∙ sum x 0 0 n ∙ is_pos _ _ _ (omega arith)

  centre : pos m -ℤ pos a -ℤ pos b +ℤ pos n ≡ pos (m + n - (a + b))
  centre =
      ap₂ ◌+ℤ◌
      (ap₂ ◌+ℤ◌ (ap₂ ◌+ℤ◌ (parts (pos m)) (neg_parts (pos a)) ∙ sum m 0 0 a) (neg_parts (pos b)) ∙ sum (m + 0) (0 + a) 0 b) (parts (pos n))
      ∙ sum (m + 0 + 0) (0 + a + b) n 0 ∙ is_pos _ _ _ (omega arith)

  -- each weight of the molecule is the natural that stands in its place: none is negative
  pub weights : molecule (pos a) xy (pos b) (pos n) m ≡ map pos (plain a xy b n m)
  weights =
      rw (diagonal, anti, less a h.across, less b h.down, centre)
