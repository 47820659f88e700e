-- Signed whole numbers as differences of two naturals: every one is a difference, two are equal exactly where the crossed
-- sums are, and sums and multiples go part by part. So an equation of signed numbers becomes one of naturals, which omega
-- reads. Assumes nothing.
use mathlib.Core.Path.{◌≡◌, refl, sym, ap, ◌∙◌}
use mathlib.Core.Bool.{Bool, true, false, not}
use Prim.Native.Nat.{ℕ, zero, suc, ◌+◌, ◌-◌, ◌*◌, ◌≤◌, ◌<◌}
use native.Mathlib.Nat.{mul-add, mul-zero}
use native.Mathlib.Omega.{arith}
use lib.Dec.{T, ltb, ltb→lt, nltb→le}
use lib.IntN.{ℤ, pos, negsuc, neg_ℤ, nat_abs, sub_ℕ, ◌+ℤ◌, ◌*ℤ◌, pos-ne-negsuc}
use borrow.Author.Tests.{lt-ltb, le-ltb}

-- a − b
pub diff : ℕ → ℕ → ℤ
diff a b = sub_ℕ a b

-- z is `plus z` − `minus z`
abbrev pub plus : ℤ → ℕ
plus (pos n) = n
plus (negsuc n) = 0

abbrev pub minus : ℤ → ℕ
minus (pos n) = 0
minus (negsuc n) = suc n

of_pos : (b d : ℕ) → diff (b + d) b ≡ pos d
unfolding diff
of_pos b d = rw (le-ltb (b + d) b (omega arith)) (ap pos (omega arith))

of_neg : (a d : ℕ) → diff a (a + suc d) ≡ negsuc d
unfolding diff
of_neg a d = rw (lt-ltb a (a + suc d) (omega arith)) (ap negsuc (omega arith))

-- every difference is of one of the two forms
data Form (a b : ℕ) : Type 0 where
  up : (d : ℕ) → a ≡ b + d → Form a b
  down : (d : ℕ) → b ≡ a + suc d → Form a b

form : (a b : ℕ) → Form a b
form a b = go (ltb a b) (ltb→lt a b) (nltb→le a b)
  where
    go : (t : Bool) → (T t → a < b) → (T (not t) → b ≤ a) → Form a b
    go true f g = let h = f tt in down (b - suc a) (omega arith)
    go false f g = let h = g tt in up (a - b) (omega arith)

pub is_pos : (a b d : ℕ) → a ≡ b + d → diff a b ≡ pos d
is_pos a b d h = rw h (of_pos b d)

is_neg : (a b d : ℕ) → b ≡ a + suc d → diff a b ≡ negsuc d
is_neg a b d h = rw h (of_neg a d)

pub equal : (a b c d : ℕ) → a + d ≡ c + b → diff a b ≡ diff c d
equal a b c d h = go (form a b)
  where
    go : Form a b → diff a b ≡ diff c d
    go (up e p) = is_pos a b e p ∙ sym (is_pos c d e (omega arith))
    go (down e p) = is_neg a b e p ∙ sym (is_neg c d e (omega arith))

pub crossed : (a b c d : ℕ) → diff a b ≡ diff c d → a + d ≡ c + b
crossed a b c d h = go (form a b) (form c d)
  where
    go : Form a b → Form c d → a + d ≡ c + b
    go (up e p) (up f q) = let r : e ≡ f = ap nat_abs (sym (is_pos a b e p) ∙ h ∙ is_pos c d f q) in omega arith
    go (up e p) (down f q) = absurd (pos-ne-negsuc e f (sym (is_pos a b e p) ∙ h ∙ is_neg c d f q))
    go (down e p) (up f q) = absurd (pos-ne-negsuc f e (sym (is_pos c d f q) ∙ sym h ∙ is_neg a b e p))
    go (down e p) (down f q) = let r : suc e ≡ suc f = ap nat_abs (sym (is_neg a b e p) ∙ h ∙ is_neg c d f q) in omega arith

pub parts : (z : ℤ) → z ≡ diff (plus z) (minus z)
parts (pos n) = sym (is_pos n 0 n (omega arith))
parts (negsuc n) = sym (is_neg 0 (suc n) n (omega arith))

pub is_plus : (a b : ℕ) → plus (diff a b) ≡ a - b
is_plus a b = go (form a b)
  where
    go : Form a b → plus (diff a b) ≡ a - b
    go (up e p) = ap plus (is_pos a b e p) ∙ omega arith
    go (down e p) = ap plus (is_neg a b e p) ∙ omega arith

pub neg_parts : (z : ℤ) → neg_ℤ z ≡ diff (minus z) (plus z)
neg_parts (pos zero) = sym (is_pos 0 0 0 (omega arith))
neg_parts (pos (suc n)) = sym (is_neg 0 (suc n) n (omega arith))
neg_parts (negsuc n) = sym (is_pos (suc n) 0 (suc n) (omega arith))

fold : (a b : ℕ) → sub_ℕ a b ≡ diff a b
unfolding diff
fold a b = refl

pub sum : (a b c d : ℕ) → diff a b +ℤ diff c d ≡ diff (a + c) (b + d)
sum a b c d = go (form a b) (form c d)
  where
    go : Form a b → Form c d → diff a b +ℤ diff c d ≡ diff (a + c) (b + d)
    go (up e p) (up f q) = rw (is_pos a b e p, is_pos c d f q) (sym (is_pos (a + c) (b + d) (e + f) (omega arith)))
    go (up e p) (down f q) = rw (is_pos a b e p, is_neg c d f q) (fold e (suc f) ∙ equal e (suc f) (a + c) (b + d) (omega arith))
    go (down e p) (up f q) = rw (is_neg a b e p, is_pos c d f q) (fold f (suc e) ∙ equal f (suc e) (a + c) (b + d) (omega arith))
    go (down e p) (down f q) = rw (is_neg a b e p, is_neg c d f q) (sym (is_neg (a + c) (b + d) (suc (e + f)) (omega arith)))

negated : (n : ℕ) → neg_ℤ (pos n) ≡ diff 0 n
negated n = neg_parts (pos n)

pub scaled : (m : ℕ) (z : ℤ) → pos m *ℤ z ≡ diff (m * plus z) (m * minus z)
scaled m (pos n) = sym (is_pos (m * n) (m * 0) (m * n) (rw mul-zero (omega arith)))
scaled m (negsuc n) = negated (m * suc n) ∙ equal 0 (m * suc n) (m * 0) (m * suc n) (rw mul-zero)

pub times : (m a b : ℕ) → pos m *ℤ diff a b ≡ diff (m * a) (m * b)
times m a b = go (form a b)
  where
    go : Form a b → pos m *ℤ diff a b ≡ diff (m * a) (m * b)
    go (up e p) = rw (is_pos a b e p) (sym (is_pos (m * a) (m * b) (m * e) (ap (λ x. m * x) p ∙ mul-add m b e)))
    go (down e p) =
        rw (is_neg a b e p)
        (negated (m * suc e) ∙ equal 0 (m * suc e) (m * a) (m * b) (omega (arith, ap (λ x. m * x) p ∙ mul-add m a (suc e))))
