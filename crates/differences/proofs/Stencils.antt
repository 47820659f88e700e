-- Stencils in naturals: a sum is what its positive coefficients add less what its negative ones take away, and so no larger than
-- the total size of the coefficients times the largest entry. Assumes nothing.
use mathlib.Core.Path.{◌≡◌, sym, ap, ap₂, ◌∙◌}
use mathlib.Core.Bool.{Bool, true, false, not}
use mathlib.Core.List.{List, [], ◌∷◌}
use Prim.Native.Nat.{ℕ, suc, ◌+◌, ◌-◌, ◌*◌, ◌≤◌, ◌<◌}
use native.Mathlib.Nat.{mul_comm, mul-le-mul_left, add-le-add, le_refl}
use native.Mathlib.Omega.{arith}
use lib.Dec.{T, ltb, ltb→lt, nltb→le}
use lib.IntN.{ℤ, pos, negsuc, nat_abs, ◌+ℤ◌, ◌-ℤ◌, *ℤ_comm}
use mir.Syntax.{w32}
use mir.Val.{SFits, to_z, of_z}
use mir.ValLaws.{to_z-of_z}
use Rattle.kernel.proofs.Signs.{diff, plus, minus, is_pos, equal, parts, neg_parts, sum, scaled}
use Rattle.differences.specs.declared.Difference.{Difference}
use Rattle.differences.specs.Stencils.{Term, stencil_sum, stencil_of}
use Rattle.differences.specs.Distances.{total_size}

-- ---- differences of naturals

-- a difference is as large as its parts are apart
pub size_diff : (a b m : ℕ) → a ≤ b + m → b ≤ a + m → nat_abs (diff a b) ≤ m
size_diff a b m p q = go (ltb a b) (ltb→lt a b) (nltb→le a b)
  where
    go : (t : Bool) → (T t → a < b) → (T (not t) → b ≤ a) → nat_abs (diff a b) ≤ m
    go true f g = let l = f tt in rw (equal a b 0 (suc (b - suc a)) (omega arith) ∙ sym (parts (negsuc (b - suc a)))) (omega arith)
    go false f g = let l = g tt in rw (is_pos a b (a - b) (omega arith)) (omega arith)

pub less_diff : (a b : ℕ) → pos a -ℤ pos b ≡ diff a b
less_diff a b = ap₂ ◌+ℤ◌ (parts (pos a)) (neg_parts (pos b)) ∙ sum a 0 0 b ∙ equal (a + 0) (0 + b) a b (omega arith)

-- ---- a stencil by the sizes of its coefficients of one sign: those of `plus` are added, those of `minus` taken away
abbrev pub part : (ℤ → ℕ) → List Term → (ℤ → ℤ → ℕ) → ℕ
part side [] f = 0
part side (t ∷ ts) f = side t.coefficient * f t.dx t.dy + part side ts f

pub split : (ts : List Term) (f : ℤ → ℤ → ℕ) → stencil_sum ts f ≡ diff (part plus ts f) (part minus ts f)
unfolding stencil_sum
split [] f = parts (pos 0)
split (t ∷ ts) f =
    let v = f t.dx t.dy in
    let p = plus t.coefficient in
    let m = minus t.coefficient in
    ap₂ ◌+ℤ◌ (*ℤ_comm t.coefficient (pos v) ∙ scaled v t.coefficient ∙ ap₂ diff (mul_comm v p) (mul_comm v m)) (split ts f)
    ∙ sum (p * v) (m * v) (part plus ts f) (part minus ts f)

-- ---- sizes
size_parts : (z : ℤ) → nat_abs z ≡ plus z + minus z
size_parts (pos n) = omega arith
size_parts (negsuc n) = omega arith

-- where every entry is c, both parts together are the total size times c
pub all_parts : (ts : List Term) (c : ℕ) → part plus ts (λ dx dy. c) + part minus ts (λ dx dy. c) ≡ total_size ts * c
all_parts [] c = omega arith
all_parts (t ∷ ts) c = omega (arith, all_parts ts c, ap (λ n. n * c) (size_parts t.coefficient))

module _ (f : ℤ → ℤ → ℕ) (m : ℕ) (l : (dx dy : ℤ) → f dx dy ≤ m) where
  part_most : (side : ℤ → ℕ) (ts : List Term) → part side ts f ≤ part side ts (λ dx dy. m)
  part_most side [] = le_refl 0
  part_most side (t ∷ ts) = add-le-add (mul-le-mul_left (side t.coefficient) (l t.dx t.dy)) (part_most side ts)

  -- the sum is no larger than the total size of the coefficients times the largest entry
  pub small_sum : (ts : List Term) → nat_abs (stencil_sum ts f) ≤ total_size ts * m
  small_sum ts =
      rw (split ts f)
      (size_diff (part plus ts f) (part minus ts f) (total_size ts * m) (omega (arith, part_most plus ts, all_parts ts m)) (omega (arith, part_most minus ts, all_parts ts m)))

-- ---- what the code makes

-- the bits of what is added less what is taken away are those of the sum, where both are the stencil's
pub made : {which k : Difference} {v : ℤ} (f : ℤ → ℤ → ℕ) (a b : ℕ) → SFits w32 v → v ≡ pos a -ℤ pos b → which ≡ k
    → a + part minus (stencil_of k) f ≡ part plus (stencil_of k) f + b → to_z w32 (of_z w32 v) ≡ stencil_sum (stencil_of which) f
made {which} {k} {v} f a b fits ev ek e =
    to_z-of_z w32 v fits ∙ ev ∙ less_diff a b ∙ equal a b (part plus (stencil_of k) f) (part minus (stencil_of k) f) e ∙ sym (split (stencil_of k) f)
    ∙ ap (λ (d : Difference). stencil_sum (stencil_of d) f) (sym ek)
