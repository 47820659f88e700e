-- A part of a list, and a list with a part put in: what was put is what is read there, and what lies elsewhere stays.
-- Assumes nothing.
use mathlib.Core.Path.{◌≡◌, refl, sym, ◌∙◌, ap}
use mathlib.Core.Bool.{Bool, true, false}
use mathlib.Core.List.{List, ◌++◌, append_assoc}
use Prim.Native.Nat.{ℕ, ◌+◌, ◌-◌, ◌*◌, ◌≤◌}
use native.Mathlib.Nat.{le_trans, mul-le-mul_left}
use native.Mathlib.Omega.{arith}
use borrow.Author.Tests.{ltb-true, ltb-false}
use lib.Dec.{ltb}
use lib.ListN.{length, take, drop, length-append, length-drop}
use lib.Seq.{length-take-le, drop_at, take-append-le, take-take, take-add, drop-drop, take-append_seam}
use Rattle.machine.specs.Store.{part, put}

pub length_part : (start n : ℕ) (l : List ℕ) → start + n ≤ length l → length (part start n l) ≡ n
length_part start n l h = length-take-le n (drop start l) (rw (length-drop start l) (omega arith))

-- a part, by what stands up to its end
part_take : (a n : ℕ) (l : List ℕ) → a ≤ length l → part a n l ≡ drop a (take (a + n) l)
part_take a n l h = sym (rw (take-add a n l) (drop_at (take a l) (take n (drop a l)) a (length-take-le a l h)))

module _ (b : ℕ) (ys l : List ℕ) (h : b + length ys ≤ length l) where
  head : length (take b l) ≡ b
  head = length-take-le b l (omega arith)

  pub length_put : length (put b ys l) ≡ length l
  length_put = rw (length-append, head, length-append, length-drop) (omega arith)

  part_put : part b (length ys) (put b ys l) ≡ ys
  part_put = rw (drop_at (take b l) (ys ++ drop (b + length ys) l) b head) (take-append_seam ys (drop (b + length ys) l))

  part_before : (a n : ℕ) → a + n ≤ b → part a n (put b ys l) ≡ part a n l
  part_before a n g =
      part_take a n (put b ys l) (omega (arith, length_put))
      ∙ ap (drop a) (take-append-le (a + n) (take b l) _ (omega (arith, head)) ∙ take-take (a + n) b l g)
      ∙ sym (part_take a n l (omega arith))

  drop_put : drop (b + length ys) (put b ys l) ≡ drop (b + length ys) l
  drop_put =
      rw (← append_assoc (take b l) ys (drop (b + length ys) l))
      (drop_at (take b l ++ ys) (drop (b + length ys) l) (b + length ys) (length-append (take b l) ys ∙ ap (λ (n : ℕ). n + length ys) head))

  part_after : (a n : ℕ) → b + length ys ≤ a → part a n (put b ys l) ≡ part a n l
  part_after a n g =
      let e : (b + length ys) + (a - (b + length ys)) ≡ a = omega arith in
      ap (take n)
      (ap (λ (x : ℕ). drop x (put b ys l)) (sym e)
      ∙ sym (drop-drop (a - (b + length ys)) (b + length ys) (put b ys l))
      ∙ ap (drop (a - (b + length ys))) drop_put
      ∙ drop-drop (a - (b + length ys)) (b + length ys) l
      ∙ ap (λ (x : ℕ). drop x l) e)

-- what was put stands there
pub part_own : (b n : ℕ) (ys l : List ℕ) → length ys ≡ n → b + n ≤ length l → part b n (put b ys l) ≡ ys
part_own b n ys l e h = ap (λ (x : ℕ). part b x (put b ys l)) (sym e) ∙ part_put b ys l (rw e h)

-- what is put into the block of one slot leaves the block of another as it was
pub part_other : (block i m b a n : ℕ) (ys l : List ℕ) → b + length ys ≤ length l → (i ≡ m → ⊥) → block * m ≤ b
    → b + length ys ≤ block * (m + 1) → block * i ≤ a → a + n ≤ block * (i + 1) → part a n (put b ys l) ≡ part a n l
part_other block i m b a n ys l h ne p q u v = go (ltb i m) refl
  where
    go : (t : Bool) → ltb i m ≡ t → part a n (put b ys l) ≡ part a n l
    go true e =
        let w = ltb-true i m e in
        part_before b ys l h a n (le_trans v (le_trans (mul-le-mul_left block (omega arith)) p))
    go false e =
        let w = ltb-false i m e in
        part_after b ys l h a n (le_trans q (le_trans (mul-le-mul_left block (omega arith)) u))
