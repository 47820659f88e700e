-- Tests of each place and of each word of a slot, and arrays made place by place, as the definitions say them. Assumes nothing.
use mathlib.Core.Path.{◌≡◌, refl, sym, ◌∙◌, ap, ap₂, subst}
use mathlib.Core.Bool.{Bool, true, false, ◌&&◌}
use mathlib.Core.List.{List, [], ◌∷◌, map}
use Prim.Native.Nat.{ℕ, zero, suc, ◌+◌, ◌<◌, ◌≤◌}
use native.Mathlib.Numerals.{add-one}
use native.Mathlib.Omega.{arith}
use lib.ListN.{get_or}
use lib.Dec.{eqb}
use lib.Seq.{ext_get_or}
use borrow.Author.Tests.{eqb-true, eqb-false}
use denote.Param.Members.{Mut}
use Rattle.std.specs.Fn.{Called}
use Rattle.std.proofs.Math.Bool.{and-true}
use Rattle.std.specs.Array.{IsFromFnResult, IsFromFnResultFrom}
use Rattle.std.specs.List.{list_all, range_with_len}
use Rattle.std.proofs.lemmas.List.Folds.{list_all-append, list_all-map}
use Rattle.std.proofs.lemmas.List.FromFn.{map-range_with_len_more}
use Rattle.image.specs.Image.{entries}
use Rattle.averaging.proofs.Images.{length_entries, entry}
use Rattle.machine.specs.Slots.{every_place}
use Rattle.machine.proofs.Counts.{every_none, every_more}

pub every_range : (test : ℕ → Bool) (n : ℕ) → list_all test (range_with_len 0 n) ≡ every_place test n
every_range test zero = sym (every_none test)
every_range test (suc n) =
    ap (λ k. list_all test (range_with_len 0 k)) (sym (add-one n))
    ∙ sym (list_all-map (λ b. b) test (range_with_len 0 (n + 1)))
    ∙ ap (list_all (λ b. b)) (map-range_with_len_more test 0 n n (omega arith))
    ∙ list_all-append (λ b. b) (map test (range_with_len 0 n)) (test n ∷ [])
    ∙ ap₂ ◌&&◌ (list_all-map (λ b. b) test (range_with_len 0 n) ∙ every_range test n) (and-true (test n))
    ∙ sym (every_more test n)
    ∙ ap (every_place test) (add-one n)

-- an array whose entries one function made, each of its place. The function stays as it is from call to call
module _ {F B : Type 0} (g : Mut F (ℕ × Unit {0}) B) (f : F) (h : ℕ → B) (d : B) (ys : List B) (n : ℕ)
    (gives : (i : ℕ) (y : B) (q : F) → i < n → Called g f (i, tt) y q → (q ≡ f) × (y ≡ h i)) where
  each_made : (i more : ℕ) → i + more ≡ n → IsFromFnResultFrom g f ys i more → (k : ℕ) → i ≤ k → k < n → get_or ys k d ≡ h k
  each_made i zero e made k low high = absurd (omega arith)
  each_made i (suc more) e made k low high =
      go (eqb k i) refl (each_made (i + 1) more (omega arith) (subst (λ q. IsFromFnResultFrom g q ys (i + 1) more) call.0 made.4) k)
    where
      call : (made.0 ≡ f) × (made.1 ≡ h i)
      call = gives i made.1 made.0 (omega arith) made.3

      go : (t : Bool) → eqb k i ≡ t → (i + 1 ≤ k → k < n → get_or ys k d ≡ h k) → get_or ys k d ≡ h k
      go true t later = rw (eqb-true k i t) (made.2.1 d ∙ call.1)
      go false t later = let other = eqb-false k i t in later (omega arith) high

  pub made_entries : IsFromFnResult g f ys n → ys ≡ entries n h
  made_entries made =
      ext_get_or d ys (entries n h) (made.long ∙ sym (length_entries n h))
      (λ k l. each_made 0 n (omega arith) made.each k (omega arith) (omega (arith, made.long)) ∙ sym (entry n h d k (omega (arith, made.long))))
