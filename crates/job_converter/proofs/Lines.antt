-- Where line one of a job text ends: no byte of its fields is a newline. Assumes nothing.
use mathlib.Core.Path.{◌≡◌, refl, ap}
use mathlib.Core.Bool.{Bool, true, false, cond}
use mathlib.Core.List.{List, [], ◌∷◌, ◌++◌}
use Prim.Native.Nat.{ℕ, zero, suc, ◌/◌, ◌%◌, ◌<◌, ◌≤◌}
use native.Mathlib.Omega.{arith}
use borrow.Author.Tests.{ne_eqb, ltb-true, ltb-false}
use lib.Dec.{ltb, eqb}
use lib.ListN.{length}
use lib.IntN.{ℤ, pos, negsuc}
use Rattle.std.specs.Prelude.{Some, None, ◌==◌, unwrap_or}
use Rattle.std.specs.List.{position, position_or_len}
use Rattle.job_printer.specs.Numerals.{digit, numeral, integer}
use Rattle.job_printer.specs.Fields.{newline}
use Rattle.job_printer.proofs.Numerals.{one_digit, last_digit}
use Rattle.job_converter.specs.Conversion.{line_end}

-- no byte is a newline
abbrev pub Plain : List ℕ → Type 0
Plain [] = Unit {0}
Plain (b ∷ bytes) = (b ≡ newline → ⊥) × Plain bytes

pub plain_both : (a b : List ℕ) → Plain a → Plain b → Plain (a ++ b)
plain_both [] b h k = k
plain_both (x ∷ a) b h k = (h.0, plain_both a b h.1 k)

plain_digit : (d : ℕ) → Plain (digit d ∷ [])
plain_digit d = ((λ e. omega arith), tt)

plain_within : (p n : ℕ) → n < p → Plain (numeral n)
plain_within zero n h = absurd (omega arith)
plain_within (suc p) n h = go (ltb n 10) refl (plain_within p (n / 10))
  where
    go : (b : Bool) → ltb n 10 ≡ b → (n / 10 < p → Plain (numeral (n / 10))) → Plain (numeral n)
    go true e r = rw (one_digit n (ltb-true n 10 e)) (plain_digit n)
    go false e r =
        let big = ltb-false n 10 e in
        rw (last_digit n big) (plain_both (numeral (n / 10)) (digit (n % 10) ∷ []) (r (omega arith)) (plain_digit (n % 10)))

pub plain_numeral : (n : ℕ) → Plain (numeral n)
plain_numeral n = plain_within (suc n) n (omega arith)

pub plain_integer : (z : ℤ) → Plain (integer z)
plain_integer (pos n) = plain_numeral n
plain_integer (negsuc n) = ((λ e. omega arith), plain_numeral (suc n))

-- so line one ends at its own newline
pub ends_at : (bytes rest : List ℕ) → Plain bytes → line_end (bytes ++ newline ∷ rest) ≡ length bytes
unfolding line_end
ends_at [] rest h = refl
ends_at (b ∷ bytes) rest h = rw (ne_eqb b newline h.0) (ap suc (ends_at bytes rest h.1))

-- where the first newline is, or the text's length where there is none
prefix_is : (text : List ℕ) → position_or_len (λ b. b == newline) text ≡ line_end text
unfolding line_end
prefix_is [] = refl
prefix_is (b ∷ text) = go (eqb b newline) refl (prefix_is text)
  where
    go : (t : Bool) → eqb b newline ≡ t → position_or_len (λ b. b == newline) text ≡ line_end text → position_or_len (λ b. b == newline) (b ∷ text) ≡ line_end (b ∷ text)
    go true e r = rw e
    go false e r = rw e (rw r (omega arith))

end_most : (text : List ℕ) → line_end text ≤ length text
unfolding line_end
end_most [] = omega arith
end_most (b ∷ text) = go (eqb b newline) (end_most text)
  where
    go : (t : Bool) → line_end text ≤ length text → cond t 0 (suc (line_end text)) ≤ suc (length text)
    go true r = omega arith
    go false r = omega arith

pub end_found : (text : List ℕ) → unwrap_or (position (λ b. b == newline) text) (length text) ≡ line_end text
end_found text = rw prefix_is (go (ltb (line_end text) (length text)) refl)
  where
    go : (t : Bool) → ltb (line_end text) (length text) ≡ t → unwrap_or (cond t (Some (line_end text)) None) (length text) ≡ line_end text
    go true e = refl
    go false e = let long = ltb-false (line_end text) (length text) e in let most = end_most text in omega arith
