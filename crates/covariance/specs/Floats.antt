-- 64-bit floats by the logic's account of IEEE 754 (`lib.Ieee`): a finite float `fin s m e` is m × 2 ^ e, negative where s is
-- true, and 2 ^ e is the fraction up e / down e. Definitions only.
use Rattle.std.specs.Prelude.{ℕ, ◌*◌, Bool, true, false, ◌&&◌, ℤ, pos, neg_ℤ, Float}
use Rattle.std.specs.Float.{nan, inf, fin, binary64}
use Rattle.std.specs.Float.Ieee.{up, down, add, sub, mul, le}

-- "each operation rounded once": the sum, the difference and the product of two floats
infixl 6 ◌⊕◌
abbrev pub ◌⊕◌ : Float → Float → Float
x ⊕ y = add binary64 x y

infixl 6 ◌⊖◌
abbrev pub ◌⊖◌ : Float → Float → Float
x ⊖ y = sub binary64 x y

infixl 7 ◌⊗◌
abbrev pub ◌⊗◌ : Float → Float → Float
x ⊗ y = mul binary64 x y

-- x is a number from low to high, both ends inside. A NaN is in no range, and −0.0 is where 0 is.
unfoldable pub in_range : Float → Float → Float → Bool
in_range low high x = le low x && le x high

-- The exact value of a finite float is the fraction numerator / denominator.
abbrev pub numerator : Float → ℤ
numerator nan = pos 0
numerator (inf s) = pos 0
numerator (fin false m e) = pos (m * up e)
numerator (fin true m e) = neg_ℤ (pos (m * up e))

abbrev pub denominator : Float → ℕ
denominator nan = 1
denominator (inf s) = 1
denominator (fin s m e) = down e
