-- Decimal numerals in ASCII ("Numbers are decimal"). Definitions only.
use Rattle.std.specs.Prelude.{ℕ, zero, suc, ◌+◌, ◌/◌, ◌%◌, cond, List, [], ◌∷◌, ◌++◌, ltb, ℤ, pos, negsuc}

abbrev pub minus_sign : ℕ
minus_sign = 45

-- the digits 0 to 9
abbrev pub digit : ℕ → ℕ
digit d = 48 + d

-- the numeral of n, where it has at most that many places
unfoldable pub numeral_within : ℕ → ℕ → List ℕ
numeral_within zero n = []
numeral_within (suc places) n =
    let more = numeral_within places (n / 10) ++ digit (n % 10) ∷ [] in
    cond (ltb n 10) (digit n ∷ []) more

-- the numeral of n, most significant digit first: "no plus, leading zero or minus zero". It has at most n + 1 places.
unfoldable pub numeral : ℕ → List ℕ
numeral n = numeral_within (suc n) n

-- a signed number
abbrev pub integer : ℤ → List ℕ
integer (pos n) = numeral n
integer (negsuc n) = minus_sign ∷ numeral (suc n)
