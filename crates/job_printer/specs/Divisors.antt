-- The greatest common divisor of several numbers. Definitions only.
use Rattle.std.specs.Prelude.{List, [], ◌∷◌, map, ℕ, zero, suc, ◌/◌, ◌%◌}
use Rattle.std.specs.Int.{◌∣◌}

-- d divides each of the numbers
abbrev pub DividesEach : ℕ → List ℕ → Type 0
DividesEach d [] = Unit {0}
DividesEach d (n ∷ ns) = (d ∣ n) × DividesEach d ns

-- g divides each of the numbers, and every number that does divides g
pub record GreatestDivisor (ns : List ℕ) (g : ℕ) : Type 0 where
  pub divides : DividesEach g ns
  pub greatest : (d : ℕ) → DividesEach d ns → d ∣ g

-- "Euclid's recursion", in at most so many turns
unfoldable pub divisor_within : ℕ → ℕ → ℕ → ℕ
divisor_within zero a b = a
divisor_within (suc turns) a zero = a
divisor_within (suc turns) a (suc b) = divisor_within turns (suc b) (a % suc b)

-- the greatest common divisor, which `proofs/Divisors` shows of it; two numbers take at most b turns
unfoldable pub common_divisor : List ℕ → ℕ
common_divisor [] = 0
common_divisor (n ∷ ns) = let b = common_divisor ns in divisor_within b n b

abbrev pub quotients : ℕ → List ℕ → List ℕ
quotients d ns = map (λ n. n / d) ns

-- "all divided by their greatest common divisor"
abbrev pub reduced : List ℕ → List ℕ
reduced ns = quotients (common_divisor ns) ns
