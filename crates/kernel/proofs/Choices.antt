-- Worked examples of S-2: halves rounded up, the bound and the free number of each choice, and the numbers that name a
-- choice. Assumes nothing.
use mathlib.Core.Path.{◌≡◌, refl}
use mathlib.Core.List.{List, [], ◌∷◌, map}
use Prim.Native.Nat.{ℕ}
use lib.IntN.{ℤ, pos, negsuc}
use Rattle.kernel.specs.declared.Choice.{Choice}
use Rattle.kernel.specs.declared.Choice.TheVariants.{Binomial, Smallest}
use Rattle.kernel.specs.Offsets.{minus_one}
use Rattle.kernel.specs.Choice.{half_up, binomial_bound, free_number_by, choice_of}

abbrev pub halves : List (ℤ × ℤ)
halves =
    (pos 0, pos 0) ∷ (pos 1, pos 1) ∷ (pos 2, pos 1) ∷ (pos 3, pos 2)
    ∷ (minus_one, pos 0) ∷ (negsuc 1, minus_one) ∷ (negsuc 2, minus_one) ∷ (negsuc 3, negsuc 1)
    ∷ []

pub halved : map (λ row. (row.0, half_up row.0)) halves ≡ halves
halved = refl

-- ---- a covariance, M, the bound of S-2, and the free numbers of S-2 and of the smallest choice
pub record Example : Type 0 where
  pub xx : ℤ
  pub xy : ℤ
  pub yy : ℤ
  pub m : ℕ
  pub bound : ℤ
  pub binomial : ℤ
  pub smallest : ℤ

abbrev pub example : ℤ → ℤ → ℤ → ℕ → ℤ → ℤ → ℤ → Example
example xx xy yy m bound binomial smallest =
    record { xx = xx; xy = xy; yy = yy; m = m; bound = bound; binomial = binomial; smallest = smallest }

abbrev pub examples : List Example
examples =
    -- case a: half of 2048 + 2048 + 2048 − 4096; and case e: "Case e has f 2049", half of 4097 + 4096 + 4097 − 8192
    example (pos 2048) (pos 0) (pos 2048) 4096 (pos 1024) (pos 1024) (pos 0)
    ∷ example (pos 4097) (pos 0) (pos 4096) 8192 (pos 2049) (pos 2049) (pos 1)
    -- "rounded up": half of 2051 is 1026
    ∷ example (pos 2049) (pos 0) (pos 2049) 4096 (pos 1026) (pos 1026) (pos 2)
    -- "never more than the smaller of xx and yy", which comes last: case j, and its like in y
    ∷ example (pos 4096) (pos 0) (pos 0) 4096 (pos 2048) (pos 0) (pos 0)
    ∷ example (pos 0) (pos 0) (pos 4096) 4096 (pos 2048) (pos 0) (pos 0)
    -- case f: |xy| is the largest; and with xy below 0
    ∷ example (pos 1000) (pos 1000) (pos 1000) 4096 (pos 1000) (pos 1000) (pos 1000)
    ∷ example (pos 2048) (negsuc 1499) (pos 2048) 4096 (pos 1500) (pos 1500) (pos 1500)
    -- two variances that differ: half of 2500 + 1500 + 2500 − 4096, whichever of the two is the larger
    ∷ example (pos 2500) (pos 0) (pos 1500) 4096 (pos 1202) (pos 1202) (pos 0)
    ∷ example (pos 1500) (pos 0) (pos 2500) 4096 (pos 1202) (pos 1202) (pos 0)
    -- all three below 0 but |xy|; and a variance below 0
    ∷ example (pos 100) (pos 7) (pos 100) 4096 (pos 7) (pos 7) (pos 7)
    ∷ example minus_one (pos 0) (pos 0) 4096 (pos 0) minus_one (pos 0)
    -- where no kernel exists: 10000 + 10000 − 4096 is the largest of the three, half of the third number is 12952
    ∷ example (pos 10000) (pos 0) (pos 10000) 4096 (pos 15904) (pos 10000) (pos 15904)
    -- the ends of 32 bits: 2 × 2147483647 − 4096, and |−2147483648|
    ∷ example (pos 2147483647) (negsuc 2147483647) (pos 2147483647) 4096 (pos 4294963198) (pos 2147483647) (pos 4294963198)
    ∷ example (negsuc 2147483647) (negsuc 2147483647) (negsuc 2147483647) 262144 (pos 2147483648) (negsuc 2147483647) (pos 2147483648)
    ∷ []

abbrev pub computed : Example → Example
computed e =
    example e.xx e.xy e.yy e.m
    (binomial_bound e.xx e.xy e.yy e.m)
    (free_number_by Binomial e.xx e.xy e.yy e.m)
    (free_number_by Smallest e.xx e.xy e.yy e.m)

pub chosen : map computed examples ≡ examples
chosen = refl

-- ---- a number, and the choice that it names
abbrev pub names : List (ℕ × Choice)
names = (0, Binomial) ∷ (1, Smallest) ∷ (2, Binomial) ∷ (4294967295, Binomial) ∷ []

pub named : map (λ row. (row.0, choice_of row.0)) names ≡ names
named = refl
