-- The theorems on the K line: its numbers are exact quotients, in lowest terms. Assumes nothing.
use mathlib.Core.Path.{◌≡◌}
use mathlib.Core.List.{List, [], ◌∷◌, map}
use Prim.Native.Nat.{ℕ, ◌*◌, ◌<◌}
use native.Mathlib.Nat.{one-mul, one-dvd, mul-dvd-mul_right, dvd_of_mul-dvd-mul_right, div-mul_cancel, pos_of_dvd_of_pos}
use Rattle.job_printer.specs.Divisors.{DividesEach, GreatestDivisor, common_divisor, quotients, reduced}
use Rattle.job_printer.proofs.Divisors.{common_greatest, exact}

-- THE PRINTED NUMBERS ARE EXACT QUOTIENTS BY THE GREATEST COMMON DIVISOR (`common_greatest` of `proofs/Divisors`)
pub quotients_exact : (ns : List ℕ) → map (λ q. q * common_divisor ns) (reduced ns) ≡ ns
quotients_exact ns = exact (common_divisor ns) ns (common_greatest ns).divides

one_divides : (ns : List ℕ) → DividesEach 1 ns
one_divides [] = tt
one_divides (n ∷ ns) = (one-dvd n, one_divides ns)

multiplied : (d g : ℕ) (ns : List ℕ) → DividesEach g ns → DividesEach d (quotients g ns) → DividesEach (d * g) ns
multiplied d g [] h k = tt
multiplied d g (n ∷ ns) h k = (rw (div-mul_cancel g h.0) at (mul-dvd-mul_right d k.0 g), multiplied d g ns h.1 k.1)

-- and in lowest terms, where the first, the weights' sum, is not 0
pub lowest_terms : (sum : ℕ) (weights : List ℕ) → 0 < sum → GreatestDivisor (reduced (sum ∷ weights)) 1
lowest_terms sum weights positive =
    let ns : List ℕ = sum ∷ weights in
    let g = common_divisor ns in
    let greatest = common_greatest ns in
    record {
      divides = one_divides (reduced ns);
      greatest = λ d h. dvd_of_mul-dvd-mul_right d (pos_of_dvd_of_pos greatest.divides.0 positive) (rw (one-mul g) (greatest.greatest (d * g) (multiplied d g ns greatest.divides h)));
    }
