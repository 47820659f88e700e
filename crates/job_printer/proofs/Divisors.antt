-- Euclid's recursion gives the greatest common divisor, which is unique; a common divisor divides exactly. Assumes nothing.
use mathlib.Core.Path.{◌≡◌, refl}
use mathlib.Core.List.{List, [], ◌∷◌, ◌++◌, map}
use Prim.Native.Nat.{ℕ, zero, suc, ◌*◌, ◌/◌, ◌%◌, ◌∣◌, ◌≤◌}
use native.Mathlib.Nat.{dvd_refl, dvd-zero, dvd_trans, dvd-mod_iff, dvd_antisymm, div-mul_cancel, mod-lt}
use native.Mathlib.Omega.{arith}
use Rattle.job_printer.specs.Divisors.{DividesEach, GreatestDivisor, divisor_within, common_divisor}

-- gcd(a, 0) = a
pub with_zero : (a : ℕ) → GreatestDivisor (a ∷ 0 ∷ []) a
with_zero a = record { divides = (dvd_refl a, (dvd-zero a, tt)); greatest = λ d h. h.0 }

-- gcd(a, b) = gcd(b, a mod b)
pub with_remainder : (a b g : ℕ) → GreatestDivisor (b ∷ a % b ∷ []) g → GreatestDivisor (a ∷ b ∷ []) g
with_remainder a b g h =
    record {
      divides = ((dvd-mod_iff g h.divides.0).0 h.divides.1.0, (h.divides.0, tt));
      greatest = λ d e. h.greatest d (e.1.0, ((dvd-mod_iff d e.1.0).1 e.0, tt));
    }

-- the divisors of several numbers are those of the first ones' divisor
through : (d g : ℕ) (ns : List ℕ) → d ∣ g → DividesEach g ns → DividesEach d ns
through d g [] h k = tt
through d g (n ∷ ns) h k = (dvd_trans d h k.0, through d g ns h k.1)

both : (d w : ℕ) (ns : List ℕ) → DividesEach d ns → d ∣ w → DividesEach d (ns ++ w ∷ [])
both d w [] h k = (k, tt)
both d w (n ∷ ns) h k = (h.0, both d w ns h.1 k)

parts : (d w : ℕ) (ns : List ℕ) → DividesEach d (ns ++ w ∷ []) → DividesEach d ns × (d ∣ w)
parts d w [] h = (tt, h.0)
parts d w (n ∷ ns) h = let p = parts d w ns h.1 in ((h.0, p.0), p.1)

-- one number more
pub with_next : (ns : List ℕ) (w g r : ℕ) → GreatestDivisor ns g → GreatestDivisor (w ∷ g ∷ []) r → GreatestDivisor (ns ++ w ∷ []) r
with_next ns w g r h k =
    record {
      divides = both r w ns (through r g ns k.divides.1.0 h.divides) k.divides.0;
      greatest = λ d e. let p = parts d w ns e in k.greatest d (p.1, (h.greatest d p.0, tt));
    }

pub with_first : (ns : List ℕ) (w g r : ℕ) → GreatestDivisor ns g → GreatestDivisor (w ∷ g ∷ []) r → GreatestDivisor (w ∷ ns) r
with_first ns w g r h k =
    record {
      divides = (k.divides.0, through r g ns k.divides.1.0 h.divides);
      greatest = λ d e. k.greatest d (e.0, (h.greatest d e.1, tt));
    }

within_greatest : (turns a b : ℕ) → b ≤ turns → GreatestDivisor (a ∷ b ∷ []) (divisor_within turns a b)
unfolding divisor_within
within_greatest zero a zero h = with_zero a
within_greatest zero a (suc b) h = absurd (omega arith)
within_greatest (suc turns) a zero h = with_zero a
within_greatest (suc turns) a (suc b) h =
    let small = mod-lt a {m = suc b} (omega arith) in
    with_remainder a (suc b) (divisor_within turns (suc b) (a % suc b)) (within_greatest turns (suc b) (a % suc b) (omega arith))

pub common_greatest : (ns : List ℕ) → GreatestDivisor ns (common_divisor ns)
unfolding common_divisor
common_greatest [] = record { divides = tt; greatest = λ d h. dvd-zero d }
common_greatest (n ∷ ns) =
    let g = common_divisor ns in
    with_first ns n g (divisor_within g n g) (common_greatest ns) (within_greatest g n g (omega arith))

pub unique : (ns : List ℕ) (g r : ℕ) → GreatestDivisor ns g → GreatestDivisor ns r → g ≡ r
unique ns g r h k = dvd_antisymm (k.greatest g h.divides) (h.greatest r k.divides)

-- the quotients are exact
pub exact : (g : ℕ) (ns : List ℕ) → DividesEach g ns → map (λ q. q * g) (map (λ n. n / g) ns) ≡ ns
exact g [] h = refl
exact g (n ∷ ns) h = rw (div-mul_cancel g h.0, exact g ns h.1)
