-- docs/REFERENCE.md, "Kernel": the weights from a covariance xx, xy, yy in 1/4096 square pixel, the free number f and M. Signed
-- whole numbers throughout, so that no difference is cut off at 0. Definitions only.
use Rattle.std.specs.Prelude.{ℕ, ◌*◌, cond, List, [], ◌∷◌, map, ℤ, pos, nat_abs, ◌+ℤ◌, ◌-ℤ◌, ◌*ℤ◌}
use Rattle.std.specs.Int.Signed.{le_z}
use Rattle.limits.specs.Limits.{units_per_square_pixel}
use Rattle.kernel.specs.declared.Kernel.{Kernel}

-- "Let k be the number of steps and M = 4096 × k"
abbrev pub units_of : ℕ → ℕ
units_of k = units_per_square_pixel * k

-- "All weights are whole numbers over 4 × M"
abbrev pub sum_of : ℕ → ℕ
sum_of k = 4 * units_of k

abbrev pub larger : ℤ → ℤ → ℤ
larger a b = cond (le_z a b) b a

abbrev pub smaller : ℤ → ℤ → ℤ
smaller a b = cond (le_z a b) a b

-- "The free number f is the larger of |xy| and xx + yy − M". S-2 calls this choice "smallest"; `Choice` has the other.
abbrev pub free_number : ℤ → ℤ → ℤ → ℕ → ℤ
free_number xx xy yy m = larger (pos (nat_abs xy)) (xx +ℤ yy -ℤ pos m)

-- the weights for any f, in the order of `offsets`:
--   offsets (1,1) and (−1,−1): f + xy; offsets (1,−1) and (−1,1): f − xy;
--   offsets (±1,0): 2 × (xx − f); offsets (0,±1): 2 × (yy − f); centre: 4 × (M − xx − yy + f)
abbrev pub molecule : ℤ → ℤ → ℤ → ℤ → ℕ → List ℤ
molecule xx xy yy f m =
    (f +ℤ xy) ∷ (pos 2 *ℤ (yy -ℤ f)) ∷ (f -ℤ xy)
    ∷ (pos 2 *ℤ (xx -ℤ f)) ∷ (pos 4 *ℤ (pos m -ℤ xx -ℤ yy +ℤ f)) ∷ (pos 2 *ℤ (xx -ℤ f))
    ∷ (f -ℤ xy) ∷ (pos 2 *ℤ (yy -ℤ f)) ∷ (f +ℤ xy)
    ∷ []

-- the kernel of a covariance, a free number and a step count. `nat_abs` only brings a weight from ℤ to ℕ, and takes each as it is:
-- for every f from the larger of |xy| and xx + yy − M to the smaller of xx and yy, so wherever a kernel exists, no weight of the
-- molecule is negative, and the nine weights read as signed numbers are the molecule (`with_molecule` of `proofs/Theorems`).
unfoldable pub kernel_with : ℤ → ℤ → ℤ → ℤ → ℕ → Kernel
kernel_with xx xy yy f k = record { weights = map nat_abs (molecule xx xy yy f (units_of k)); sum = sum_of k }

-- the kernel of a covariance and a step count, by the smallest free number: that of a caller who names "smallest", and of jobs by the old rules
abbrev pub kernel_of : ℤ → ℤ → ℤ → ℕ → Kernel
kernel_of xx xy yy k = kernel_with xx xy yy (free_number xx xy yy (units_of k)) k
