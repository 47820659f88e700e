-- docs/REFERENCE.md, "The choice of f": the choices of the free number f, and the kernel by a choice. `free_number` and `kernel_of`
-- are those of K9, which S-2 calls "smallest". Definitions only.
use Rattle.std.specs.Prelude.{ℕ, ◌+◌, ◌/◌, cond, eqb, ℤ, pos, negsuc, neg_ℤ, nat_abs, ◌+ℤ◌, ◌-ℤ◌}
use Rattle.kernel.specs.declared.Kernel.{Kernel}
use Rattle.kernel.specs.declared.Choice.{Choice}
use Rattle.kernel.specs.declared.Choice.TheVariants.{Binomial, Smallest}
use Rattle.kernel.specs.Molecule.{units_of, larger, smaller, free_number, kernel_with}

-- half of a whole number, rounded up: half of 3 is 2, and half of −3 is −1
abbrev pub half_up : ℤ → ℤ
half_up (pos n) = pos ((n + 1) / 2)
half_up (negsuc n) = neg_ℤ (pos ((n + 1) / 2))

-- "f is the largest of |xy|, xx + yy − M and half of (xx + yy + max(xx, yy) − M) rounded up", before it is held below the variances
abbrev pub binomial_bound : ℤ → ℤ → ℤ → ℕ → ℤ
binomial_bound xx xy yy m = larger (free_number xx xy yy m) (half_up (xx +ℤ yy +ℤ larger xx yy -ℤ pos m))

-- the free number of a choice. "but never more than the smaller of xx and yy": this comes last. "A caller who needs the earlier f
-- names the choice "smallest"".
abbrev pub free_number_by : Choice → ℤ → ℤ → ℤ → ℕ → ℤ
free_number_by Binomial xx xy yy m = smaller (binomial_bound xx xy yy m) (smaller xx yy)
free_number_by Smallest xx xy yy m = free_number xx xy yy m

-- the kernel of a covariance and a step count, by a choice
abbrev pub kernel_by : Choice → ℤ → ℤ → ℤ → ℕ → Kernel
kernel_by choice xx xy yy k = kernel_with xx xy yy (free_number_by choice xx xy yy (units_of k)) k

-- f as the service's record holds it, a whole number without a sign: where a kernel exists it is f itself (`free_is` of
-- proofs/Bounds)
abbrev pub free_by : Choice → ℤ → ℤ → ℤ → ℕ → ℕ
free_by choice xx xy yy k = nat_abs (free_number_by choice xx xy yy (units_of k))

-- "a caller of a direct run who names none gets the new one"
abbrev pub default_choice : Choice
default_choice = Binomial

-- the number that names a choice where a caller has numbers alone: 1 names smallest, and every other number the default, so that
-- none has to be refused
abbrev pub choice_of : ℕ → Choice
choice_of n = cond (eqb n 1) Smallest default_choice
