-- `in_place::Plan::make_ends` meets its contract. The loop's invariant: the rows before row n of the band are right where they were right
-- between their ends, and the others are as they were. Assumes nothing.
use mathlib.Core.Path.{◌≡◌}
use mathlib.Core.List.{List}
use Prim.Native.Nat.{ℕ, ◌+◌, ◌*◌, ◌≤◌, ◌<◌}
use lib.ListN.{length, get_or}
use Rattle.kernel.specs.declared.Kernel.{Kernel}
use Rattle.row_core.specs.Prepared.{kernel_of_coefficients}
use Rattle.row_core.specs.declared.Starts.{Starts}
use Rattle.in_place.specs.Bands.{band_pixel}
use Rattle.in_place.proofs.Plan.make_ends.Given as goal

pub record Progress (k : Kernel) (w : ℕ) (pixels : List ℕ) (v : Starts) (l₀ l : List ℕ) (n : ℕ) : Type 0 where
  pub size : length l ≡ length l₀
  pub done : (j x : ℕ) → x < w → j < n → (0 < x → x + 1 < w → get_or l₀ (j * w + x) 0 ≡ band_pixel k w pixels v j x) → get_or l (j * w + x) 0 ≡ band_pixel k w pixels v j x
  pub kept : (j x : ℕ) → n ≤ j → x < w → get_or l (j * w + x) 0 ≡ get_or l₀ (j * w + x) 0

abbrev pub invariant-loop-j : goal.invariant-loop-j
invariant-loop-j l =
    Progress (kernel_of_coefficients l.self.coefficients) l.self.width l.source l.band.starts l.initial.line l.line l.j
