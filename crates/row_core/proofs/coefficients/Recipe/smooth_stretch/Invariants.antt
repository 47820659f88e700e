-- `row_core::Recipe::smooth_stretch` meets its contract. The loop's invariant: the pixels before column x are stored (`Filled`). Assumes nothing.
use mathlib.Core.List.{List}
use Prim.Native.Nat.{ℕ, ◌+◌}
use lib.ListN.{length}
use Rattle.averaging.proofs.Images.{Filled}
use Rattle.row_core.specs.Prepared.{kernel_of_coefficients}
use Rattle.row_core.specs.Rows.{column_of}
use Rattle.row_core.specs.Stretches.{average_of}
use Rattle.row_core.specs.declared.coefficients.Coefficients.{Coefficients}
use Rattle.row_core.proofs.coefficients.Recipe.smooth_stretch.Given as goal

-- the pixels of the stretch
abbrev pub pixels : Coefficients → List ℕ → List ℕ → List ℕ → ℕ → ℕ
pixels k a b c x = average_of (kernel_of_coefficients k) (column_of a b c x) (column_of a b c (x + 1)) (column_of a b c (x + 2))

abbrev pub invariant-loop-x : goal.invariant-loop-x
invariant-loop-x l =
    Filled (length l.initial.out) (pixels l.self.coefficients l.rows.above.now l.rows.at.now l.rows.below.now) l.out l.x
