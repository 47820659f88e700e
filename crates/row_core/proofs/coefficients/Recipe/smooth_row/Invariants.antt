-- `row_core::Recipe::smooth_row` meets its contract. The loop's invariant: the pixels before column x are stored (`Filled`). Assumes nothing.
use mathlib.Core.List.{List}
use Prim.Native.Nat.{ℕ, ◌+◌, ◌*◌, ◌/◌}
use lib.ListN.{length}
use Rattle.kernel.specs.Offsets.{weighted}
use Rattle.averaging.proofs.Images.{Filled}
use Rattle.row_core.specs.Prepared.{kernel_of_coefficients}
use Rattle.row_core.specs.Rows.{column_of, pixel_in}
use Rattle.row_core.specs.declared.coefficients.Coefficients.{Coefficients}
use Rattle.row_core.proofs.coefficients.Recipe.smooth_row.Given as goal

-- the pixels of the row
abbrev pub pixels : Coefficients → List ℕ → List ℕ → List ℕ → ℕ → ℕ
pixels k a b c x =
    weighted (pixel_in (column_of a b c x) (column_of a b c (x + 1)) (column_of a b c (x + 2))) (kernel_of_coefficients k).weights / (2 * (kernel_of_coefficients k).sum)

abbrev pub invariant-loop-x : goal.invariant-loop-x
invariant-loop-x l =
    Filled (length l.initial.out) (pixels l.self.coefficients l.lines.above.now l.lines.at.now l.lines.below.now) l.out l.x
