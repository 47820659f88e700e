-- `row_core::pad` meets its contract. The loop's invariant: the first i + 1 values of the line are those of the padded row. Assumes
-- nothing.
use mathlib.Core.List.{List}
use Prim.Native.Nat.{ℕ, ◌+◌}
use lib.ListN.{length, get_or}
use lib.IntN.{pos, negsuc, ◌+ℤ◌}
use Rattle.image.specs.Image.{nearest_place}
use Rattle.averaging.proofs.Images.{Filled}
use Rattle.row_core.specs.Rows.{doubled}
use Rattle.row_core.proofs.pad.Given as goal

-- what a padded row holds at i
abbrev pub padding : List ℕ → ℕ → ℕ
padding row i = doubled (get_or row (nearest_place (length row) (pos i +ℤ negsuc 0)) 0)

abbrev pub invariant-loop-i : goal.invariant-loop-i
invariant-loop-i l = Filled (length l.row + 2) (padding l.row) l.line (l.i + 1)
