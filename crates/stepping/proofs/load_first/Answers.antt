-- `stepping::load_first` meets its contract: the two lines that it writes lie apart, so that the second does not change the
-- first. Assumes nothing.
use mathlib.Core.Path.{◌≡◌, ap, ◌∙◌}
use mathlib.Core.Logic.{inl, inr}
use Prim.Native.Nat.{ℕ, ◌+◌}
use native.Mathlib.Omega.{arith}
use lib.ListN.{length}
use Rattle.row_core.specs.Rows.{padded_of, part}
use Rattle.row_core.proofs.Parts.{length_part, part_written}
use Rattle.row_core.proofs.Rows.{length_padded}
use Rattle.stepping.proofs.Buffers.{part_kept}
use Rattle.stepping.proofs.load_first.Goals as goal

pub returns : goal.returns
returns c =
    let a = c.args in
    let n = a.width + 2 in
    let first = c.load_line in
    let second = c.load_line-2 in
    let row = part 0 a.width a.source.now in
    let size : length (padded_of row) ≡ n = length_padded row ∙ ap (λ (m : ℕ). m + 2) (length_part 0 a.width a.source.now (omega arith)) in
    let room : length first.new.lines ≡ length a.lines.now = omega arith in
    let both : length second.new.lines ≡ length first.new.lines = omega arith in
    let above : part 0 n first.new.lines ≡ padded_of row = rw first.ensures (part_written a.lines.now 0 n (padded_of row) (omega arith) size) in
    record {
      slots = rw (both, room) (record { above = omega arith; at = omega arith; below = omega arith; above_at = inl (omega arith); at_below = inl (omega arith); below_above = inr (omega arith) });
      above = rw second.ensures (part_kept first.new.lines n n (padded_of row) (omega arith) size 0 (omega arith) (inl (omega arith)) ∙ above);
      at = rw second.ensures (part_written first.new.lines n n (padded_of row) (omega arith) size);
    }
