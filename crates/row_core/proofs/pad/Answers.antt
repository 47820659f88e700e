-- `row_core::pad` meets its contract. The loop's invariant: the first i + 1 values of the line are those of the padded row. Assumes
-- nothing.
use mathlib.Core.Path.{◌≡◌, sym, ap, ◌∙◌}
use mathlib.Core.List.{List}
use Prim.Native.Nat.{ℕ, ◌+◌, ◌-◌, min}
use native.Mathlib.Omega.{arith}
use lib.ListN.{length, get_or, set}
use Rattle.averaging.proofs.Images.{place_before, filled_none, filled_more, filled_all}
use Rattle.row_core.specs.Rows.{doubled, padded_of}
use Rattle.row_core.proofs.pad.Goals as goal
use Rattle.row_core.proofs.pad.Invariants.{padding}

padding_at : (row : List ℕ) (i j : ℕ) → j ≡ min (i - 1) (length row - 1) → padding row i ≡ doubled (get_or row j 0)
padding_at row i j e = ap (λ (k : ℕ). doubled (get_or row k 0)) (place_before (length row) i ∙ sym e)

pub loop-i-init : goal.loop-i-init
loop-i-init c =
    let a = c.args in
    let n = length a.row.now + 2 in
    let none = filled_none n (padding a.row.now) a.line.now (omega arith) in
    filled_more n (padding a.row.now) a.line.now 0 none (omega arith) (c.doubled.ensures ∙ sym (padding_at a.row.now 0 0 (omega arith)))

pub loop-i-preserved : goal.loop-i-preserved
loop-i-preserved c =
    let row = c.args.row.now in
    let l = c.loop-i in
    filled_more (length row + 2) (padding row) l.line (l.i + 1) l.invariant (omega arith)
    (c.doubled-in-loop-i.ensures ∙ sym (padding_at row (l.i + 1) l.i (omega arith)))

pub returns : goal.returns
unfolding padded_of
returns c =
    let row = c.args.row.now in
    let l = c.loop-i in
    let n = length row in
    let e : l.i ≡ n = omega arith in
    let v = c.doubled-2.result in
    let last = filled_more (n + 2) (padding row) l.line (n + 1) {v = v} (rw e at l.invariant) (omega arith) (c.doubled-2.ensures ∙ sym (padding_at row (n + 1) (n - 1) (omega arith))) in
    filled_all (n + 2) (padding row) (set l.line (n + 1) v) (n + 1 + 1) last (omega arith)
