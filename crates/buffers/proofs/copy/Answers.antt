-- `buffers::copy` meets its contract. The invariant: the target's front is the source's (`Filled`). Assumes nothing.
use mathlib.Core.Path.{refl, sym}
use native.Mathlib.Omega.{arith}
use lib.ListN.{length, get_or}
use Rattle.averaging.proofs.Images.{filled_none, filled_more, filled_copy}
use Rattle.buffers.proofs.copy.Goals as goal

pub loop-place-init : goal.loop-place-init
loop-place-init c = let s = c.args.source.now in filled_none (length s) (λ k. get_or s k 0) c.args.target.now (sym c.requires)

pub loop-place-preserved : goal.loop-place-preserved
loop-place-preserved c =
    let s = c.args.source.now in
    let l = c.loop-place in
    filled_more (length s) (λ k. get_or s k 0) l.target l.place l.invariant (omega arith) refl

pub returns : goal.returns
returns c = filled_copy 0 c.args.source.now c.loop-place.target c.loop-place.place c.loop-place.invariant (omega arith)
