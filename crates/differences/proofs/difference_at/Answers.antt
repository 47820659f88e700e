-- `differences::difference_at` meets its contract where it has four pixels: what it adds and what it takes away are the stencil's
-- terms with a positive and those with a negative coefficient. Assumes nothing.
use Prim.Native.Nat.{◌+◌}
use native.Mathlib.Omega.{arith}
use Rattle.differences.specs.Places.{around}
use Rattle.differences.proofs.Stencils.{made}
use borrow.Author.Rules.{rules}
use Rattle.differences.proofs.difference_at.Goals as goal

pub returns-in-Mixed : goal.returns-in-Mixed
returns-in-Mixed c =
    let a = c.args in
    let p = c.pixel-in-Mixed in
    let q = c.pixel-in-Mixed-2 in
    let r = c.pixel-in-Mixed-3 in
    let t = c.pixel-in-Mixed-4 in
    made (around a.pixels.now a.place) (p.result + q.result) (r.result + t.result) (search rules) c.signed_difference-in-Mixed.ensures
    c.in-Mixed.is (omega (arith, p.ensures.0, q.ensures.0, r.ensures.0, t.ensures.0))
