-- `kernel::free_by` meets its contract: where the two tests are passed, the free number of the choice is that of the sizes. Assumes
-- nothing.
use mathlib.Core.Path.{◌≡◌, sym, ap, ◌∙◌}
use mathlib.Core.Bool.{true, false}
use Prim.Native.Nat.{◌≤◌, min}
use lib.IntN.{pos, nat_abs}
use lib.Signed.{lt_z}
use Rattle.std.proofs.Common.{rules}
use Rattle.std.specs.Prelude.{Ok}
use Rattle.limits.specs.Limits.{steps_in_range}
use Rattle.kernel.specs.Molecule.{units_of}
use Rattle.kernel.specs.Choice.{free_by}
use Rattle.kernel.proofs.Answers.{present, smallest_of, fits, by_size}
use Rattle.kernel.proofs.free_by.Goals as goal

pub returns : goal.returns
returns c =
    let a = c.args in
    let v = a.covariance in
    let m = units_of a.steps in
    let in_range : steps_in_range a.steps ≡ true = search rules in
    let px : lt_z v.xx (pos 0) ≡ false = search rules in
    let py : lt_z v.yy (pos 0) ≡ false = search rules in
    let x : c.unsigned_abs-xx.result ≡ nat_abs v.xx = search rules in
    let y : c.unsigned_abs-yy.result ≡ nat_abs v.yy = search rules in
    let z : c.unsigned_abs.result ≡ nat_abs v.xy = search rules in
    let small : c.smallest_free_number-smallest.result ≡ smallest_of v.xx v.xy v.yy m =
    c.smallest_free_number-smallest.ensures ∙ rw (c.units-m.ensures, x, y, z) in
    let l : smallest_of v.xx v.xy v.yy m ≤ min (nat_abs v.xx) (nat_abs v.yy) = search rules in
    let is : c.free_number_by.result ≡ free_by a.choice v.xx v.xy v.yy a.steps =
    ap nat_abs (c.free_number_by.ensures v.xy (c.smallest_free_number-smallest.ensures ∙ rw z))
    ∙ rw (c.units-m.ensures, x, y) (by_size a.choice v.xx v.xy v.yy a.steps px py) in
    ap Ok is ∙ sym (present (free_by a.choice v.xx v.xy v.yy a.steps) v.xx v.xy v.yy a.steps in_range (fits v.xx v.xy v.yy m px py l))
