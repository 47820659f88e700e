-- `differences::undivided_difference` meets its contract: where no check failed, every place lies inside the picture, and the
-- entries at all places are the differences. Assumes nothing.
use mathlib.Core.Path.{sym, ◌∙◌}
use native.Mathlib.Omega.{arith}
use lib.ListN.{length}
use lib.IntN.{pos}
use Rattle.std.proofs.Common.{rules}
use Rattle.differences.proofs.Checks.{passed}
use Rattle.differences.proofs.Walk.{area, inside_each, differences_filled}
use Rattle.differences.proofs.undivided_difference.Goals as goal

pub fill_places-requires : goal.fill_places-requires
fill_places-requires c =
    let a = c.args in
    let f = passed (length a.pixels.now) (length a.res.now) a.width a.height (sym c.checked.ensures ∙ c.in_ok-checked.was) in
    record { wide = (f.wide, f.narrow); small = omega (arith, area f, f.result); callable = λ at l. let h = inside_each f at l in search rules }

pub returns-clause-entries : goal.returns-clause-entries
returns-clause-entries c =
    let a = c.args in
    let f = passed (length a.pixels.now) (length a.res.now) a.width a.height (sym c.checked.ensures ∙ c.in_ok-checked.was) in
    differences_filled f a.which a.pixels.now (search rules) (λ i l. let h = c.fill_places.ensures i l (pos 0) in search rules)
