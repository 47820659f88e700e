-- `kernel::kernel_by` meets its contract: the free number of the choice lies between the bounds, and its kernel is that of the choice.
-- Assumes nothing.
use mathlib.Core.Path.{sym, ap, ◌∙◌}
use lib.IntN.{pos}
use Rattle.std.specs.Prelude.{Ok}
use Rattle.kernel.specs.Molecule.{units_of, kernel_with}
use Rattle.kernel.specs.Choice.{free_by, kernel_by}
use Rattle.kernel.specs.Existence.{free_fits}
use Rattle.kernel.proofs.Answers.{answered, present}
use Rattle.kernel.proofs.Bounds.{free_kernel, choice_fits}
use Rattle.kernel.proofs.kernel_by.Goals as goal

pub kernel_of-requires : goal.kernel_of-requires
kernel_of-requires c =
    let a = c.args in
    let v = a.covariance in
    let h = answered (free_by a.choice v.xx v.xy v.yy a.steps) c.in_ok-free.free v.xx v.xy v.yy a.steps (sym c.free_by.ensures ∙ c.in_ok-free.was) in
    (h.0, ap (λ f. free_fits v.xx v.xy v.yy f (units_of a.steps)) h.2 ∙ choice_fits a.choice v.xx v.xy v.yy a.steps h.1)

pub returns : goal.returns
returns c =
    let a = c.args in
    let v = a.covariance in
    let h = answered (free_by a.choice v.xx v.xy v.yy a.steps) c.in_ok-free.free v.xx v.xy v.yy a.steps (sym c.free_by.ensures ∙ c.in_ok-free.was) in
    ap Ok (c.kernel_of.ensures ∙ ap (λ f. kernel_with v.xx v.xy v.yy (pos f) a.steps) h.2 ∙ free_kernel a.choice v.xx v.xy v.yy a.steps h.1)
    ∙ sym (present (kernel_by a.choice v.xx v.xy v.yy a.steps) v.xx v.xy v.yy a.steps h.0 h.1)
