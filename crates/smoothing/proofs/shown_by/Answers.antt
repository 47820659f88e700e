-- `smoothing::shown_by` meets its contract: where the checks pass, each picture has w × h pixels, and `ends_in_first` says which is
-- shown; else no pixel is. Assumes nothing.
use mathlib.Core.Path.{sym, ◌∙◌}
use lib.ListN.{length}
use Rattle.smoothing.specs.Shown.{shown_of}
use Rattle.smoothing.proofs.Runs.{refused_run, accepted_run}
use Rattle.smoothing.proofs.shown_by.Goals as goal

pub returns-then-ends_in_first : goal.returns-then-ends_in_first
unfolding shown_of
returns-then-ends_in_first c =
    let a = c.args in
    rw (accepted_run a.choice a.shape a.steps a.width a.height (length a.first.now) (length a.second.now) (sym c.run_kernel.ensures ∙ c.in-Ok.is), sym c.ends_in_first.ensures ∙ c.if-ends_in_first.true, c.area-size.ensures)

pub returns-else-ends_in_first : goal.returns-else-ends_in_first
unfolding shown_of
returns-else-ends_in_first c =
    let a = c.args in
    rw (accepted_run a.choice a.shape a.steps a.width a.height (length a.first.now) (length a.second.now) (sym c.run_kernel.ensures ∙ c.in-Ok.is), sym c.ends_in_first.ensures ∙ c.if-ends_in_first.false, c.area-size.ensures)

pub returns-in-Err : goal.returns-in-Err
unfolding shown_of
returns-in-Err c =
    let a = c.args in
    rw (refused_run a.choice a.shape a.steps a.width a.height (length a.first.now) (length a.second.now) (sym c.run_kernel.ensures ∙ c.in-Err.is))
