-- `smoothing::run_in_place_by` meets its contract: where the checks refuse, nothing is written, and else the kernel is one to make steps
-- with and the picture has w × h pixels. Assumes nothing.
use mathlib.Core.Path.{refl, sym, ◌∙◌}
use lib.ListN.{length}
use borrow.Author.Rules.{rules}
use Rattle.smoothing.specs.InPlace.{in_place_after}
use Rattle.smoothing.proofs.Runs.{refused_run, accepted_run, kernel_of_run, step_kernel}
use Rattle.smoothing.proofs.run_in_place_by.Goals as goal

pub returns-in_err-kernel : goal.returns-in_err-kernel
unfolding in_place_after
returns-in_err-kernel c =
    let a = c.args in
    rw (refused_run a.choice a.shape a.steps a.width a.height (length a.picture.now) (length a.picture.now) (sym c.run_kernel.ensures ∙ c.in_err-kernel.was))
    (record { outcome = search rules; picture = refl })

pub steps-requires-clause-step_kernel : goal.steps-requires-clause-step_kernel
steps-requires-clause-step_kernel c =
    let a = c.args in
    step_kernel a.choice a.shape a.steps a.width a.height (length a.picture.now) (length a.picture.now) (sym c.run_kernel.ensures ∙ c.in_ok-kernel.was)

pub returns-clause-picture : goal.returns-clause-picture
unfolding in_place_after
returns-clause-picture c =
    let a = c.args in
    let made = sym c.run_kernel.ensures ∙ c.in_ok-kernel.was in
    rw (accepted_run a.choice a.shape a.steps a.width a.height (length a.picture.now) (length a.picture.now) made, sym (kernel_of_run a.choice a.shape a.steps a.width a.height (length a.picture.now) (length a.picture.now) made)) c.steps.ensures
