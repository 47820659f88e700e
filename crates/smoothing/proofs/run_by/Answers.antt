-- `smoothing::run_by` meets its contract: where the checks refuse, nothing is written, and else the kernel is one to make steps with
-- and both pictures have w × h pixels. Assumes nothing.
use mathlib.Core.Path.{refl, sym, ◌∙◌}
use lib.ListN.{length}
use borrow.Author.Rules.{rules}
use Rattle.smoothing.specs.Runs.{run_of}
use Rattle.smoothing.proofs.Runs.{fills_pair, refused_run, accepted_run, kernel_of_run, step_kernel}
use Rattle.smoothing.proofs.run_by.Goals as goal

pub returns-in_err-kernel : goal.returns-in_err-kernel
unfolding run_of
returns-in_err-kernel c =
    let a = c.args in
    rw (refused_run a.choice a.shape a.steps a.width a.height (length a.first.now) (length a.second.now) (sym c.run_kernel.ensures ∙ c.in_err-kernel.was))
    (record { outcome = search rules; first = refl; second = refl })

pub run_steps-requires : goal.run_steps-requires
run_steps-requires c =
    let a = c.args in
    let made = sym c.run_kernel.ensures ∙ c.in_ok-kernel.was in
    let fit = fills_pair a.shape a.steps a.width a.height (length a.first.now) (length a.second.now) (accepted_run a.choice a.shape a.steps a.width a.height (length a.first.now) (length a.second.now) made) in
    record {
      step_kernel = step_kernel a.choice a.shape a.steps a.width a.height (length a.first.now) (length a.second.now) made;
      picture_pair = fit.0;
      le_steps = fit.1;
    }

pub returns : goal.returns
unfolding run_of
returns c =
    let a = c.args in
    let made = sym c.run_kernel.ensures ∙ c.in_ok-kernel.was in
    rw (accepted_run a.choice a.shape a.steps a.width a.height (length a.first.now) (length a.second.now) made, sym (kernel_of_run a.choice a.shape a.steps a.width a.height (length a.first.now) (length a.second.now) made))
    (record { outcome = refl; first = c.run_steps.ensures.first_after; second = c.run_steps.ensures.second_after })
