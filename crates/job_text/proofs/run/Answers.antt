-- `job_text::run` meets its contract. Assumes nothing.
use mathlib.Core.Path.{◌≡◌, sym, ◌∙◌}
use borrow.Author.Rules.{rules}
use Rattle.std.specs.Prelude.{Err}
use Rattle.job_text.proofs.Runs.{refused_run, accepted_run}
use Rattle.job_text.proofs.run.Goals as goal

pub returns-in_err-run_by-clause-value : goal.returns-in_err-run_by-clause-value
returns-in_err-run_by-clause-value c =
    let a = c.args in
    let refused : c.from_residual.result ≡ Err c.in_err-run_by.field-0.0 = search rules in
    refused ∙ sym (refused_run a.header a.first.now a.second.now c.requires.first_len c.requires.second_len c.in_err-run_by.field-0.0 (rw c.shape_of-shape.ensures at c.in_err-run_by.ensures.outcome))

pub returns-clause-value : goal.returns-clause-value
returns-clause-value c =
    let a = c.args in
    c.kernel_by.ensures ∙ accepted_run a.header a.first.now a.second.now c.requires.first_len c.requires.second_len (rw c.shape_of-shape.ensures at c.in_ok-run_by.ensures.outcome)
