-- `job_converter::checked` meets its contract: what the reader of jobs answers tells which of the three checks fails first. Assumes nothing.
use mathlib.Core.Path.{◌≡◌, sym, ◌∙◌}
use borrow.Author.Rules.{rules}
use Rattle.std.specs.Prelude.{Err}
use Rattle.limits.specs.declared.ErrorCode.TheVariants.{TextIsNoJob}
use Rattle.job_converter.proofs.Checks.{no_job_lem, by_length, not_back, text_sized}
use Rattle.job_converter.proofs.checked.Goals as goal

pub returns-in_err-header : goal.returns-in_err-header
returns-in_err-header c =
    let a = c.args in
    let none = c.in_err-header.ensures.ok_part in
    let code : c.in_err-header.field-0.0 ≡ TextIsNoJob = let e = rw none at c.in_err-header.ensures.value in cc in
    let refused : c.from_residual.result ≡ Err TextIsNoJob = rw (← code) (search rules) in
    refused ∙ sym (no_job_lem a.from a.to a.text.now a.size (sym c.read_job.ensures.value ∙ none))

pub fitting-requires : goal.fitting-requires
fitting-requires c =
    let a = c.args in
    let sized = text_sized a.from a.to a.text.now a.size c.in_ok-header.header (sym c.read_job.ensures.value ∙ c.in_ok-header.ensures.ok_part) in
    record { le_text = sized.0; text_bound = sized.1 }

pub returns-in-Smallest : goal.returns-in-Smallest
returns-in-Smallest c =
    let a = c.args in
    c.fitting.ensures ∙ sym (by_length a.from a.to a.text.now a.size c.in_ok-header.header (sym c.read_job.ensures.value ∙ c.in_ok-header.ensures.ok_part) c.in-Smallest.is)

pub returns-in-Binomial : goal.returns-in-Binomial
returns-in-Binomial c =
    let a = c.args in
    sym (not_back a.from a.to a.text.now a.size c.in_ok-header.header (sym c.read_job.ensures.value ∙ c.in_ok-header.ensures.ok_part) c.in-Binomial.is)
