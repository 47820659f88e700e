-- `job_converter::line_end` meets its contract. Assumes nothing.
use mathlib.Core.Path.{◌∙◌}
use Rattle.job_converter.proofs.Lines.{end_found}
use Rattle.job_converter.proofs.line_end.Goals as goal

pub returns : goal.returns
returns c = c.unwrap_or.ensures ∙ rw c.newline_at.ensures (end_found c.args.text.now)
