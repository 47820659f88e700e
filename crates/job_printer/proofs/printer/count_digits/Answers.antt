-- `job_printer::printer::count_digits` meets its contract. Assumes nothing.
use Rattle.job_printer.proofs.Numerals.{counted}
use Rattle.job_printer.proofs.printer.count_digits.Goals as goal

pub returns : goal.returns
returns c = let h = c.max.ensures in let e = c.ilog10.ensures in counted c.args.n c.ilog10.result (rw h at e.power_le) (rw h at e.next_power_gt)
