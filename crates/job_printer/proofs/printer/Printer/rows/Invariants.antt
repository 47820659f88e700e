-- `job_printer`'s `rows`: the lines left are still to be printed from here on.
use Prim.Native.Nat.{◌-◌, ◌*◌}
use lib.ListN.{drop}
use Rattle.job_printer.specs.Fields.{row_lines}
use Rattle.job_printer.proofs.Printing.{Printing}
use Rattle.job_printer.proofs.printer.Printer.rows.Given as goal

abbrev pub invariant-loop-row : goal.invariant-loop-row
invariant-loop-row l = Printing (row_lines l.width l.height l.pixels) l.initial.self (row_lines l.width (l.height - l.row) (drop (l.row * l.width) l.pixels)) l.self
