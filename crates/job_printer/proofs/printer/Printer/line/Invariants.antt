-- `job_printer`'s `line`: the fields left are still to be printed from here on.
use mathlib.Core.List.{map}
use lib.ListN.{drop}
use Rattle.job_printer.specs.Numerals.{numeral}
use Rattle.job_printer.specs.Fields.{line}
use Rattle.job_printer.proofs.Printing.{Printing}
use Rattle.job_printer.proofs.printer.Printer.line.Given as goal

abbrev pub invariant-loop-place : goal.invariant-loop-place
invariant-loop-place g l = Printing (line (map (λ n. numeral (g.N.Number.value n)) l.numbers)) l.initial.self (line (map (λ n. numeral (g.N.Number.value n)) (drop l.place l.numbers))) l.self
