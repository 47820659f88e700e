-- `job_printer`'s `bytes`: the bytes left are still to be printed from here on.
use lib.ListN.{drop}
use Rattle.job_printer.proofs.Printing.{Printing}
use Rattle.job_printer.proofs.printer.Printer.bytes.Given as goal

abbrev pub invariant-loop-byte : goal.invariant-loop-byte
invariant-loop-byte l = Printing l.bytes l.initial.self (drop l.byte-index l.bytes) l.self
