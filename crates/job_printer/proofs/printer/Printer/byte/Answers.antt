-- `job_printer`'s `byte` meets its contract. Assumes nothing.
use mathlib.Core.Path.{refl}
use native.Mathlib.Omega.{arith}
use Rattle.job_printer.proofs.Buffers.{wrote_byte}
use Rattle.job_printer.proofs.printer.Printer.byte.Goals as goal

pub returns : goal.returns
returns c =
    let p = c.args.self.now in
    record { same_buffer = refl; wrote = wrote_byte p.out.now p.at c.args.byte (omega (arith, c.requires)) }
