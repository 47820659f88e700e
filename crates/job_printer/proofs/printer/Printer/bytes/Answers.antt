-- `job_printer`'s `bytes` meets its contract: in a turn the next byte is printed, and the others are left. Assumes nothing.
use mathlib.Core.List.{[], ◌∷◌}
use Prim.Native.Nat.{◌+◌}
use lib.ListN.{get_or, drop}
use Rattle.job_printer.proofs.Loops.{here}
use Rattle.job_printer.proofs.Printing.{begun, fits, one_part}
use Rattle.job_printer.proofs.printer.Printer.bytes.Goals as goal

pub loop-byte-init : goal.loop-byte-init
loop-byte-init c = begun c.args.bytes.now c.args.self.now c.requires

pub byte-requires : goal.byte-requires
byte-requires c =
    let l = c.loop-byte in
    let bytes = c.args.bytes.now in
    fits (get_or bytes l.byte-index 0 ∷ []) (drop (l.byte-index + 1) bytes) l.self (rw (here bytes l.byte-index c.loop-byte-test.true) at l.invariant)

pub loop-byte-preserved : goal.loop-byte-preserved
loop-byte-preserved c =
    let l = c.loop-byte in
    let bytes = c.args.bytes.now in
    one_part (get_or bytes l.byte-index 0 ∷ []) (drop (l.byte-index + 1) bytes) l.self c.byte.new.self (rw (here bytes l.byte-index c.loop-byte-test.true) at l.invariant) c.byte.ensures
