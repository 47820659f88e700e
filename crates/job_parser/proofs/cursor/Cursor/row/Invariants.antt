-- `job_parser`'s `row`: the pixels stored so far are those found so far, and the rest of the line is read from here on.
use mathlib.Core.Path.{◌≡◌}
use Prim.Native.Nat.{◌-◌}
use lib.ListN.{take}
use Rattle.job_parser.specs.Reading.{read_row}
use Rattle.job_parser.proofs.Filling.{prepend}
use Rattle.job_parser.proofs.cursor.Cursor.row.Given as goal

abbrev pub invariant-loop-place : goal.invariant-loop-place
invariant-loop-place l = read_row l.width l.initial.self.rest.now ≡ prepend (take l.place l.pixels) (read_row (l.width - l.place) l.self.rest.now)
