-- `job_parser`'s `rows`: the lines stored so far are those found so far, and the rest of them are read from here on.
use mathlib.Core.Path.{◌≡◌}
use Prim.Native.Nat.{◌-◌, ◌*◌}
use lib.ListN.{take}
use Rattle.job_parser.specs.Reading.{read_rows}
use Rattle.job_parser.proofs.Filling.{prepend}
use Rattle.job_parser.proofs.cursor.Cursor.rows.Given as goal

abbrev pub invariant-loop-row : goal.invariant-loop-row
invariant-loop-row l = read_rows l.width l.height l.initial.self.rest.now ≡ prepend (take (l.row * l.width) l.pixels) (read_rows l.width (l.height - l.row) l.self.rest.now)
