-- `job_parser::cursor::Cursor::digits`'s loop: reading on from here with the value so far finds what reading from the start finds,
-- and the value is at most the limit.
use mathlib.Core.Path.{◌≡◌}
use Prim.Native.Nat.{◌≤◌}
use lib.ListN.{drop}
use Rattle.job_parser.specs.Reading.{read_digits}
use Rattle.job_parser.proofs.cursor.Cursor.digits.Given as goal

abbrev pub invariant-loop-place : goal.invariant-loop-place
invariant-loop-place l =
    record {
      reads : read_digits l.limit l.end l.value (drop l.place l.text) ≡ read_digits l.limit l.end 0 l.text;
      small : l.value ≤ l.limit;
    }
