-- `job_printer`'s `number`: the digits written so far end the numeral, and what is left of the number has those that come before.
use mathlib.Core.Path.{◌≡◌}
use mathlib.Core.List.{List, ◌++◌}
use Prim.Native.Nat.{ℕ, ◌+◌, ◌-◌, ◌≤◌}
use lib.ListN.{length}
use Rattle.job_printer.specs.Numerals.{numeral}
use Rattle.job_printer.specs.Buffers.{written}
use Rattle.job_printer.proofs.Numerals.{lowest}
use Rattle.job_printer.proofs.printer.Printer.number.Given as goal

pub record Backward (n at : ℕ) (entry out : List ℕ) (i rest : ℕ) : Type 0 where
  pub tail : List ℕ
  pub digits : lowest (i - at) rest ++ tail ≡ numeral n
  pub stored : out ≡ written entry i tail
  pub low : at ≤ i
  pub ends : i + length tail ≡ at + length (numeral n)
  pub same : length out ≡ length entry

abbrev pub invariant-loop-place : goal.invariant-loop-place
invariant-loop-place l =
    record {
      same_buffer : l.self.out.ghost_name ≡ l.initial.self.out.ghost_name;
      backward : Backward l.n l.place-start l.initial.self.out.now l.self.out.now l.place l.rest;
    }
