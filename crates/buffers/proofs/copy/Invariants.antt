-- `buffers::copy` meets its contract. The invariant: the target's front is the source's (`Filled`). Assumes nothing.
use lib.ListN.{length, get_or}
use Rattle.averaging.proofs.Images.{Filled}
use Rattle.buffers.proofs.copy.Given as goal

abbrev pub invariant-loop-place : goal.invariant-loop-place
invariant-loop-place l = Filled (length l.source) (λ k. get_or l.source k 0) l.target l.place
