-- `differences::fill_places` meets its contract. The loop's invariant: `place` is the place of the next entry, and the entries
-- before it are made. Assumes nothing.
use Rattle.std.proofs.Common.{◌≡◌, ℕ, ◌<◌, get_or}
use Rattle.differences.specs.Places.{place_at}
use Rattle.differences.proofs.fill_places.Given as goal

abbrev pub invariant-loop-entry : goal.invariant-loop-entry
invariant-loop-entry g l =
    (l.place ≡ place_at l.width l.size l.entry-index)
    × ((k : ℕ) → k < l.entry-index → (none : _) → goal.F-post g l.entry_at (place_at l.width l.size k) (get_or l.res k none))
