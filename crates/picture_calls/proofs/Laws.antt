-- The words of a kernel in the place of others. Assumes nothing.
use mathlib.Core.Path.{◌≡◌}
use mathlib.Core.List.{List, [], ◌∷◌}
use Prim.Native.Nat.{ℕ, suc, ◌-◌}
use native.Mathlib.Omega.{arith}
use lib.ListN.{length, set}
use Rattle.picture_calls.specs.Pictures.{kernel_count}
use borrow.Rule.Slice.PartMut.{put_mid}
use lib.Seq.{drop-length}
use Rattle.std.proofs.lemmas.List.{append-nil}

-- a kernel's sum, and then nine weights in the place of the others
pub words_written : (sum : ℕ) (weights words : List ℕ) → length words ≡ kernel_count
    → put_mid 1 (length (set words 0 sum) - 1) (set words 0 sum) weights ≡ sum ∷ weights
words_written sum weights [] e = absurd (omega arith)
words_written sum weights (word ∷ words) e =
    let n : suc (length words) - 1 ≡ length words = omega arith in
    rw (n, drop-length words, append-nil weights)
