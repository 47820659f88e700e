-- Parts of a list, and what they become where one of them is written. Assumes nothing.
use mathlib.Core.Path.{◌≡◌, sym, ap, ◌∙◌}
use mathlib.Core.Logic.{inl, inr}
use mathlib.Core.List.{List, ◌++◌}
use Prim.Native.Nat.{ℕ, ◌+◌, ◌-◌, ◌*◌, ◌≤◌, ◌<◌}
use native.Mathlib.Omega.{arith}
use lib.ListN.{length, get_or, take, drop, get_or-append}
use lib.Seq.{paste, length-paste, length_paste_head, length-take-le, take_all, get_or-take, get_or-drop, get_or-append-add, ext_get_or}
use Rattle.kernel.specs.Sound.{Sound}
use Rattle.kernel.specs.declared.Kernel.{Kernel}
use Rattle.averaging.specs.Steps.{step_of}
use Rattle.row_core.specs.Rows.{part}
use Rattle.row_core.proofs.Parts.{length_part, part_at, made_more}
use Rattle.row_core.proofs.Rows.{line_of, line_part}
use Rattle.stepping.specs.Buffers.{Apart}

-- one more row of a step is pasted behind those before it
pub store_row : (k : Kernel) (n : ℕ) → Sound k n → (w h : ℕ) (source : List ℕ) → 1 ≤ w → length source ≡ w * h → (y i : ℕ) (d : List ℕ) {o row : List ℕ}
    → y < h → i ≡ y * w → i ≤ length d → length row ≡ w → take i d ≡ take i (step_of k w h source) → row ≡ line_of k w h source y → o ≡ paste d i row w
    → take (i + w) o ≡ take (i + w) (step_of k w h source)
store_row k n sound w h source some size y i d {o} {row} l at li lw done e made =
    made_more i w (step_of k w h source) d row li (omega (arith, lw)) done
    (take_all w row (omega (arith, lw)) ∙ e ∙ line_part k n sound w h source some size y l ∙ ap (λ (j : ℕ). part j w (step_of k w h source)) (sym at)) made

pub apart_sym : (n i j : ℕ) → Apart n i j → Apart n j i
apart_sym n i j (inl h) = inr h
apart_sym n i j (inr h) = inl h

-- n elements r are written at j
module _ (l : List ℕ) (j n : ℕ) (r : List ℕ) (inside : j + n ≤ length l) (size : length r ≡ n) where
  head : length (take j l ++ take n r) ≡ j + n
  head = length_paste_head l j r n (omega arith) (omega arith)

  before : (m : ℕ) → m < j → get_or (paste l j r n) m 0 ≡ get_or l m 0
  before m h =
      get_or-append (take j l ++ take n r) (drop (j + n) l) 0 m (omega (arith, head))
      ∙ get_or-append (take j l) (take n r) 0 m (omega (arith, length-take-le j l (omega arith)))
      ∙ get_or-take j l m 0 h

  after : (m : ℕ) → j + n ≤ m → get_or (paste l j r n) m 0 ≡ get_or l m 0
  after m h =
      let t = m - (j + n) in
      ap (λ i. get_or (paste l j r n) i 0) (omega (arith, head))
      ∙ get_or-append-add (take j l ++ take n r) (drop (j + n) l) t 0
      ∙ get_or-drop (j + n) l t 0
      ∙ ap (λ i. get_or l i 0) (omega arith)

  -- a part that has none of them is as it was
  pub part_kept : (i : ℕ) → i + n ≤ length l → Apart n i j → part i n (paste l j r n) ≡ part i n l
  part_kept i h apart =
      ext_get_or 0 (part i n (paste l j r n)) (part i n l) (long ∙ sym (length_part i n l h))
      (λ t lt. let below : t < n = omega (arith, lt, long) in part_at i n (paste l j r n) t below ∙ kept apart t below ∙ sym (part_at i n l t below))
    where
      long : length (part i n (paste l j r n)) ≡ n
      long = length_part i n (paste l j r n) (rw (length-paste l j r n inside (omega arith)) h)

      kept : Apart n i j → (t : ℕ) → t < n → get_or (paste l j r n) (i + t) 0 ≡ get_or l (i + t) 0
      kept (inl q) t lt = before (i + t) (omega arith)
      kept (inr q) t lt = after (i + t) (omega arith)
