-- The lines of a window: a row is loaded into the line below, which changes neither of the others; and a row further down
-- each line has the name of the one above it. Assumes nothing.
use mathlib.Core.Path.{◌≡◌, ap, ◌∙◌}
use mathlib.Core.List.{List}
use Prim.Native.Nat.{ℕ, ◌+◌, ◌≤◌}
use native.Mathlib.Omega.{arith}
use lib.ListN.{length}
use lib.Seq.{paste, length-paste}
use Rattle.row_core.specs.Rows.{padded_of, AllDoubled, part}
use Rattle.row_core.proofs.Parts.{length_part, part_written}
use Rattle.row_core.proofs.Rows.{length_padded}
use Rattle.stepping.specs.Buffers.{WindowInside, Slots, Loaded}
use Rattle.row_core.specs.declared.Starts.{Starts}
use Rattle.stepping.proofs.Buffers.{part_kept, apart_sym}

-- a window of lines, and a row that fits
pub inside : (l : List ℕ) (v : Starts) (m i w : ℕ) → v.above + (w + 2) ≤ length l → v.at + (w + 2) ≤ length l → v.below + (w + 2) ≤ length l
    → AllDoubled (part v.above (w + 2) l) → AllDoubled (part v.at (w + 2) l) → AllDoubled (part v.below (w + 2) l) → i + w ≤ m → WindowInside l v m i w
inside l v m i w above at below pa pt pb row =
    record {
      above = above;
      at = at;
      below = below;
      row = row;
      pixels =
          record {
            up = length_part v.above (w + 2) l above;
            mid = length_part v.at (w + 2) l at;
            down = length_part v.below (w + 2) l below;
            up_doubled = pa;
            mid_doubled = pt;
            down_doubled = pb;
          };
    }

-- the buffers l after row r was loaded below
pub record Below (l o : List ℕ) (v : Starts) (w : ℕ) (r : List ℕ) : Type 0 where
  pub size : length o ≡ length l
  pub above : part v.above (w + 2) o ≡ part v.above (w + 2) l
  pub at : part v.at (w + 2) o ≡ part v.at (w + 2) l
  pub below : part v.below (w + 2) o ≡ padded_of r

pub load_below : (l : List ℕ) (v : Starts) (w : ℕ) (r : List ℕ) {o : List ℕ} → Slots (length l) (w + 2) v → length r ≡ w
    → o ≡ paste l v.below (padded_of r) (w + 2) → Below l o v w r
load_below l v w r slots lr e =
    let n : length (padded_of r) ≡ w + 2 = length_padded r ∙ ap (λ (m : ℕ). m + 2) lr in
    record {
      size = ap length e ∙ length-paste l v.below (padded_of r) (w + 2) slots.below (omega arith);
      above = rw e (part_kept l v.below (w + 2) (padded_of r) slots.below n v.above slots.above (apart_sym (w + 2) v.below v.above slots.below_above));
      at = rw e (part_kept l v.below (w + 2) (padded_of r) slots.below n v.at slots.at slots.at_below);
      below = rw e (part_written l v.below (w + 2) (padded_of r) slots.below n);
    }

-- then the line at holds the row b, and a row further down is loaded
pub move_down : (l o : List ℕ) (v u : Starts) (w : ℕ) (b c : List ℕ) → Slots (length l) (w + 2) v → part v.at (w + 2) l ≡ padded_of b → Below l o v w c
    → (u.above ≡ v.at) × (u.at ≡ v.below) × (u.below ≡ v.above) → Loaded o u w b c
move_down l o v u w b c s at below (ea, et, eb) =
    record {
      slots =
          rw (below.size, ea, et, eb)
          (record { above = s.at; at = s.below; below = s.above; above_at = s.at_below; at_below = s.below_above; below_above = s.above_at });
      above = rw ea (below.at ∙ at);
      at = rw et below.below;
    }
