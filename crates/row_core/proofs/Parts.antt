-- Parts of a list, and what they become where one of them is written. Assumes nothing.
use mathlib.Core.Path.{◌≡◌, sym, ◌∙◌}
use mathlib.Core.List.{List, ◌++◌, append_assoc}
use Prim.Native.Nat.{ℕ, ◌+◌, ◌-◌, ◌≤◌, ◌<◌}
use native.Mathlib.Nat.{add-sub_cancel_left}
use native.Mathlib.Omega.{arith}
use lib.ListN.{length, get_or, take, drop, length-drop}
use lib.Seq.{paste, length_paste_head, length-take-le, take_all, take-add, take_at, take-paste, drop_at, drop-drop, get_or-take, get_or-drop}
use Rattle.row_core.specs.Rows.{part}

-- a part of n elements has n of them
pub length_part : (i n : ℕ) (l : List ℕ) → i + n ≤ length l → length (part i n l) ≡ n
length_part i n l h = length-take-le n (drop i l) (rw length-drop (omega arith))

-- what stands at a place of a part
pub part_at : (i n : ℕ) (l : List ℕ) (t : ℕ) → t < n → get_or (part i n l) t 0 ≡ get_or l (i + t) 0
part_at i n l t h = get_or-take n (drop i l) t 0 h ∙ get_or-drop i l t 0

-- what comes back from j to j + n of a list
pub placed : (j n : ℕ) (d : List ℕ) {l r : List ℕ} → l ≡ r → length r ≡ n → take j d ++ (l ++ drop (j + n - j) (drop j d)) ≡ paste d j r n
placed j n d {l} {r} e h = rw (e, add-sub_cancel_left j n, drop-drop n j d, take_all n r (omega arith)) (sym (append_assoc (take j d) r (drop (j + n) d)))

-- n elements r are written at j
module _ (l : List ℕ) (j n : ℕ) (r : List ℕ) (inside : j + n ≤ length l) where
  pub part_written : length r ≡ n → part j n (paste l j r n) ≡ r
  part_written size =
      rw (append_assoc (take j l) (take n r) (drop (j + n) l), drop_at (take j l) (take n r ++ drop (j + n) l) j (length-take-le j l (omega arith)), take_all n r (omega arith))
      (take_at r (drop (j + n) l) n size)

  -- what stands behind them is as it was
  pub drop_written : n ≤ length r → drop (j + n) (paste l j r n) ≡ drop (j + n) l
  drop_written size = drop_at (take j l ++ take n r) (drop (j + n) l) (j + n) (length_paste_head l j r n (omega arith) size)

-- ---- what is made in order, each piece from the old pixels: the first j of d are those of the image n, and so are m more once the piece of n at j is
-- put there. Both steps go by this law, the one between two images with rows, the one within an image with bands.
pub made_more : (j m : ℕ) (n d r : List ℕ) {o : List ℕ} → j ≤ length d → m ≤ length r → take j d ≡ take j n → take m r ≡ part j m n → o ≡ paste d j r m
    → take (j + m) o ≡ take (j + m) n
made_more j m n d r lj lm made piece e = rw (e, take-paste d j r m lj lm, made, piece) (sym (take-add j m n))

-- and once all are made it is that image
pub made_all : (i : ℕ) (d n : List ℕ) → length d ≤ i → length n ≤ i → take i d ≡ take i n → d ≡ n
made_all i d n ld ln made = sym (take_all i d ld) ∙ made ∙ take_all i n ln
