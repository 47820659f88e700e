-- What is made of pixels by rows are pixels, and by lines and columns what these hold for pixels. Assumes nothing.
use mathlib.Core.Path.{◌≡◌}
use mathlib.Core.Bool.{Bool, true, false, not}
use mathlib.Core.List.{List}
use Prim.Native.Nat.{ℕ, ◌+◌, ◌≤◌, ◌<◌, zero-le}
use native.Mathlib.Omega.{arith}
use lib.Dec.{T, ltb, ltb→lt, nltb→le}
use lib.ListN.{length, get_or, drop, length-take, get_or-eq_default}
use lib.Seq.{get_or-take, get_or-drop}
use lib.IntN.{pos, negsuc, ◌+ℤ◌}
use Rattle.limits.specs.Limits.{largest_pixel}
use Rattle.image.specs.Image.{nearest_place, entries}
use Rattle.averaging.proofs.Images.{length_entries, entry}
use Rattle.row_core.specs.Rows.{part, doubled, padded_of, column_of, AllPixels, AllDoubled, Doubled}
use Rattle.row_core.specs.declared.Column.{Column}

-- past the end stands 0
all_at_most : (m : ℕ) (l : List ℕ) → ((i : ℕ) → i < length l → get_or l i 0 ≤ m) → (i : ℕ) → get_or l i 0 ≤ m
all_at_most m l p i = go (ltb i (length l)) (ltb→lt i (length l)) (nltb→le i (length l))
  where
    go : (t : Bool) → (T t → i < length l) → (T (not t) → length l ≤ i) → get_or l i 0 ≤ m
    go true below above = p i (below tt)
    go false below above = rw (get_or-eq_default l 0 {n = i} (above tt)) zero-le

pub part_pixels : (i n : ℕ) (l : List ℕ) → AllPixels l → AllPixels (part i n l)
part_pixels i n l p = all_at_most largest_pixel (part i n l) (λ t h. rw (get_or-take n (drop i l) t 0 (omega (arith, h, length-take n (drop i l))), get_or-drop i l t 0) (p (i + t)))

pub padded_doubled : (r : List ℕ) → AllPixels r → AllDoubled (padded_of r)
unfolding padded_of
padded_doubled r p =
    let f : ℕ → ℕ = λ i. doubled (get_or r (nearest_place (length r) (pos i +ℤ negsuc 0)) 0) in
    all_at_most (doubled largest_pixel) (entries (length r + 2) f)
    (λ i h. rw (entry (length r + 2) f 0 i (omega (arith, h, length_entries (length r + 2) f))) (omega (arith, p (nearest_place (length r) (pos i +ℤ negsuc 0)))))

pub column_doubled : (a b c : List ℕ) (x : ℕ) {v : Column} → AllDoubled a → AllDoubled b → AllDoubled c → v ≡ column_of a b c x → Doubled v
column_doubled a b c x pa pb pc e = record { above = rw e (pa x); at = rw e (pb x); below = rw e (pc x) }
