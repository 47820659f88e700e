-- Bands: what a stretch and the ends of rows leave in a line, that a band of the rows as they stand is that of the step, and that a band
-- which waits and one that is put in its place leave the image made so far. Assumes nothing.
use mathlib.Core.Path.{◌≡◌, refl, sym, ap, ap₂, ◌∙◌}
use mathlib.Core.Logic.{◌⊎◌, inl, inr, ◌≢◌}
use mathlib.Core.List.{List}
use Prim.Native.Nat.{ℕ, zero, suc, ◌+◌, ◌-◌, ◌*◌, ◌≤◌, ◌<◌, min}
use native.Mathlib.Nat.{eq-or-lt_of_le, mul-le-mul_right}
use native.Mathlib.Omega.{arith}
use lib.ListN.{length, get_or, set, take, drop, length-set}
use lib.Seq.{paste, drop-drop, get_or-set_same, get_or-set_other, get_or-take, get_or-drop, length-take-le, ext_get_or}
use Rattle.limits.specs.Limits.{longest_side}
use Rattle.kernel.specs.declared.Kernel.{Kernel}
use Rattle.averaging.specs.Steps.{step_of}
use Rattle.averaging.proofs.Images.{every_place_lem, entry, length_entries}
use Rattle.row_core.specs.Rows.{part, column_of}
use Rattle.row_core.specs.Stretches.{column_in, average_of, stretch_of}
use Rattle.row_core.specs.declared.Starts.{Starts}
use Rattle.row_core.proofs.Parts.{length_part, part_at, part_written, drop_written, made_more}
use Rattle.row_core.proofs.Rows.{pixel_from, length_step, row_inside}
use Rattle.in_place.specs.Bands.{band_pixel, stretch_from, Waiting, Room, BandInside}
use Rattle.in_place.specs.declared.Band.{Band}

-- a function of three equal values
ap₃ : {A B C D : Type 0} (f : A → B → C → D) {a d : A} {b e : B} {c g : C} → a ≡ d → b ≡ e → c ≡ g → f a b c ≡ f d e g
ap₃ f {a} {d} {b} {e} {c} {g} p q r = ap (λ t. f t b c) p ∙ ap₂ (f d) q r

-- averages of the same columns
pub same_columns : (k : Kernel) (pixels : List ℕ) (v : Starts) {a b c d e f : ℕ} → a ≡ d → b ≡ e → c ≡ f
    → average_of k (column_in pixels v a) (column_in pixels v b) (column_in pixels v c) ≡ average_of k (column_in pixels v d) (column_in pixels v e) (column_in pixels v f)
same_columns k pixels v p q r = ap₃ (average_of k) (ap (column_in pixels v) p) (ap (column_in pixels v) q) (ap (column_in pixels v) r)

-- ---- a and b are written at the first and the last of w places from i on
module _ (l : List ℕ) (i w a b : ℕ) (some : 1 ≤ w) (inside : i + w ≤ length l) (same : 1 ≡ w → b ≡ a) where
  abbrev pub written : List ℕ
  written = set (set l i a) (i + (w - 1)) b

  pub first_written : get_or written i 0 ≡ a
  first_written = go (eq-or-lt_of_le some)
    where
      go : (1 ≡ w) ⊎ (1 < w) → get_or written i 0 ≡ a
      go (inl e) =
          let here : i + (w - 1) ≡ i = omega (arith, e) in
          ap (λ (j : ℕ). get_or (set (set l i a) j b) i 0) here ∙ get_or-set_same (set l i a) i b 0 (rw length-set (omega (arith, some, inside))) ∙ same e
      go (inr m) = get_or-set_other (set l i a) (i + (w - 1)) i b 0 (λ q. omega (arith, q, m)) ∙ get_or-set_same l i a 0 (omega (arith, some, inside))

  pub last_written : get_or written (i + (w - 1)) 0 ≡ b
  last_written = get_or-set_same (set l i a) (i + (w - 1)) b 0 (rw length-set (omega (arith, some, inside)))

  pub not_written : (j : ℕ) → j ≢ i → j ≢ i + (w - 1) → get_or written j 0 ≡ get_or l j 0
  not_written j p q = get_or-set_other (set l i a) (i + (w - 1)) j b 0 q ∙ get_or-set_other l i j a 0 p

-- ---- the ends of row n of a band, which begins at i, are made: then the row is right where it was right between them, and no other row changed
module _ (k : Kernel) (w : ℕ) (pixels : List ℕ) (v : Starts) (l o : List ℕ) (i n : ℕ) (some : 1 ≤ w) (begins : i ≡ n * w)
    (first : get_or o i 0 ≡ average_of k (column_in pixels v i) (column_in pixels v i) (column_in pixels v (i + min 1 (w - 1))))
    (last : get_or o (i + (w - 1)) 0 ≡ average_of k (column_in pixels v (i + (w - 2))) (column_in pixels v (i + (w - 1))) (column_in pixels v (i + (w - 1))))
    (others : (t : ℕ) → (t < i → get_or o t 0 ≡ get_or l t 0) × (i < t → t < i + (w - 1) → get_or o t 0 ≡ get_or l t 0) × (i + w ≤ t → get_or o t 0 ≡ get_or l t 0))
  where
    pub other_row : (j x : ℕ) → x < w → (j < n) ⊎ (n < j) → get_or o (j * w + x) 0 ≡ get_or l (j * w + x) 0
    other_row j x lx (inl m) = let before : suc j * w ≤ n * w = mul-le-mul_right w m in (others (j * w + x)).0 (omega (arith, before, begins, lx))
    other_row j x lx (inr m) = let after : suc n * w ≤ j * w = mul-le-mul_right w m in (others (j * w + x)).2 (omega (arith, after, begins))

    pub own_row : (x : ℕ) → x < w → (0 < x → x + 1 < w → get_or l (n * w + x) 0 ≡ band_pixel k w pixels v n x) → get_or o (n * w + x) 0 ≡ band_pixel k w pixels v n x
    own_row zero lx inner =
        let at : n * w + 0 ≡ i = omega (arith, begins) in
        let left : i ≡ n * w + min (0 - 1) (w - 1) = omega (arith, begins) in
        let right : i + min 1 (w - 1) ≡ n * w + min (0 + 1) (w - 1) = omega (arith, begins) in
        ap (λ (t : ℕ). get_or o t 0) at ∙ first ∙ same_columns k pixels v left (sym at) right
    own_row (suc x) lx inner = go (eq-or-lt_of_le lx)
      where
        go : (suc (suc x) ≡ w) ⊎ (suc (suc x) < w) → get_or o (n * w + suc x) 0 ≡ band_pixel k w pixels v n (suc x)
        go (inl e) =
            let at : n * w + suc x ≡ i + (w - 1) = omega (arith, begins, e) in
            let left : i + (w - 2) ≡ n * w + min (suc x - 1) (w - 1) = omega (arith, begins, e) in
            let right : i + (w - 1) ≡ n * w + min (suc x + 1) (w - 1) = omega (arith, begins, e) in
            ap (λ (t : ℕ). get_or o t 0) at ∙ last ∙ same_columns k pixels v left (sym at) right
        go (inr m) = (others (n * w + suc x)).1 (omega (arith, begins)) (omega (arith, begins, m)) ∙ inner (omega arith) (omega (arith, m))

-- ---- what a stretch leaves

-- three parts of an image have its columns
column_of_parts : (n : ℕ) (pixels : List ℕ) (v : Starts) (t : ℕ) → t < n
    → column_of (part v.above n pixels) (part v.at n pixels) (part v.below n pixels) t ≡ column_in pixels v t
column_of_parts n pixels v t l = rw (part_at v.above n pixels t l, part_at v.at n pixels t l, part_at v.below n pixels t l)

pub length_stretch : (k : Kernel) (n : ℕ) (pixels : List ℕ) (v : Starts) → length (stretch_from k n pixels v) ≡ n
unfolding stretch_of
length_stretch k n pixels v = length_entries n _

stretch_at : (k : Kernel) (n : ℕ) (pixels : List ℕ) (v : Starts) (t : ℕ) → t < n
    → get_or (stretch_from k n pixels v) t 0 ≡ average_of k (column_in pixels v t) (column_in pixels v (t + 1)) (column_in pixels v (t + 2))
unfolding stretch_of
stretch_at k n pixels v t l =
    entry n _ 0 t l
    ∙ ap₃ (average_of k) (column_of_parts (n + 2) pixels v t (omega (arith, l))) (column_of_parts (n + 2) pixels v (t + 1) (omega (arith, l))) (column_of_parts (n + 2) pixels v (t + 2) (omega (arith, l)))

-- the pixels of a band of s pixels, but for the ends of its rows, once the stretch between its first and its last pixel is in the line
pub inside_made : (k : Kernel) (w s : ℕ) (pixels l : List ℕ) (v : Starts) {o : List ℕ} → 2 < s → s ≤ length l → o ≡ paste l 1 (stretch_from k (s - 2) pixels v) (s - 2)
    → (j x : ℕ) → j * w + w ≤ s → 0 < x → x + 1 < w → get_or o (j * w + x) 0 ≡ band_pixel k w pixels v j x
inside_made k w s pixels l v {o} more long e j x row low high =
    let t : ℕ = j * w + x - 1 in
    let r : List ℕ = stretch_from k (s - 2) pixels v in
    let inside : t < s - 2 = omega (arith, row, low, high) in
    ap (λ (q : List ℕ). get_or q (j * w + x) 0) e
    ∙ ap (λ (i : ℕ). get_or (paste l 1 r (s - 2)) i 0) (omega (arith, low))
    ∙ sym (part_at 1 (s - 2) (paste l 1 r (s - 2)) t inside)
    ∙ ap (λ (q : List ℕ). get_or q t 0) (part_written l 1 (s - 2) r (omega (arith, more, long)) (length_stretch k (s - 2) pixels v))
    ∙ stretch_at k (s - 2) pixels v t inside
    ∙ same_columns k pixels v (omega (arith, low, high)) (omega (arith, low, high)) (omega (arith, low, high))

-- ---- a band is that of the step

-- lists that agree from a on
same_from : (a : ℕ) (p q : List ℕ) → drop a p ≡ drop a q → (i : ℕ) → a ≤ i → get_or p i 0 ≡ get_or q i 0
same_from a p q e i l =
    let at : i ≡ a + (i - a) = omega (arith, l) in
    ap (λ (j : ℕ). get_or p j 0) at ∙ sym (get_or-drop a p (i - a) 0) ∙ ap (λ (r : List ℕ). get_or r (i - a) 0) e ∙ get_or-drop a q (i - a) 0 ∙ ap (λ (j : ℕ). get_or q j 0) (sym at)

-- the rows from row y on that a band of n rows has, with the rows above and below them
pub record BandAt (w h y n : ℕ) (v : Starts) : Type 0 where
  pub inside : y + n ≤ h
  pub above : (j : ℕ) → j < n → v.above + j * w ≡ min (y + j - 1) (h - 1) * w
  pub at : (j : ℕ) → j < n → v.at + j * w ≡ (y + j) * w
  pub below : (j : ℕ) → j < n → v.below + j * w ≡ min (y + j + 1) (h - 1) * w

module _ (k : Kernel) (w h : ℕ) (old picture line : List ℕ) (v : Starts) (y n : ℕ) (some : 1 ≤ w) (size : length old ≡ w * h) (band : BandAt w h y n v) where
  -- from rows that are as they were
  pub band_made : (a : ℕ) → drop a picture ≡ drop a old → a ≤ v.above → a ≤ v.at → a ≤ v.below → n * w ≤ length line
      → ((j x : ℕ) → j < n → x < w → get_or line (j * w + x) 0 ≡ band_pixel k w picture v j x)
      → take (n * w) line ≡ part (y * w) (n * w) (step_of k w h old)
  band_made a kept la lt lb room pixels =
      ext_get_or 0 (take (n * w) line) (part (y * w) (n * w) (step_of k w h old)) (short ∙ sym long)
      (λ i l. every_place_lem w n (λ (i : ℕ). get_or (take (n * w) line) i 0 ≡ get_or (part (y * w) (n * w) (step_of k w h old)) i 0) at (i) (omega (arith, l, short)))
    where
      short : length (take (n * w) line) ≡ n * w
      short = length-take-le (n * w) line room

      all_inside : y * w + n * w ≤ w * h
      all_inside = let m : (y + n) * w ≤ h * w = mul-le-mul_right w band.inside in omega (arith, m)

      long : length (part (y * w) (n * w) (step_of k w h old)) ≡ n * w
      long = length_part (y * w) (n * w) (step_of k w h old) (omega (arith, all_inside, length_step k w h old))

      column : (c : ℕ) → column_in picture v c ≡ column_in old v c
      column c =
          rw (same_from a picture old kept (v.above + c) (omega (arith, la)), same_from a picture old kept (v.at + c) (omega (arith, lt)), same_from a picture old kept (v.below + c) (omega (arith, lb)))

      at : (x j : ℕ) → x < w → j < n → get_or (take (n * w) line) (j * w + x) 0 ≡ get_or (part (y * w) (n * w) (step_of k w h old)) (j * w + x) 0
      at x j lx lj =
          let row : j * w + w ≤ n * w = omega (arith, row_inside w n j lj) in
          let i : ℕ = j * w + x in
          let place : (y + j) * w + x ≡ y * w + i = omega arith in
          get_or-take (n * w) line i 0 (omega (arith, row, lx))
          ∙ pixels j x lj lx
          ∙ ap₃ (average_of k) (column (j * w + min (x - 1) (w - 1))) (column (j * w + x)) (column (j * w + min (x + 1) (w - 1)))
          ∙ (pixel_from k w h old v (j * w) x (y + j) (min (x - 1) (w - 1)) (min (x + 1) (w - 1)) lx (omega (arith, lj, band.inside)) (band.above j lj) (band.at j lj) (band.below j lj) refl refl)
          ∙ ap (λ (i : ℕ). get_or (step_of k w h old) i 0) place
          ∙ sym (part_at (y * w) (n * w) (step_of k w h old) i (omega (arith, row, lx)))

-- ---- a band that waited is put in its place, and another one waits
pub put_down : (k : Kernel) (w h : ℕ) (old picture waiting fresh : List ℕ) (i s r : ℕ) {o : List ℕ} → i + s ≤ length picture → s ≤ length waiting
    → Waiting k w h old picture waiting i s → take r fresh ≡ part (i + s) r (step_of k w h old) → o ≡ paste picture i waiting s
    → Waiting k w h old o fresh (i + s) r
put_down k w h old picture waiting fresh i s r inside long w₀ next e =
    record {
      made = made_more i s (step_of k w h old) picture waiting (omega (arith, inside)) long w₀.made w₀.waits e;
      kept = rw e (drop_written picture i s waiting inside long) ∙ sym (drop-drop s i picture) ∙ ap (drop s) w₀.kept ∙ drop-drop s i old;
      waits = next;
    }

-- ---- which rows a band has

-- the band from row y on
pub record Made (w h y : ℕ) (b : Band) : Type 0 where
  pub some : 1 ≤ b.rows
  pub band : BandAt w h y b.rows b.starts
  pub short : b.rows * w ≤ longest_side

-- the rows above those of a band below row 0
above_rows : (w h y j a : ℕ) → 1 ≤ y → y + j < h → a + w ≡ y * w → a + j * w ≡ min (y + j - 1) (h - 1) * w
above_rows w h y j a some inside e =
    let z : ℕ = y - 1 in
    let least : min (y + j - 1) (h - 1) ≡ z + j = omega (arith, some, inside) in
    let split : y * w ≡ (z + 1) * w = ap (λ (n : ℕ). n * w) (omega (arith, some)) in
    rw least (omega (arith, e, split))

-- a band as `next_band` makes it: the last row by itself, or as many rows above that one as there is room for
pub next_made : (w h y r : ℕ) (b : Band) → Room w r → w ≤ longest_side → 1 ≤ y → y < h → (b.starts.above + w ≡ y * w) × (b.starts.at ≡ y * w)
    → (y + 1 ≡ h → (b.starts.below ≡ y * w) × (b.rows ≡ 1)) → (y + 1 < h → (b.starts.below ≡ y * w + w) × (b.rows ≡ min r (h - 1 - y)))
    → Made w h y b
next_made w h y r b room narrow some low (above, at) last inner = go (eq-or-lt_of_le low)
  where
    go : (suc y ≡ h) ⊎ (suc y < h) → Made w h y b
    go (inl e) =
        let (below, one) = last (omega (arith, e)) in
        record {
          some = omega (arith, one);
          band =
              record {
                inside = omega (arith, low, one);
                above = λ j l. above_rows w h y j b.starts.above some (omega (arith, low, l, one)) above;
                at = λ j l. omega (arith, at);
                below = λ j l.
                    let none : j ≡ 0 = omega (arith, l, one) in
                    let least : min (y + j + 1) (h - 1) ≡ y = omega (arith, e, none) in
                    rw (least, none) (omega (arith, below));
              };
          short = rw one (omega (arith, narrow));
        }
    go (inr m) =
        let (below, size) = inner (omega (arith, m)) in
        let rows : b.rows * w ≤ r * w = mul-le-mul_right w (omega (arith, size)) in
        record {
          some = omega (arith, room.some, m, size);
          band =
              record {
                inside = omega (arith, m, size);
                above = λ j l. above_rows w h y j b.starts.above some (omega (arith, m, l, size)) above;
                at = λ j l. omega (arith, at);
                below = λ j l. let least : min (y + j + 1) (h - 1) ≡ y + j + 1 = omega (arith, m, l, size) in rw least (omega (arith, below));
              };
          short = omega (arith, rows, room.line);
        }

-- the first row
pub first_made : (w h below : ℕ) → 1 ≤ h → below ≡ min 1 (h - 1) * w → BandAt w h 0 1 (record { above = 0; at = 0; below = below })
first_made w h below high e =
    record {
      inside = high;
      above = λ j l. let none : j ≡ 0 = omega (arith, l) in let least : min (0 + j - 1) (h - 1) ≡ 0 = omega (arith, none) in rw (least, none) (omega arith);
      at = λ j l. omega arith;
      below = λ j l.
          let none : j ≡ 0 = omega (arith, l) in
          let least : min (0 + j + 1) (h - 1) ≡ min 1 (h - 1) = omega (arith, none) in
          rw (least, none) (omega (arith, e));
    }

-- a band of n rows lies inside the image of p pixels that it is of
pub made_inside : (p w h y : ℕ) (v : Starts) (n m : ℕ) → p ≡ w * h → 1 ≤ w → BandAt w h y n v → 1 ≤ n → n * w ≤ m → BandInside p v m n w
made_inside p w h y v n m pixels wide band some room =
    let last : n - 1 < n = omega (arith, some) in
    let count : n ≡ n - 1 + 1 = omega (arith, some) in
    let split : n * w ≡ (n - 1 + 1) * w = ap (λ (j : ℕ). j * w) count in
    let up = band.above (n - 1) last in
    let here = band.at (n - 1) last in
    let down = band.below (n - 1) last in
    record {
      some = wide;
      image =
          record {
            above = omega (arith, pixels, split, up, row_inside w h (min (y + (n - 1) - 1) (h - 1)) (omega (arith, band.inside, some)));
            at = omega (arith, pixels, split, here, row_inside w h (y + (n - 1)) (omega (arith, band.inside, some)));
            below = omega (arith, pixels, split, down, row_inside w h (min (y + (n - 1) + 1) (h - 1)) (omega (arith, band.inside, some)));
          };
      line = room;
    }

-- ---- places of bands

-- n rows from row y on lie inside the image
pub rows_inside : (w h y n : ℕ) → y + n ≤ h → y * w + n * w ≤ w * h
rows_inside w h y n inside = let m : (y + n) * w ≤ h * w = mul-le-mul_right w inside in omega (arith, m)

-- lists that agree from i on agree further on
pub same_further : (i j : ℕ) (p q : List ℕ) → drop i p ≡ drop i q → i ≤ j → drop j p ≡ drop j q
same_further i j p q e l =
    let at : i + (j - i) ≡ j = omega (arith, l) in
    ap (λ (n : ℕ). drop n p) (sym at) ∙ sym (drop-drop (j - i) i p) ∙ ap (drop (j - i)) e ∙ drop-drop (j - i) i q ∙ ap (λ (n : ℕ). drop n q) at
