-- A step by rows: the pixels around a place stand in the padded rows above, at and below it, and the rows that the row core
-- makes from these are those of the step. Assumes nothing.
use mathlib.Core.Path.{◌≡◌, refl, sym, ap, ap₂, ◌∙◌}
use mathlib.Core.List.{List, [], ◌∷◌}
use Prim.Native.Nat.{ℕ, ◌+◌, ◌-◌, ◌*◌, ◌/◌, ◌≤◌, ◌<◌, min}
use native.Mathlib.Nat.{suc-mul, mul-le-mul_right, div-div-eq-div-mul}
use native.Mathlib.Omega.{arith}
use lib.ListN.{length, get_or, drop}
use lib.Seq.{get_or-take, get_or-drop, ext_get_or}
use lib.IntN.{ℤ, pos, negsuc, ◌+ℤ◌}
use Rattle.kernel.specs.Offsets.{Offset, offsets, sum_over, weighted}
use Rattle.kernel.specs.Sound.{Sound}
use Rattle.kernel.specs.declared.Kernel.{Kernel}
use Rattle.image.specs.Image.{nearest_place, beside, pixel_at, entries, image_of}
use Rattle.averaging.specs.Steps.{nearest, weighted_at, step_of}
use Rattle.averaging.proofs.Averages.{Each}
use Rattle.averaging.proofs.Images.{nearest_lt, place_before, length_entries, entry, same_entries, length_image, image_entry}
use Rattle.row_core.proofs.Parts.{length_part, part_at}
use Rattle.row_core.specs.Rows.{part, doubled, padded_of, column_of, pixel_in, row_of}
use Rattle.row_core.specs.Stretches.{column_in, average_of}
use Rattle.row_core.specs.declared.Starts.{Starts}

-- a step has as many pixels
pub length_step : (k : Kernel) (w h : ℕ) (pixels : List ℕ) → length (step_of k w h pixels) ≡ w * h
unfolding step_of
length_step k w h pixels = length_image w h _

-- ---- averages of the same values are the same
same_over : (p q : Offset → ℕ) (ds : List Offset) (ws : List ℕ) → Each (λ d. p d ≡ q d) ds
    → sum_over ◌+◌ 0 (λ d w. w * p d) ds ws ≡ sum_over ◌+◌ 0 (λ d w. w * q d) ds ws
same_over p q [] ws h = refl
same_over p q (d ∷ ds) [] h = refl
same_over p q (d ∷ ds) (w ∷ ws) h = ap₂ ◌+◌ (ap (λ v. w * v) h.0) (same_over p q ds ws h.1)

same_average : (p q : Offset → ℕ) (ws : List ℕ) → Each (λ d. p d ≡ q d) offsets → weighted p ws ≡ weighted q ws
same_average p q ws h = same_over p q offsets ws h

-- ---- padded rows

-- what stands at a place of a padded row
padded_at : (r : List ℕ) (i : ℕ) → i < length r + 2 → get_or (padded_of r) i 0 ≡ doubled (get_or r (min (i - 1) (length r - 1)) 0)
unfolding padded_of
padded_at r i l =
    entry (length r + 2) (λ i. doubled (get_or r (nearest_place (length r) (pos i +ℤ negsuc 0)) 0)) 0 i l
    ∙ ap (λ j. doubled (get_or r j 0)) (place_before (length r) i)

pub length_padded : (r : List ℕ) → length (padded_of r) ≡ length r + 2
unfolding padded_of
length_padded r = length_entries _ _

-- ---- the pixels around a place

-- those around column x of three rows a, b, c of w pixels
abbrev around_column : ℕ → List ℕ → List ℕ → List ℕ → ℕ → Offset → ℕ
around_column w a b c x d = get_or (beside a b c d.dy) (nearest_place w (pos x +ℤ d.dx)) 0

-- in an image, where a, b and c are the rows above, at and below row y
in_image : (w h : ℕ) (pixels : List ℕ) (y : ℕ) (a b c : List ℕ) → 1 ≤ w
    → part (nearest_place h (pos y +ℤ negsuc 0) * w) w pixels ≡ a
    → part (nearest_place h (pos y +ℤ pos 0) * w) w pixels ≡ b
    → part (nearest_place h (pos y +ℤ pos 1) * w) w pixels ≡ c
    → (ws : List ℕ) (x : ℕ) → weighted_at ws w h pixels x y ≡ weighted (around_column w a b c x) ws
unfolding weighted_at pixel_at
in_image w h pixels y a b c some ea eb ec ws x =
    let up = in_row a (negsuc 0) ea in
    let here = in_row b (pos 0) eb in
    let down = in_row c (pos 1) ec in
    same_average (λ d. pixel_at w h pixels (pos x +ℤ d.dx) (pos y +ℤ d.dy)) (around_column w a b c x) ws
    (up (negsuc 0), (up (pos 0), (up (pos 1), (here (negsuc 0), (here (pos 0), (here (pos 1), (down (negsuc 0), (down (pos 0), (down (pos 1), tt)))))))))
  where
    in_row : (r : List ℕ) (dy : ℤ) → part (nearest_place h (pos y +ℤ dy) * w) w pixels ≡ r
        → (dx : ℤ) → pixel_at w h pixels (pos x +ℤ dx) (pos y +ℤ dy) ≡ get_or r (nearest_place w (pos x +ℤ dx)) 0
    in_row r dy e dx =
        let i = nearest_place w (pos x +ℤ dx) in
        let j = nearest_place h (pos y +ℤ dy) * w in
        sym (get_or-take w (drop j pixels) i 0 (nearest_lt w (pos x +ℤ dx) some) ∙ get_or-drop j pixels i 0) ∙ ap (λ l. get_or l i 0) e

-- in an image as it stands, where three rows begin at v and s places on is the beginning of row y of its columns
pub pixel_from : (k : Kernel) (w h : ℕ) (pixels : List ℕ) (v : Starts) (s x y l r : ℕ) → x < w → y < h
    → v.above + s ≡ min (y - 1) (h - 1) * w → v.at + s ≡ y * w → v.below + s ≡ min (y + 1) (h - 1) * w
    → l ≡ min (x - 1) (w - 1) → r ≡ min (x + 1) (w - 1)
    → average_of k (column_in pixels v (s + l)) (column_in pixels v (s + x)) (column_in pixels v (s + r)) ≡ get_or (step_of k w h pixels) (y * w + x) 0
unfolding step_of weighted_at pixel_at
pixel_from k w h pixels v s x y l r lx ly above at below left right =
    let row : (i : ℕ) (dy : ℤ) (n : ℕ) → i + s ≡ n * w → nearest_place h (pos y +ℤ dy) ≡ n → (c : ℕ) (dx : ℤ) → nearest_place w (pos x +ℤ dx) ≡ c
    → pixel_at w h pixels (pos x +ℤ dx) (pos y +ℤ dy) ≡ get_or pixels (i + (s + c)) 0
    = λ i dy n start near c dx e. ap (λ (j : ℕ). get_or pixels j 0) (ap₂ (λ (a b : ℕ). a * w + b) near e ∙ omega (arith, start)) in
    let up = row v.above (negsuc 0) (min (y - 1) (h - 1)) above (place_before h y) in
    let here = row v.at (pos 0) y at (omega arith) in
    let down = row v.below (pos 1) (min (y + 1) (h - 1)) below refl in
    let before = place_before w x ∙ sym left in
    let same : nearest_place w (pos x +ℤ pos 0) ≡ x = omega arith in
    let after = sym right in
    sym
    (image_entry w h (λ x y. nearest (weighted_at k.weights w h pixels x y) k.sum) 0 x y lx ly
    ∙ ap (λ t. nearest t k.sum) (same_average (λ d. pixel_at w h pixels (pos x +ℤ d.dx) (pos y +ℤ d.dy))
    (pixel_in (column_in pixels v (s + l)) (column_in pixels v (s + x)) (column_in pixels v (s + r))) k.weights
    (up l (negsuc 0) before, (up x (pos 0) same, (up r (pos 1) after, (here l (negsuc 0) before, (here x (pos 0) same, (here r (pos 1) after, (down l (negsuc 0) before, (down x (pos 0) same, (down r (pos 1) after, tt)))))))))))

-- in the padded rows, where they are the three columns from x on
in_lines : (w : ℕ) (a b c : List ℕ) → length a ≡ w → length b ≡ w → length c ≡ w → (ws : List ℕ) (x : ℕ) → x < w
    → weighted (pixel_in (column_of (padded_of a) (padded_of b) (padded_of c) x) (column_of (padded_of a) (padded_of b) (padded_of c) (x + 1)) (column_of (padded_of a) (padded_of b) (padded_of c) (x + 2))) ws
    ≡ weighted (λ d. doubled (around_column w a b c x d)) ws
in_lines w a b c la lb lc ws x l =
    same_average (pixel_in (column_of (padded_of a) (padded_of b) (padded_of c) x) (column_of (padded_of a) (padded_of b) (padded_of c) (x + 1)) (column_of (padded_of a) (padded_of b) (padded_of c) (x + 2)))
    (λ d. doubled (around_column w a b c x d)) ws
    (left a la, (here a la, (right a la, (left b lb, (here b lb, (right b lb, (left c lc, (here c lc, (right c lc, tt)))))))))
  where
    at : (r : List ℕ) → length r ≡ w → (i j : ℕ) → i < w + 2 → j ≡ min (i - 1) (w - 1) → get_or (padded_of r) i 0 ≡ doubled (get_or r j 0)
    at r lr i j li e = padded_at r i (omega arith) ∙ ap (λ j. doubled (get_or r j 0)) (omega arith)

    left : (r : List ℕ) → length r ≡ w → get_or (padded_of r) x 0 ≡ doubled (get_or r (nearest_place w (pos x +ℤ negsuc 0)) 0)
    left r lr = at r lr x (nearest_place w (pos x +ℤ negsuc 0)) (omega arith) (place_before w x)

    here : (r : List ℕ) → length r ≡ w → get_or (padded_of r) (x + 1) 0 ≡ doubled (get_or r (nearest_place w (pos x +ℤ pos 0)) 0)
    here r lr = at r lr (x + 1) (nearest_place w (pos x +ℤ pos 0)) (omega arith) (omega arith)

    right : (r : List ℕ) → length r ≡ w → get_or (padded_of r) (x + 2) 0 ≡ doubled (get_or r (nearest_place w (pos x +ℤ pos 1)) 0)
    right r lr = at r lr (x + 2) (nearest_place w (pos x +ℤ pos 1)) (omega arith) (omega arith)

-- ---- rounding

-- a sum of weight times doubled numbers is twice that of weight times number, and the weights
doubled_over : (p : Offset → ℕ) (ds : List Offset) (ws : List ℕ)
    → sum_over ◌+◌ 0 (λ d w. w * doubled (p d)) ds ws ≡ 2 * sum_over ◌+◌ 0 (λ d w. w * p d) ds ws + sum_over ◌+◌ 0 (λ d w. w) ds ws
doubled_over p [] ws = refl
doubled_over p (d ∷ ds) [] = refl
doubled_over p (d ∷ ds) (w ∷ ws) = omega (arith, doubled_over p ds ws)

-- so that it needs no half for rounding
rounded : (k : Kernel) (n : ℕ) → Sound k n → (p : Offset → ℕ)
    → weighted (λ d. doubled (p d)) k.weights / (2 * k.sum) ≡ nearest (weighted p k.weights) k.sum
rounded k n sound p =
    let sum : weighted (λ d. doubled (p d)) k.weights ≡ 2 * weighted p k.weights + k.sum = doubled_over p offsets k.weights ∙ omega (arith, sound.whole, sound.sum) in
    let half : (2 * weighted p k.weights + k.sum) / 2 ≡ weighted p k.weights + k.sum / 2 = omega (arith, sound.sum) in
    rw sum (sym (div-div-eq-div-mul (2 * weighted p k.weights + k.sum) 2 k.sum) ∙ ap (λ (t : ℕ). t / k.sum) half)

-- ---- the rows of a step

-- row y lies inside an image of h rows
pub row_inside : (w h y : ℕ) → y < h → y * w + w ≤ w * h
row_inside w h y l = omega (arith, suc-mul y w, mul-le-mul_right w l)

pub length_row : (k : Kernel) (w : ℕ) (a b c : List ℕ) → length (row_of k w a b c) ≡ w
unfolding row_of
length_row k w a b c = length_entries w _

-- row y of a step, from the rows nearest above, at and below y
unfoldable pub line_of : Kernel → ℕ → ℕ → List ℕ → ℕ → List ℕ
line_of k w h pixels y =
    row_of k w (padded_of (part ((y - 1) * w) w pixels)) (padded_of (part (y * w) w pixels)) (padded_of (part (min (y + 1) (h - 1) * w) w pixels))

module _ (k : Kernel) (n : ℕ) (sound : Sound k n) (w h : ℕ) (pixels : List ℕ) (some : 1 ≤ w) (size : length pixels ≡ w * h) where
  long : (y : ℕ) → y < h → length (part (y * w) w pixels) ≡ w
  long y l = length_part (y * w) w pixels (omega (arith, row_inside w h y l))

  line : (y : ℕ) → y < h → entries w (λ x. nearest (weighted_at k.weights w h pixels x y) k.sum) ≡ line_of k w h pixels y
  unfolding row_of line_of
  line y l =
      let a = part ((y - 1) * w) w pixels in
      let b = part (y * w) w pixels in
      let c = part (min (y + 1) (h - 1) * w) w pixels in
      let row : ℕ → List ℕ = λ j. part (j * w) w pixels in
      same_entries w (λ x. nearest (weighted_at k.weights w h pixels x y) k.sum) _
      (λ x lx.
      ap (λ s. nearest s k.sum) (in_image w h pixels y a b c some (ap row (place_before h y ∙ omega arith)) (ap row (omega arith)) refl k.weights x)
      ∙ sym (rounded k n sound (around_column w a b c x))
      ∙ ap (λ s. s / (2 * k.sum)) (sym (in_lines w a b c (long (y - 1) (omega arith)) (long y l) (long (min (y + 1) (h - 1)) (omega arith)) k.weights x lx)))

  -- which is row y of the next image
  pub line_part : (y : ℕ) → y < h → line_of k w h pixels y ≡ part (y * w) w (step_of k w h pixels)
  unfolding step_of
  line_part y l =
      let f : ℕ → ℕ → ℕ = λ x y. nearest (weighted_at k.weights w h pixels x y) k.sum in
      let long : length (part (y * w) w (image_of w h f)) ≡ w = length_part (y * w) w (image_of w h f) (omega (arith, row_inside w h y l, length_image w h f)) in
      sym (line y l)
      ∙ sym (ext_get_or 0 (part (y * w) w (image_of w h f)) (entries w (λ x. f x y)) (long ∙ sym (length_entries w (λ x. f x y)))
      (λ x lx. let inside : x < w = omega (arith, lx, long) in part_at (y * w) w (image_of w h f) x inside ∙ image_entry w h f 0 x y inside l ∙ sym (entry w (λ x. f x y) 0 x inside)))
