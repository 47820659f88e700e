-- The walk along the places of a picture: from one place to the next, that all places around one lie inside, and that the
-- pixels there are those at the nearest places. Assumes nothing.
use mathlib.Core.Path.{◌≡◌, refl, sym, ap, ap₂, ◌∙◌}
use mathlib.Core.Logic.{◌⊎◌, inl, inr, ⊎_elim}
use mathlib.Core.Bool.{Bool, true, false, not}
use mathlib.Core.List.{List}
use Prim.Native.Nat.{ℕ, suc, ◌+◌, ◌-◌, ◌*◌, ◌/◌, ◌%◌, ◌≤◌, ◌<◌}
use native.Mathlib.Nat.{add-mul, suc-mul, mul_comm, mul-le-mul_right, mod-lt, div-add-mod', div-eq_of_lt-le, div-lt_iff_lt-mul}
use native.Mathlib.Omega.{arith}
use lib.Dec.{T, ltb, ltb→lt, nltb→le}
use lib.ListN.{get_or}
use lib.IntN.{ℤ, pos, negsuc, ◌+ℤ◌}
use borrow.Author.Tests.{lt-ltb, le-ltb}
use Rattle.image.specs.Image.{nearest_place, beside, pixel_at}
use Rattle.averaging.proofs.Images.{place_before}
use Rattle.differences.specs.declared.Place.{Place}
use Rattle.differences.specs.Places.{after_of, place_at, index_of, around, PlaceInside}

-- ---- one step on

-- a step is taken where it stays before the end
pub after_taken : (a s e : ℕ) → a + s < e → after_of a s e ≡ a + s
after_taken a s e l = rw (lt-ltb (a + s) e l)

pub after_stays : (a s e : ℕ) → e ≤ a + s → after_of a s e ≡ a
after_stays a s e l = rw (le-ltb (a + s) e l)

after_either : (a s e : ℕ) → ((a + s < e) × (after_of a s e ≡ a + s)) ⊎ ((e ≤ a + s) × (after_of a s e ≡ a))
after_either a s e = go (ltb (a + s) e) (ltb→lt (a + s) e) (nltb→le (a + s) e)
  where
    go : (b : Bool) → (T b → a + s < e) → (T (not b) → e ≤ a + s) → ((a + s < e) × (after_of a s e ≡ a + s)) ⊎ ((e ≤ a + s) × (after_of a s e ≡ a))
    go true f g = inl (f tt, after_taken a s e (f tt))
    go false f g = inr (g tt, after_stays a s e (g tt))

after_least : (a e : ℕ) → a ≤ after_of a 1 e
after_least a e = ⊎_elim (λ h. omega (arith, h.1)) (λ h. omega (arith, h.1)) (after_either a 1 e)

after_most : (a e : ℕ) → a < e → after_of a 1 e < e
after_most a e l = ⊎_elim (λ h. omega (arith, h)) (λ h. omega (arith, h.1)) (after_either a 1 e)

-- ---- columns and rows

-- the index of the place at an index
pub index_here : (w n i : ℕ) → index_of (place_at w n i) ≡ i
index_here w n i = div-add-mod' i w

module _ (w : ℕ) (some : 1 ≤ w) where
  -- column x of row y
  pub row_of : (i x y : ℕ) → x < w → i ≡ y * w + x → i / w ≡ y
  row_of i x y l e = div-eq_of_lt-le w (omega arith) (omega (arith, add-mul y 1 w))

  pub column_of_lem : (i x y : ℕ) → x < w → i ≡ y * w + x → i % w ≡ x
  column_of_lem i x y l e = omega (arith, div-add-mod' i w, ap (λ (q : ℕ). q * w) (row_of i x y l e))

  module _ (n i : ℕ) (p : Place) (here : p ≡ place_at w n i) where
    is_column : p.column ≡ i % w
    is_column = ap (λ (q : Place). q.column) here

    is_right : p.right ≡ after_of (i % w) 1 w
    is_right = ap (λ (q : Place). q.right) here

    is_row : p.row ≡ i / w * w
    is_row = ap (λ (q : Place). q.row) here

    -- a column is the last one exactly where none stands to the right of it
    not_last : p.column < p.right → i % w + 1 < w
    not_last l = ⊎_elim (λ h. h.0) (λ h. absurd (omega (arith, l, is_column, is_right ∙ h.1))) (after_either (i % w) 1 w)

    last : p.right ≤ p.column → w ≤ i % w + 1
    last l = ⊎_elim (λ h. absurd (omega (arith, l, is_column, is_right ∙ h.1))) (λ h. h.0) (after_either (i % w) 1 w)

    -- the next place is in the same row, where the column is not the last
    pub along : {r : ℕ} → p.column < p.right → r ≡ after_of p.right 1 w
        → record { left = p.column; column = p.right; right = r; above = p.above; row = p.row; below = p.below } ≡ place_at w n (i + 1)
    along l er =
        let more = not_last l in
        let next : i + 1 ≡ i / w * w + (i % w + 1) = omega (arith, div-add-mod' i w) in
        let x : (i + 1) % w ≡ i % w + 1 = column_of_lem (i + 1) (i % w + 1) (i / w) more next in
        let y : (i + 1) / w ≡ i / w = row_of (i + 1) (i % w + 1) (i / w) more next in
        let back : i % w + 1 - 1 ≡ i % w = omega arith in
        rw (x, y, back, er, is_right ∙ after_taken (i % w) 1 w more, is_column, ap (λ (q : Place). q.above) here, is_row, ap (λ (q : Place). q.below) here)

    -- and else it is the first of the row below
    pub down : {r b : ℕ} → p.right ≤ p.column → r ≡ after_of 0 1 w → b ≡ after_of (p.row + w) w n
        → record { left = 0; column = 0; right = r; above = p.row; row = p.row + w; below = b } ≡ place_at w n (i + 1)
    down l er eb =
        let step : (i / w + 1) * w ≡ i / w * w + w = omega (arith, add-mul (i / w) 1 w) in
        let next : i + 1 ≡ (i / w + 1) * w + 0 = omega (arith, div-add-mod' i w, mod-lt i some, last l) in
        let x : (i + 1) % w ≡ 0 = column_of_lem (i + 1) 0 (i / w + 1) some next in
        let y : (i + 1) / w ≡ i / w + 1 = row_of (i + 1) 0 (i / w + 1) some next in
        let back : i / w + 1 - 1 ≡ i / w = omega arith in
        rw (x, y, back, step, er, eb, is_row)

-- ---- the places around

-- the index where the row below starts is that of the row one on
row_after : (w h y : ℕ) → 1 ≤ w → after_of (y * w) w (w * h) ≡ after_of y 1 h * w
row_after w h y some = ⊎_elim more last (after_either y 1 h)
  where
    more : (y + 1 < h) × (after_of y 1 h ≡ y + 1) → after_of (y * w) w (w * h) ≡ after_of y 1 h * w
    more e =
        let l : suc (y + 1) * w ≤ h * w = mul-le-mul_right w e.0 in
        after_taken (y * w) w (w * h) (omega (arith, suc-mul (y + 1) w, add-mul y 1 w, mul_comm w h)) ∙ omega (arith, add-mul y 1 w, ap (λ (n : ℕ). n * w) e.1)

    last : (h ≤ y + 1) × (after_of y 1 h ≡ y) → after_of (y * w) w (w * h) ≡ after_of y 1 h * w
    last e =
        let l : h * w ≤ (y + 1) * w = mul-le-mul_right w e.0 in
        after_stays (y * w) w (w * h) (omega (arith, add-mul y 1 w, mul_comm w h)) ∙ ap (λ (n : ℕ). n * w) (sym e.1)

-- the place of index i < w × h
module _ (w h i : ℕ) (some : 1 ≤ w) (l : i < w * h) where
  in_row : i % w < w
  in_row = mod-lt i some

  in_column : i / w < h
  in_column = (div-lt_iff_lt-mul some).1 (rw (mul_comm h w) l)

  -- it and those around it lie inside
  pub inside : PlaceInside (w * h) (place_at w (w * h) i)
  inside =
      let x = i % w in
      let y = i / w in
      let y' = after_of y 1 h in
      let below = row_after w h y some in
      let bound : suc y' * w ≤ h * w = mul-le-mul_right w (after_most y h in_column) in
      record {
        left = omega (arith, after_least x w);
        column = after_least x w;
        above = rw below (mul-le-mul_right w (omega (arith, after_least y h)));
        row = rw below (mul-le-mul_right w (after_least y h));
        corner = rw below (omega (arith, bound, suc-mul y' w, after_most x w in_row, mul_comm w h));
      }

-- a step of at most one
pub data Step : ℤ → Type 0 where
  back : Step (negsuc 0)
  none : Step (pos 0)
  on : Step (pos 1)

-- the nearest place a step away
nearest_beside : (n x : ℕ) → x < n → {d : ℤ} → Step d → nearest_place n (pos x +ℤ d) ≡ beside (x - 1) x (after_of x 1 n) d
nearest_beside n x l back = place_before n x ∙ omega arith
nearest_beside n x l none = omega arith
nearest_beside n x l on = ⊎_elim (λ h. omega (arith, h)) (λ h. omega (arith, h)) (after_either x 1 n)

beside_times : (w a b c : ℕ) {d : ℤ} → Step d → beside (a * w) (b * w) (c * w) d ≡ beside a b c d * w
beside_times w a b c back = refl
beside_times w a b c none = refl
beside_times w a b c on = refl

-- the pixels around the place of index i < w × h are those around its column and its row
pub around_place : (w h i : ℕ) → 1 ≤ w → i < w * h → (pixels : List ℕ) {dx dy : ℤ} → Step dx → Step dy
    → around pixels (place_at w (w * h) i) dx dy ≡ pixel_at w h pixels (pos (i % w) +ℤ dx) (pos (i / w) +ℤ dy)
unfolding pixel_at
around_place w h i some l pixels {dx} {dy} sx sy =
    let x = i % w in
    let y = i / w in
    ap₂ (λ (r c : ℕ). get_or pixels (r + c) 0)
    (ap (λ (b : ℕ). beside ((y - 1) * w) (y * w) b dy) (row_after w h y some) ∙ beside_times w (y - 1) y (after_of y 1 h) sy
    ∙ ap (λ (n : ℕ). n * w) (sym (nearest_beside h y (in_column w h i some l) sy)))
    (sym (nearest_beside w x (in_row w h i some l) sx))
