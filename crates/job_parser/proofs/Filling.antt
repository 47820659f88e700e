-- Pixels that are read part by part: what a reading finds is what was found before, and then what is found further on. Assumes
-- nothing.
use mathlib.Core.Path.{◌≡◌, refl, ◌∙◌}
use mathlib.Core.List.{List, [], ◌∷◌, ◌++◌, append_assoc, append-nil}
use Prim.Native.Nat.{ℕ, zero, suc, ◌+◌, ◌-◌, ◌*◌, ◌≤◌, ◌<◌}
use native.Mathlib.Omega.{arith}
use native.Mathlib.Nat.{mul-le-mul_right}
use borrow.Rule.Slice.PartMut.{mid_of, put_mid, mid_len}
use lib.ListN.{length, take, set}
use lib.Seq.{take_all}
use Rattle.std.proofs.lemmas.List.{take_more_set}
use Rattle.std.proofs.lemmas.Slice.{take-put_mid}
use Rattle.limits.specs.Limits.{largest_pixel}
use Rattle.job_printer.specs.Fields.{separator}
use Rattle.job_parser.specs.Reading.{Reading, found, nothing, and_then, pure, read_number, read_row, read_rows}

-- the pixels that were found before, and then those that a reading finds
abbrev pub prepend : List ℕ → Reading (List ℕ) → Reading (List ℕ)
prepend done r = and_then r (λ pixels. pure (done ++ pixels))

pub prepend_more : (done more : List ℕ) (r : Reading (List ℕ)) → prepend done (prepend more r) ≡ prepend (done ++ more) r
prepend_more done more (found pixels rest) = rw append_assoc
prepend_more done more nothing = refl

pub prepend_none : (r : Reading (List ℕ)) → prepend [] r ≡ r
prepend_none (found pixels rest) = refl
prepend_none nothing = refl

-- one pixel more, or none
pub pixel_read : (n p : ℕ) (done text rest : List ℕ) → read_number largest_pixel (separator n) text ≡ found p rest → prepend done (read_row (suc n) text) ≡ prepend (done ++ p ∷ []) (read_row n rest)
unfolding read_row
pixel_read n p done text rest e = rw e (prepend_more done (p ∷ []) (read_row n rest))

pub no_pixel : (n : ℕ) (done text : List ℕ) → read_number largest_pixel (separator n) text ≡ nothing → prepend done (read_row (suc n) text) ≡ nothing
unfolding read_row
no_pixel n done text e = rw e

pub row_done : (done text : List ℕ) → prepend done (read_row 0 text) ≡ found done text
unfolding read_row
row_done done text = rw append-nil

-- one line more, or none
pub row_read : (w h : ℕ) (done pixels text rest : List ℕ) → read_row w text ≡ found pixels rest → prepend done (read_rows w (suc h) text) ≡ prepend (done ++ pixels) (read_rows w h rest)
unfolding read_rows
row_read w h done pixels text rest e = rw e (prepend_more done pixels (read_rows w h rest))

pub no_row : (w h : ℕ) (done text : List ℕ) → read_row w text ≡ nothing → prepend done (read_rows w (suc h) text) ≡ nothing
unfolding read_rows
no_row w h done text e = rw e

pub rows_done : (w : ℕ) (done text : List ℕ) → prepend done (read_rows w 0 text) ≡ found done text
unfolding read_rows
rows_done w done text = rw append-nil

-- lines of no pixels are no lines
pub no_lines : (h : ℕ) (text : List ℕ) → read_rows 0 h text ≡ found [] text
unfolding read_rows read_row
no_lines zero text = refl
no_lines (suc h) text = rw (no_lines h text)

-- the turns of the loops that fill a picture
module _ (width place : ℕ) (pixels text : List ℕ) (long : length pixels ≡ width) where
  pub pixel_on : (p : ℕ) (rest : List ℕ) → place < width → read_number largest_pixel (separator (width - 1 - place)) text ≡ found p rest → prepend (take place pixels) (read_row (width - place) text) ≡ prepend (take (place + 1) (set pixels place p)) (read_row (width - (place + 1)) rest)
  pixel_on p rest more e =
      let one : width - place ≡ suc (width - 1 - place) = omega arith in
      let left : width - (place + 1) ≡ width - 1 - place = omega arith in
      let inside : place < length pixels = omega arith in
      rw (one, left, take_more_set pixels place p inside) (pixel_read (width - 1 - place) p (take place pixels) text rest e)

  pub pixel_off : place < width → read_number largest_pixel (separator (width - 1 - place)) text ≡ nothing → prepend (take place pixels) (read_row (width - place) text) ≡ nothing
  pixel_off more e =
      let one : width - place ≡ suc (width - 1 - place) = omega arith in
      rw one (no_pixel (width - 1 - place) (take place pixels) text e)

  pub row_full : width ≤ place → prepend (take place pixels) (read_row (width - place) text) ≡ found pixels text
  row_full last =
      let none : width - place ≡ 0 = omega arith in
      let all : take place pixels ≡ pixels = take_all place pixels (omega arith) in
      rw (none, all) (row_done pixels text)

module _ (w h row : ℕ) (pixels text : List ℕ) (long : length pixels ≡ w * h) where
  -- the next line's place in the picture
  abbrev pub part : List ℕ
  part = mid_of (row * w) ((row + 1) * w - row * w) pixels

  inside : row < h → row * w + w ≤ length pixels
  inside more =
      let up : row + 1 ≤ h = omega arith in
      let most : (row + 1) * w ≤ h * w = mul-le-mul_right w up in
      omega arith

  part_long : row < h → length part ≡ w
  part_long more =
      let room = inside more in
      mid_len (row * w) ((row + 1) * w) pixels (omega arith) ∙ omega arith

  pub row_on : (line rest : List ℕ) → row < h → length line ≡ length part → read_row (length part) text ≡ found line rest → prepend (take (row * w) pixels) (read_rows w (h - row) text) ≡ prepend (take ((row + 1) * w) (put_mid (row * w) ((row + 1) * w - row * w) pixels line)) (read_rows w (h - (row + 1)) rest)
  row_on line rest more same e =
      let one : h - row ≡ suc (h - (row + 1)) = omega arith in
      let room = inside more in
      let size : length line ≡ w = same ∙ part_long more in
      rw (one, take-put_mid (row * w) ((row + 1) * w - row * w) pixels line ((row + 1) * w) (omega arith) (omega arith))
      (row_read w (h - (row + 1)) (take (row * w) pixels) line text rest (rw (part_long more) at e))

  pub row_off : row < h → read_row (length part) text ≡ nothing → prepend (take (row * w) pixels) (read_rows w (h - row) text) ≡ nothing
  row_off more e =
      let one : h - row ≡ suc (h - (row + 1)) = omega arith in
      rw one (no_row w (h - (row + 1)) (take (row * w) pixels) text (rw (part_long more) at e))

  pub rows_full : h ≤ row → prepend (take (row * w) pixels) (read_rows w (h - row) text) ≡ found pixels text
  rows_full last =
      let none : h - row ≡ 0 = omega arith in
      let most : h * w ≤ row * w = mul-le-mul_right w last in
      let all : take (row * w) pixels ≡ pixels = take_all (row * w) pixels (omega arith) in
      rw (none, all) (rows_done w pixels text)
