-- The readers of a line of pixels and of all lines find exactly what `line` and `row_lines` write. Assumes nothing.
use mathlib.Core.Path.{◌≡◌, refl, sym, ap, ◌∙◌}
use mathlib.Core.List.{List, [], ◌∷◌, ◌++◌, append_assoc, map}
use Prim.Native.Nat.{ℕ, zero, suc, ◌+◌, ◌*◌, ◌≤◌, ◌<◌}
use native.Mathlib.Nat.{mul-zero, mul-suc}
use native.Mathlib.Omega.{arith}
use lib.ListN.{length, take, drop, length-append, length-map, length-drop, take-append-drop}
use lib.Seq.{length-take-le, take_at, drop_at}
use Rattle.limits.specs.Limits.{largest_pixel}
use Rattle.job_printer.specs.Numerals.{digit, numeral}
use Rattle.job_printer.specs.Fields.{separator, line, row_lines}
use Rattle.job_printer.proofs.Numerals.{numeral_long}
use Rattle.job_parser.specs.Job.{EachAtMost}
use Rattle.job_parser.specs.Reading.{found, ◌>>=◌, pure, read_number, read_row, read_rows}
use Rattle.job_parser.proofs.Readers.{halves, as_found, number_exact}

pub nil_of : (l : List ℕ) → length l ≡ 0 → l ≡ []
nil_of [] h = refl
nil_of (a ∷ l) h = absurd (omega arith)

pub apart : (n : ℕ) → separator n < digit 0
apart zero = omega arith
apart (suc n) = omega arith

-- a field and what is left of its line
field_first : (field : List ℕ) (end : ℕ) (more rest : List ℕ) → (field ++ end ∷ more) ++ rest ≡ (field ++ end ∷ []) ++ (more ++ rest)
field_first field end more rest = simp append_assoc

module _ (limit : ℕ) where
  both_small : (ps qs : List ℕ) → EachAtMost limit ps → EachAtMost limit qs → EachAtMost limit (ps ++ qs)
  both_small [] qs h k = k
  both_small (p ∷ ps) qs h k = (h.0, both_small ps qs h.1 k)

  pub small_front : (n : ℕ) (ps : List ℕ) → EachAtMost limit ps → EachAtMost limit (take n ps)
  small_front zero ps h = tt
  small_front (suc n) [] h = tt
  small_front (suc n) (p ∷ ps) h = (h.0, small_front n ps h.1)

  pub small_back : (n : ℕ) (ps : List ℕ) → EachAtMost limit ps → EachAtMost limit (drop n ps)
  small_back zero ps h = h
  small_back (suc n) [] h = tt
  small_back (suc n) (p ∷ ps) h = small_back n ps h.1

-- a line has at least two bytes for each pixel
pub line_long : (pixels : List ℕ) → 2 * length pixels ≤ length (line (map numeral pixels))
unfolding line
line_long [] = omega arith
line_long (p ∷ ps) = rw length-append (omega (arith, numeral_long p, line_long ps))

-- what is known of a text in which pixels were found: one line of n, or h lines of w
pub record RowFound (n : ℕ) (text pixels rest : List ℕ) : Type 0 where
  pub count : length pixels ≡ n
  pub is : text ≡ line (map numeral pixels) ++ rest
  pub small : EachAtMost largest_pixel pixels

pub record RowsFound (w h : ℕ) (text pixels rest : List ℕ) : Type 0 where
  pub count : length pixels ≡ w * h
  pub is : text ≡ row_lines w h pixels ++ rest
  pub small : EachAtMost largest_pixel pixels

one_pixel_more : (n p : ℕ) (text after ps rest : List ℕ) → (text ≡ (numeral p ++ separator n ∷ []) ++ after) × (p ≤ largest_pixel) → RowFound n after ps rest → RowFound (suc n) text (p ∷ ps) rest
unfolding line
one_pixel_more n p text after ps rest first others =
    record {
      count = ap suc others.count;
      is = first.0 ∙ rw (others.is, ← others.count, length-map ps numeral) (sym (field_first (numeral p) (separator (length ps)) (line (map numeral ps)) rest));
      small = (first.1, others.small);
    }

one_row_more : (w h : ℕ) (text after ps qs rest : List ℕ) → RowFound w text ps after → RowsFound w h after qs rest → RowsFound w (suc h) text (ps ++ qs) rest
unfolding row_lines
one_row_more w h text after ps qs rest row others =
    record {
      count = rw (length-append, row.count, others.count, mul-suc) (omega arith);
      is = row.is ∙ rw (others.is, take_at ps qs w row.count, drop_at ps qs w row.count, append_assoc);
      small = both_small largest_pixel ps qs row.small others.small;
    }

pub row_reads : (pixels rest : List ℕ) → EachAtMost largest_pixel pixels → read_row (length pixels) (line (map numeral pixels) ++ rest) ≡ found pixels rest
unfolding read_row line
row_reads [] rest h = refl
row_reads (p ∷ ps) rest h =
    let end = separator (length ps) in
    let number = (number_exact largest_pixel end (apart (length ps))).reads p (line (map numeral ps) ++ rest) h.0 in
    rw (length-map ps numeral, field_first) (rw number (rw (row_reads ps rest h.1)))

pub row_only : (n : ℕ) (text pixels rest : List ℕ) → read_row n text ≡ found pixels rest → RowFound n text pixels rest
unfolding read_row line
row_only zero text pixels rest h = as_found (RowFound zero text) h (record { count = refl; is = refl; small = tt })
row_only (suc n) text pixels rest h =
    let end = separator n in
    let one = halves (read_number largest_pixel end) (λ p. read_row n >>= (λ ps. pure (p ∷ ps))) text pixels rest h in
    let more = halves (read_row n) (λ ps. pure (one.value ∷ ps)) one.after pixels rest one.second in
    let number = (number_exact largest_pixel end (apart n)).only text one.value one.after one.first in
    let others = row_only n one.after more.value more.after more.first in
    as_found (RowFound (suc n) text) more.second (one_pixel_more n one.value text one.after more.value more.after number others)

pub rows_reads : (w h : ℕ) (pixels rest : List ℕ) → length pixels ≡ w * h → EachAtMost largest_pixel pixels → read_rows w h (row_lines w h pixels ++ rest) ≡ found pixels rest
unfolding read_rows row_lines
rows_reads w zero pixels rest e small = rw (nil_of pixels (e ∙ mul-zero w))
rows_reads w (suc h) pixels rest e small =
    let n : length pixels ≡ w * h + w = e ∙ mul-suc w h in
    let front = length-take-le w pixels (omega arith) in
    let back : length (drop w pixels) ≡ w * h = rw length-drop (omega arith) in
    let row = row_reads (take w pixels) (row_lines w h (drop w pixels) ++ rest) (small_front largest_pixel w pixels small) in
    let others = rows_reads w h (drop w pixels) rest back (small_back largest_pixel w pixels small) in
    rw append_assoc (rw (rw front at row) (rw (others, take-append-drop)))

pub rows_only : (w h : ℕ) (text pixels rest : List ℕ) → read_rows w h text ≡ found pixels rest → RowsFound w h text pixels rest
unfolding read_rows row_lines
rows_only w zero text pixels rest e = as_found (RowsFound w zero text) e (record { count = sym (mul-zero w); is = refl; small = tt })
rows_only w (suc h) text pixels rest e =
    let one = halves (read_row w) (λ row. read_rows w h >>= (λ rows. pure (row ++ rows))) text pixels rest e in
    let more = halves (read_rows w h) (λ rows. pure (one.value ++ rows)) one.after pixels rest one.second in
    let row = row_only w text one.value one.after one.first in
    let others = rows_only w h one.after more.value more.after more.first in
    as_found (RowsFound w (suc h) text) more.second (one_row_more w h text one.after one.value more.value more.after row others)
