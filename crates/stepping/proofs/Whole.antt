-- An image that is loaded whole: a row more in its line, and what stands in the lines before it stays; and the row of a step from
-- the lines around it. Assumes nothing.
use mathlib.Core.Path.{◌≡◌, sym, ap, ◌∙◌}
use mathlib.Core.Bool.{Bool, true, false, not}
use mathlib.Core.Logic.{inl}
use mathlib.Core.List.{List}
use Prim.Native.Nat.{ℕ, ◌+◌, ◌-◌, ◌*◌, ◌≤◌, ◌<◌, min}
use native.Mathlib.Nat.{zero-mul, mul-le-mul_right}
use native.Mathlib.Omega.{arith}
use borrow.Author.Count.{below_more}
use lib.Dec.{T, ltb, ltb→lt, nltb→le}
use lib.ListN.{length}
use lib.Seq.{paste}
use Rattle.kernel.specs.declared.Kernel.{Kernel}
use Rattle.row_core.specs.Rows.{part, padded_of, AllPixels, AllDoubled}
use Rattle.row_core.proofs.Pixels.{part_pixels, padded_doubled}
use Rattle.row_core.proofs.Rows.{length_padded, row_inside, line_of}
use Rattle.stepping.specs.Buffers.{row_from, WindowInside}
use Rattle.stepping.specs.Whole.{line_at, HoldsRows, Readable}
use Rattle.row_core.specs.declared.Starts.{Starts}
use Rattle.row_core.proofs.Parts.{part_written}
use Rattle.stepping.proofs.Buffers.{part_kept}
use Rattle.stepping.proofs.Windows.{inside}

-- the line of row y lies inside those of h rows
pub line_inside : (w h y : ℕ) → y < h → y * (w + 2) + (w + 2) ≤ h * (w + 2)
line_inside w h y l = omega (arith, row_inside (w + 2) h y l)

-- the rows before y stand in their lines, and so does row y once it is loaded
pub hold_more : (w y : ℕ) (source b : List ℕ) {o : List ℕ} → y * (w + 2) + (w + 2) ≤ length b → length (part (y * w) w source) ≡ w
    → o ≡ paste b (y * (w + 2)) (padded_of (part (y * w) w source)) (w + 2)
    → ((z : ℕ) → z < y → line_at w z b ≡ padded_of (part (z * w) w source))
    → (z : ℕ) → z < y + 1 → line_at w z o ≡ padded_of (part (z * w) w source)
hold_more w y source b {o} inside lr e held =
    let r : List ℕ = padded_of (part (y * w) w source) in
    let n : length r ≡ w + 2 = length_padded (part (y * w) w source) ∙ ap (λ (m : ℕ). m + 2) lr in
    below_more (λ (z : ℕ). line_at w z o ≡ padded_of (part (z * w) w source)) y
    (λ z l. rw e (part_kept b (y * (w + 2)) (w + 2) r inside n (z * (w + 2)) (omega (arith, line_inside w y z l)) (inl (line_inside w y z l))) ∙ held z l)
    (rw e (part_written b (y * (w + 2)) (w + 2) r inside n))

-- what the lines of an image hold
pub lines_doubled : (lines source : List ℕ) (w h : ℕ) → HoldsRows lines w h source → AllPixels source → (y : ℕ) → y < h → AllDoubled (line_at w y lines)
lines_doubled lines source w h holds pixels y l = rw (holds.held y l) (padded_doubled (part (y * w) w source) (part_pixels (y * w) w source pixels))

-- a window at row y of h: the lines of the rows nearest above, at and below it
pub record Around (v : Starts) (w h y : ℕ) : Type 0 where
  pub above : v.above ≡ (y - 1) * (w + 2)
  pub at : v.at ≡ y * (w + 2)
  pub below : v.below ≡ min (y + 1) (h - 1) * (w + 2)

-- the line after line a, or line b where that comes first
pub least_line : (s a b : ℕ) → min (a * s + s) (b * s) ≡ min (a + 1) b * s
least_line s a b = go (ltb a b) (ltb→lt a b) (nltb→le a b)
  where
    go : (t : Bool) → (T t → a < b) → (T (not t) → b ≤ a) → min (a * s + s) (b * s) ≡ min (a + 1) b * s
    go true below above =
        let l = below tt in
        let first : min (a + 1) b ≡ a + 1 = omega (arith, l) in
        rw first (omega (arith, mul-le-mul_right s l))
    go false below above =
        let l = above tt in
        let second : min (a + 1) b ≡ b = omega (arith, l) in
        rw second (omega (arith, mul-le-mul_right s l))

-- a window that is a row further down, as `Window::next` makes it
abbrev Below : Starts → Starts → ℕ → ℕ → Type 0
Below v u size last = (u.above ≡ v.at) × (u.at ≡ v.below) × (u.below ≡ min (v.below + size) last)

-- the window at row 0, from one whose lines are all that of row 0
pub around_first : (w h : ℕ) (v u : Starts) → v.at ≡ 0 → v.below ≡ 0 → Below v u (w + 2) ((h - 1) * (w + 2)) → Around u w h 0
around_first w h v u at below (ea, et, eb) =
    let none = zero-mul (w + 2) in
    record {
      above = ea ∙ at ∙ sym none;
      at = et ∙ below ∙ sym none;
      below = eb ∙ ap (λ (n : ℕ). min (n + (w + 2)) ((h - 1) * (w + 2))) (below ∙ sym none) ∙ least_line (w + 2) 0 (h - 1);
    }

-- and at the next row
pub around_next : (w h y : ℕ) (v u : Starts) → y + 1 < h → Around v w h y → Below v u (w + 2) ((h - 1) * (w + 2)) → Around u w h (y + 1)
around_next w h y v u l around (ea, et, eb) =
    let here : min (y + 1) (h - 1) ≡ y + 1 = omega (arith, l) in
    let below : v.below ≡ (y + 1) * (w + 2) = around.below ∙ ap (λ (n : ℕ). n * (w + 2)) here in
    record {
      above = ea ∙ around.at ∙ ap (λ (n : ℕ). n * (w + 2)) (omega arith);
      at = et ∙ below;
      below = eb ∙ ap (λ (n : ℕ). min (n + (w + 2)) ((h - 1) * (w + 2))) below ∙ least_line (w + 2) (y + 1) (h - 1);
    }

module _ (lines : List ℕ) (w h : ℕ) (v : Starts) (y : ℕ) (low : y < h) (around : Around v w h y) where
  -- its lines lie inside
  pub around_inside : (n m i : ℕ) → Readable lines n w h → i + w ≤ m → WindowInside lines v m i w
  around_inside n m i r row =
      let above = line_inside w h (y - 1) (omega arith) in
      let below = line_inside w h (min (y + 1) (h - 1)) (omega arith) in
      inside lines v m i w
      (rw around.above (omega (arith, above, r.room)))
      (rw around.at (omega (arith, line_inside w h y low, r.room)))
      (rw around.below (omega (arith, below, r.room)))
      (rw around.above (r.doubled (y - 1) (omega arith)))
      (rw around.at (r.doubled y low))
      (rw around.below (r.doubled (min (y + 1) (h - 1)) (omega arith)))
      row

  -- and the row that is made of them is that of the step
  pub around_row : (k : Kernel) (source : List ℕ) → HoldsRows lines w h source → row_from k w v lines ≡ line_of k w h source y
  unfolding line_of
  around_row k source holds =
      rw (around.above, around.at, around.below, holds.held (y - 1) (omega arith), holds.held y low, holds.held (min (y + 1) (h - 1)) (omega arith))
