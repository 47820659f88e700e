-- `stepping::Plan::step_through` meets its contract. The loop's invariant: the rows before row y are in place, and the window's lines
-- above and at hold row y, if there is one, and the row before it, or row 0 where there is none. Assumes nothing.
use mathlib.Core.Path.{◌≡◌, refl, ap, ◌∙◌}
use mathlib.Core.List.{List}
use Prim.Native.Nat.{ℕ, ◌+◌, ◌-◌, ◌*◌, ◌≤◌, ◌<◌, min}
use native.Mathlib.Nat.{lt_of_mul-lt-mul_left}
use native.Mathlib.Omega.{arith}
use lib.ListN.{length}
use Rattle.averaging.specs.Steps.{step_of}
use Rattle.row_core.specs.Prepared.{kernel_of_coefficients}
use Rattle.row_core.specs.Rows.{padded_of, AllPixels, AllDoubled, part}
use Rattle.row_core.proofs.Averages.{prepared}
use Rattle.row_core.proofs.Pixels.{part_pixels, padded_doubled}
use Rattle.row_core.proofs.Parts.{made_all}
use Rattle.row_core.proofs.Rows.{line_of, length_row, length_step, row_inside}
use Rattle.stepping.proofs.Buffers.{store_row}
use Rattle.stepping.proofs.Windows.{inside}
use Rattle.stepping.proofs.Whole.{least_line}
use Rattle.stepping.proofs.Plan.step_through.Goals as goal

-- the lines of the rows of an image hold what lines hold for pixels
rows_doubled : (w : ℕ) (source : List ℕ) → AllPixels source → (i : ℕ) → AllDoubled (padded_of (part i w source))
rows_doubled w source pixels i = padded_doubled (part i w source) (part_pixels i w source pixels)

-- the row nearest below row y
lowest : (w h y n : ℕ) → 1 ≤ h → n ≡ w * h → min (y * w + w) (n - w) ≡ min (y + 1) (h - 1) * w
lowest w h y n some source =
    let split : w * h ≡ w * (h - 1 + 1) = ap (λ (m : ℕ). w * m) (omega arith) in
    let end : n - w ≡ (h - 1) * w = omega (arith, source, split) in
    rw end (least_line w y (h - 1))

pub overflow_mul-row : goal.overflow_mul-row
overflow_mul-row c = omega (arith, row_inside c.args.self.width c.args.self.height c.loop-y.y (omega arith), c.requires.pictures.0, c.well_formed)

pub load_below-around-requires : goal.load_below-around-requires
load_below-around-requires c =
    let a = c.args in
    let p = a.self.sides in
    let l = c.loop-y in
    let low : l.y < a.self.height = omega arith in
    let loaded = l.invariant.loaded low in
    record {
      some = p.wide;
      row = omega (arith, row_inside a.self.width a.self.height l.y low, c.requires.pictures.0);
      next = λ h.
          let more : l.y + 1 < a.self.height = lt_of_mul-lt-mul_left a.self.width (omega (arith, h, c.requires.pictures.0)) in
          omega (arith, row_inside a.self.width a.self.height (l.y + 1) more, c.requires.pictures.0);
      slots = loaded.slots;
      at = loaded.at;
    }

pub step_row-requires : goal.step_row-requires
step_row-requires c =
    let a = c.args in
    let p = a.self.sides in
    let l = c.loop-y in
    let b = c.load_below-around in
    let holds = b.ensures.window_holds in
    let low : l.y < a.self.height = omega arith in
    let loaded = l.invariant.loaded low in
    let doubled = rows_doubled a.self.width a.source.now (λ j. omega (arith, c.type_inv.source j)) in
    inside b.new.lines b.result (length l.target) (l.y * a.self.width) a.self.width
    holds.above_inside holds.at_inside holds.below_inside
    (rw (holds.above, loaded.above) (doubled ((l.y - 1) * a.self.width)))
    (rw holds.at (doubled (l.y * a.self.width)))
    (rw holds.below (doubled (min (l.y * a.self.width + a.self.width) (length a.source.now - a.self.width))))
    (omega (arith, row_inside a.self.width a.self.height l.y low, l.invariant.size, c.requires.pictures.1))

pub loop-y-preserved : goal.loop-y-preserved
unfolding line_of
loop-y-preserved c =
    let a = c.args in
    let p = a.self.sides in
    let l = c.loop-y in
    let k = kernel_of_coefficients a.self.coefficients in
    let b = c.load_below-around in
    let holds = b.ensures.window_holds in
    let r = c.step_row in
    let low : l.y < a.self.height = omega arith in
    let loaded = l.invariant.loaded low in
    let here : l.y + 1 - 1 ≡ l.y = omega arith in
    let next : l.y * a.self.width + a.self.width ≡ (l.y + 1) * a.self.width = omega arith in
    record {
      size = omega (arith, l.invariant.size);
      room = b.ensures.lines_len_unchanged.0 ∙ l.invariant.room;
      loaded = λ more.
          rw (here, ← next)
          (b.ensures.lines_len_unchanged.1 (omega (arith, row_inside a.self.width a.self.height (l.y + 1) more, c.requires.pictures)) c.down-window.result c.down-window.ensures);
      done =
          rw (← next)
          (store_row k _ (prepared a.self.coefficients).sound a.self.width a.self.height a.source.now p.wide c.requires.pictures.0 l.y (l.y * a.self.width) l.target low refl
          (omega (arith, row_inside a.self.width a.self.height l.y low, l.invariant.size, c.requires.pictures.1)) (length_row k a.self.width _ _ _) l.invariant.done
          (rw (holds.above, holds.at, holds.below, loaded.above, lowest a.self.width a.self.height l.y (length a.source.now) p.high c.requires.pictures.0)) r.ensures);
    }

pub returns : goal.returns
returns c =
    let a = c.args in
    let l = c.loop-y in
    let k = kernel_of_coefficients a.self.coefficients in
    let y : l.y ≡ a.self.height = omega arith in
    let end : l.y * a.self.width ≡ a.self.width * a.self.height = omega (arith, ap (λ (n : ℕ). a.self.width * n) y) in
    made_all (l.y * a.self.width) l.target (step_of k a.self.width a.self.height a.source.now) (omega (arith, end, l.invariant.size, c.requires.pictures.1)) (omega (arith, end, length_step k a.self.width a.self.height a.source.now)) l.invariant.done
