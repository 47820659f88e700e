-- `stepping::AllLinesMaker::make` meets its contract. The loop's invariant: the rows before row y are in place, and the window is at row y, if
-- there is one. Assumes nothing.
use mathlib.Core.Path.{◌≡◌, refl, ap}
use Prim.Native.Nat.{ℕ, ◌+◌, ◌-◌, ◌*◌, ◌<◌, min}
use native.Mathlib.Omega.{arith}
use lib.ListN.{length}
use Rattle.averaging.specs.Steps.{step_of}
use Rattle.row_core.specs.Prepared.{kernel_of_coefficients}
use Rattle.row_core.proofs.Averages.{prepared}
use Rattle.row_core.proofs.Parts.{made_all}
use Rattle.row_core.proofs.Rows.{length_row, length_step, row_inside}
use Rattle.stepping.proofs.Buffers.{store_row}
use Rattle.stepping.proofs.Whole.{line_inside, around_next, around_inside, around_row}
use Rattle.stepping.proofs.AllLinesMaker.make.Goals as goal

pub step_row_with-requires : goal.step_row_with-requires
step_row_with-requires c =
    let a = c.args in
    let l = c.loop-y in
    let low : l.y < a.self.height = omega arith in
    around_inside a.self.lines.now a.self.width a.self.height l.window l.y low (l.invariant.around low) (length a.target.now) (length l.target) (l.y * a.self.width) c.requires
    (omega (arith, row_inside a.self.width a.self.height l.y low, l.invariant.size, c.requires.target))

pub next_down-window-requires-in-loop-y : goal.next_down-window-requires-in-loop-y
next_down-window-requires-in-loop-y c =
    let a = c.args in
    let l = c.loop-y in
    let low : l.y < a.self.height = omega arith in
    omega (arith, line_inside a.self.width a.self.height (min (l.y + 1) (a.self.height - 1)) (omega arith), (l.invariant.around low).below, c.requires.room, c.well_formed)

pub overflow_mul-y : goal.overflow_mul-y
overflow_mul-y c = omega (arith, row_inside c.args.self.width c.args.self.height c.loop-y.y (omega arith), c.requires.target, c.well_formed)

pub loop-y-preserved : goal.loop-y-preserved
loop-y-preserved c =
    let a = c.args in
    let l = c.loop-y in
    let k = kernel_of_coefficients a.recipe.coefficients in
    let sound = (prepared a.recipe.coefficients).sound in
    let r = c.step_row_with in
    let e = c.next_down-window-in-loop-y.ensures in
    let low : l.y < a.self.height = omega arith in
    let around = l.invariant.around low in
    let next : l.y * a.self.width + a.self.width ≡ (l.y + 1) * a.self.width = omega arith in
    record {
      size = omega (arith, l.invariant.size);
      around = λ more. around_next a.self.width a.self.height l.y l.window c.next_down-window-in-loop-y.result more around (e.0, e.1, e.2);
      done =
          λ source fills holds. rw (← next) (store_row k _ sound a.self.width a.self.height source c.requires.wide fills l.y (l.y * a.self.width) l.target low refl
          (omega (arith, row_inside a.self.width a.self.height l.y low, l.invariant.size, c.requires.target))
          (length_row k a.self.width _ _ _) (l.invariant.done source fills holds)
          (around_row a.self.lines.now a.self.width a.self.height l.window l.y low around k source holds) r.ensures);
    }

pub returns : goal.returns
returns c source fills holds =
    let a = c.args in
    let l = c.loop-y in
    let k = kernel_of_coefficients a.recipe.coefficients in
    let y : l.y ≡ a.self.height = omega arith in
    let end : l.y * a.self.width ≡ a.self.width * a.self.height = omega (arith, ap (λ (n : ℕ). a.self.width * n) y) in
    made_all (l.y * a.self.width) l.target (step_of k a.self.width a.self.height source) (omega (arith, end, l.invariant.size, c.requires.target)) (omega (arith, end, length_step k a.self.width a.self.height source)) (l.invariant.done source fills holds)
