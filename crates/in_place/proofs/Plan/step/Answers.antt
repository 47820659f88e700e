-- `in_place::Plan::step` meets its contract. The loop's invariant: the rows before `y` are made, those from there on are as they were, and the band
-- at `y` waits in the line `even`. The measure is what is left of the image. Assumes nothing.
use mathlib.Core.Path.{◌≡◌, refl, ap}
use Prim.Native.Nat.{ℕ, ◌*◌}
use native.Mathlib.Omega.{arith}
use Rattle.averaging.specs.Steps.{step_of}
use Rattle.row_core.specs.Prepared.{kernel_of_coefficients}
use Rattle.row_core.proofs.Parts.{made_all}
use Rattle.row_core.proofs.Rows.{length_step}
use Rattle.in_place.proofs.Plan.step.Goals as goal

pub loop-y-init : goal.loop-y-init
loop-y-init c =
    let p = c.args.self.sides in
    let w = c.args.self.width in
    let none : 0 * w ≡ 0 = omega arith in
    let one : 1 * w ≡ w = omega arith in
    record {
      place = record { inside = p.high; more = λ l. omega arith };
      short = omega (arith, p.narrow);
      waiting = rw (none, one) c.make_first.ensures;
      pixels = refl;
      even_line = refl;
      odd_line = refl;
    }

pub returns : goal.returns
returns c =
    let a = c.args in
    let w = a.self.width in
    let h = a.self.height in
    let l = c.loop-y in
    let k = kernel_of_coefficients a.self.coefficients in
    let y : l.y ≡ h = omega (arith, l.invariant.place.inside) in
    let end : l.y * w ≡ w * h = omega (arith, ap (λ (n : ℕ). w * n) y) in
    made_all (l.y * w) l.picture (step_of k w h a.picture.now) (omega (arith, end, l.invariant.pixels, c.requires)) (omega (arith, end, length_step k w h a.picture.now)) l.invariant.waiting.made
