-- `in_place::Plan::make_first` meets its contract: the band of the first row alone, of which nothing was made before. Assumes nothing.
use mathlib.Core.Path.{◌≡◌, refl, sym, ap, ◌∙◌}
use Prim.Native.Nat.{ℕ, ◌*◌}
use native.Mathlib.Omega.{arith}
use lib.ListN.{take}
use Rattle.averaging.specs.Steps.{step_of}
use Rattle.row_core.specs.Prepared.{kernel_of_coefficients}
use Rattle.row_core.specs.Rows.{part}
use Rattle.in_place.proofs.Bands.{first_made, made_inside, band_made}
use Rattle.in_place.proofs.Plan.make_first.Goals as goal

pub make_band-requires : goal.make_band-requires
make_band-requires c =
    let a = c.args in
    let p = a.self.now.sides in
    made_inside _ a.self.now.width a.self.now.height 0 _ 1 _ c.requires.0 p.wide (first_made a.self.now.width a.self.now.height c.below_first.result p.high c.below_first.ensures) (omega arith)
    (omega (arith, c.requires.1))

pub returns : goal.returns
returns c =
    let a = c.args in
    let w = a.self.now.width in
    let h = a.self.now.height in
    let p = a.self.now.sides in
    let b = c.make_band in
    let below = c.below_first in
    let k = kernel_of_coefficients a.self.now.coefficients in
    let none : 0 * w ≡ 0 = omega arith in
    let one : 1 * w ≡ w = omega arith in
    let made =
    band_made k w h a.picture.now a.picture.now b.new.line (record { above = 0; at = 0; below = below.result }) 0 1
    p.wide c.requires.0 (first_made w h below.result p.high below.ensures) 0 refl (omega arith) (omega arith) (omega arith)
    (omega (arith, c.requires.1)) b.ensures
    in
    record {
      made = refl;
      kept = refl;
      waits =
          ap (λ (n : ℕ). take n b.new.line) (sym one) ∙ made
          ∙ ap (λ (n : ℕ). part n (1 * w) (step_of k w h a.picture.now)) none ∙ ap (λ (n : ℕ). part 0 n (step_of k w h a.picture.now)) one;
    }
