-- `in_place::Plan::make_next` meets its contract: the band below is whole rows of the image, whose rows above and below are as they were.
-- Assumes nothing.
use mathlib.Core.Path.{◌≡◌, ap}
use Prim.Native.Nat.{ℕ, ◌+◌, ◌-◌, ◌*◌, ◌≤◌, ◌<◌, min}
use native.Mathlib.Nat.{mul-le-mul_right}
use native.Mathlib.Omega.{arith}
use Rattle.row_core.specs.Prepared.{kernel_of_coefficients}
use Rattle.in_place.proofs.Bands.{next_made, made_inside, band_made}
use Rattle.in_place.proofs.Plan.make_next.Goals as goal

pub make_band-requires : goal.make_band-requires
make_band-requires c =
    let a = c.args in
    let p = a.self.now.sides in
    let b = c.next_band-band in
    let m = next_made a.self.now.width a.self.now.height a.y a.self.now.room b.result a.self.now.lines p.narrow c.requires.next.0 (omega arith) b.ensures.starts b.ensures.last b.ensures.inner in
    made_inside _ a.self.now.width a.self.now.height a.y _ b.result.rows _ c.requires.picture.0 p.wide m.band m.some (omega (arith, m.short, c.requires.picture.1))

pub returns-then-y-self-clause-place : goal.returns-then-y-self-clause-place
returns-then-y-self-clause-place c =
    let a = c.args in
    let b = c.next_band-band in
    let m = next_made a.self.now.width a.self.now.height a.y a.self.now.room b.result a.self.now.lines a.self.now.sides.narrow c.requires.next.0 (omega arith) b.ensures.starts b.ensures.last b.ensures.inner in
    (record { inside = m.band.inside; more = λ l. m.some }, m.short)

pub returns-then-y-self-clause-by_index : goal.returns-then-y-self-clause-by_index
returns-then-y-self-clause-by_index c =
    let a = c.args in
    let w = a.self.now.width in
    let h = a.self.now.height in
    let p = a.self.now.sides in
    let b = c.next_band-band in
    let made = c.make_band in
    let low : a.y < h = omega arith in
    let m = next_made w h a.y a.self.now.room b.result a.self.now.lines p.narrow c.requires.next.0 low b.ensures.starts b.ensures.last b.ensures.inner in
    let split : a.y ≡ a.y - 1 + 1 = omega (arith, c.requires.next.0) in
    let rows : a.y * w ≡ (a.y - 1 + 1) * w = ap (λ (n : ℕ). n * w) split in
    let below : a.y * w ≤ min (a.y + 0 + 1) (h - 1) * w = mul-le-mul_right w (omega (arith, low)) in
    λ old lo kept.
    band_made (kernel_of_coefficients a.self.now.coefficients) w h old a.picture.now made.new.line b.result.starts a.y b.result.rows p.wide lo m.band
    ((a.y - 1) * w) (kept low) (omega (arith, b.ensures.starts.0, rows)) (omega (arith, b.ensures.starts.1, rows)) (omega (arith, m.band.below 0 m.some, below, rows))
    (omega (arith, m.short, c.requires.picture.1)) made.ensures
