-- `in_place::Plan::turn` meets its contract: the next band is made while the one that waits is not yet in the image, so from rows as they were;
-- then that one is put in its place. Assumes nothing.
use mathlib.Core.Path.{◌≡◌, ap, ◌∙◌}
use mathlib.Core.List.{List}
use Prim.Native.Nat.{ℕ, zero, suc, ◌+◌, ◌-◌, ◌*◌, ◌≤◌, ◌<◌}
use native.Mathlib.Nat.{mul-le-mul_right}
use native.Mathlib.Omega.{arith}
use lib.ListN.{take, drop}
use Rattle.averaging.specs.Steps.{step_of}
use Rattle.kernel.specs.declared.Kernel.{Kernel}
use Rattle.row_core.specs.Prepared.{kernel_of_coefficients}
use Rattle.row_core.specs.Rows.{part}
use Rattle.in_place.specs.Bands.{Place, Waiting}
use Rattle.in_place.proofs.Bands.{rows_inside, same_further, put_down}
use Rattle.in_place.proofs.Plan.turn.Goals as goal

-- the rows that the next band reads, from the one above it on, are as they were while the band above it waits
rows_kept : (k : Kernel) (w h : ℕ) (old picture line : List ℕ) (y n : ℕ) → Place h y n → Waiting k w h old picture line (y * w) (n * w) → y + n < h
    → drop ((y + n - 1) * w) picture ≡ drop ((y + n - 1) * w) old
rows_kept k w h old picture line y n place waiting l =
    same_further (y * w) ((y + n - 1) * w) picture old waiting.kept (mul-le-mul_right w (omega (arith, place.more (omega (arith, l)))))

-- a row stands above where a band ends
some_rows : (h y n : ℕ) → 1 ≤ h → Place h y n → 1 ≤ y + n
some_rows h zero n high place = omega (arith, place.more high)
some_rows h (suc y) n high place = omega arith

pub make_next-made-requires-clause-next : goal.make_next-made-requires-clause-next
make_next-made-requires-clause-next c =
    let p = c.requires.place.0 in
    (some_rows c.args.self.now.height c.args.y c.args.rows c.args.self.now.sides.high p, p.inside)

pub put-requires : goal.put-requires
put-requires c =
    let a = c.args in
    (omega (arith, c.requires.picture.2, c.requires.place.1), omega (arith, rows_inside a.self.now.width a.self.now.height a.y a.rows c.requires.place.0.inside, c.requires.picture.0))

pub returns-clause-by_index : goal.returns-clause-by_index
returns-clause-by_index c =
    let a = c.args in
    let w = a.self.now.width in
    let h = a.self.now.height in
    let k = kernel_of_coefficients a.self.now.coefficients in
    let place = c.requires.place.0 in
    let next = c.make_next-made in
    let i : ℕ = a.y * w in
    let s : ℕ = a.rows * w in
    let r : ℕ = next.result * w in
    let end : (a.y + a.rows) * w ≡ i + s = omega arith in
    λ old lo waiting.
    let made : take r next.new.line ≡ part (i + s) r (step_of k w h old) =
    next.ensures.by_index old lo (rows_kept k w h old a.picture.now a.waiting.now a.y a.rows place waiting) ∙ ap (λ (n : ℕ). part n r (step_of k w h old)) end in
    rw end
    (put_down k w h old a.picture.now a.waiting.now next.new.line i s r
    (omega (arith, rows_inside w h a.y a.rows place.inside, c.requires.picture.0)) (omega (arith, c.requires.picture.2, c.requires.place.1)) waiting made c.put.ensures)
