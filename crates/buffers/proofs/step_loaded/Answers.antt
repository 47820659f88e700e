-- `buffers::step_loaded` meets its contract: the lines hold the picture's rows, and the part that was lent comes back with its next
-- step in it. Assumes nothing.
use mathlib.Core.Path.{◌≡◌}
use mathlib.Core.List.{List}
use Prim.Native.Nat.{ℕ, ◌+◌, ◌*◌, ◌≤◌}
use native.Mathlib.Nat.{add-sub_cancel_left}
use native.Mathlib.Omega.{arith}
use borrow.Rule.Slice.PartMut.{Post-is}
use lib.ListN.{length}
use Rattle.kernel.specs.declared.Kernel.{Kernel}
use Rattle.averaging.specs.Steps.{step_of}
use Rattle.averaging.proofs.Images.{length_image}
use Rattle.row_core.specs.Prepared.{kernel_of_coefficients}
use Rattle.row_core.specs.Rows.{AllPixels}
use Rattle.row_core.proofs.Pixels.{part_pixels}
use Rattle.stepping.specs.Whole.{HoldsRows}
use Rattle.stepping.proofs.Whole.{lines_doubled}
use Rattle.machine.specs.Store.{part}
use Rattle.machine.proofs.Parts.{length_part}
use Rattle.buffers.proofs.step_loaded.Goals as goal

length_step : (k : Kernel) (w h : ℕ) (pixels : List ℕ) → length (step_of k w h pixels) ≡ w * h
unfolding step_of
length_step k w h pixels = length_image w h _

pub step_all-requires : goal.step_all-requires
step_all-requires c =
    let a = c.args in
    let n : ℕ = a.width * a.height in
    let p = c.requires.between in
    let source : List ℕ = part a.from n a.store.now in
    let lines : List ℕ = c.load_all.new.lines in
    let holds : HoldsRows lines a.width a.height source = rw (add-sub_cancel_left a.from n) at c.load_all.ensures in
    let pixels : AllPixels source = part_pixels a.from n a.store.now (λ j. omega (arith, c.slice_known-1.given j)) in
    record {
      readable = record {
        wide = p.wide;
        high = p.high;
        room = holds.room;
        target = rw (add-sub_cancel_left a.to n) (length_part a.to n a.store.now p.target);
        doubled = lines_doubled lines source a.width a.height holds pixels;
      };
    }

pub returns : goal.returns
returns c =
    let a = c.args in
    let n : ℕ = a.width * a.height in
    let h : a.to ≤ a.to + n = omega arith in
    let source : List ℕ = part a.from n a.store.now in
    let holds : HoldsRows c.load_all.new.lines a.width a.height source = rw (add-sub_cancel_left a.from n) at c.load_all.ensures in
    let stepped = c.step_all.ensures source (length_part a.from n a.store.now c.requires.between.source) holds in
    let size = length_step (kernel_of_coefficients a.coefficients) a.width a.height source in
    rw (stepped, Post-is a.to (a.to + n) a.store.now h, size)
