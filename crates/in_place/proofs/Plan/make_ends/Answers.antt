-- `in_place::Plan::make_ends` meets its contract. The loop's invariant: the rows before row n of the band are right where they were right between
-- their ends, and the others are as they were. Assumes nothing.
use mathlib.Core.Path.{◌≡◌, refl, sym, subst, ◌∙◌}
use mathlib.Core.Logic.{◌⊎◌, inl, inr}
use mathlib.Core.List.{List}
use Prim.Native.Nat.{ℕ, ◌+◌, ◌*◌, ◌≤◌, ◌<◌}
use native.Mathlib.Nat.{eq-or-lt_of_le}
use native.Mathlib.Omega.{arith}
use lib.ListN.{get_or}
use Rattle.kernel.specs.declared.Kernel.{Kernel}
use Rattle.row_core.specs.Prepared.{kernel_of_coefficients}
use Rattle.row_core.specs.declared.Starts.{Starts}
use Rattle.row_core.proofs.Rows.{row_inside}
use Rattle.in_place.specs.Bands.{band_pixel}
use Rattle.in_place.proofs.Bands.{other_row, own_row}
use Rattle.in_place.proofs.Plan.make_ends.Goals as goal

-- the rows before row n + 1 are right where they were between their ends
module _ (k : Kernel) (w : ℕ) (pixels : List ℕ) (v : Starts) (l₀ l o : List ℕ) (n : ℕ)
    (done : (j x : ℕ) → x < w → j < n → (0 < x → x + 1 < w → get_or l₀ (j * w + x) 0 ≡ band_pixel k w pixels v j x) → get_or l (j * w + x) 0 ≡ band_pixel k w pixels v j x)
    (kept : (x : ℕ) → x < w → get_or l (n * w + x) 0 ≡ get_or l₀ (n * w + x) 0)
    (other : (j x : ℕ) → x < w → (j < n) ⊎ (n < j) → get_or o (j * w + x) 0 ≡ get_or l (j * w + x) 0)
    (own : (x : ℕ) → x < w → (0 < x → x + 1 < w → get_or l (n * w + x) 0 ≡ band_pixel k w pixels v n x) → get_or o (n * w + x) 0 ≡ band_pixel k w pixels v n x)
  where
    done_more : (j x : ℕ) → x < w → j ≤ n → (0 < x → x + 1 < w → get_or l₀ (j * w + x) 0 ≡ band_pixel k w pixels v j x) → get_or o (j * w + x) 0 ≡ band_pixel k w pixels v j x
    done_more j x lx m = go (eq-or-lt_of_le m)
      where
        go : (j ≡ n) ⊎ (j < n) → (0 < x → x + 1 < w → get_or l₀ (j * w + x) 0 ≡ band_pixel k w pixels v j x) → get_or o (j * w + x) 0 ≡ band_pixel k w pixels v j x
        go (inl e) =
            subst (λ (i : ℕ). (0 < x → x + 1 < w → get_or l₀ (i * w + x) 0 ≡ band_pixel k w pixels v i x) → get_or o (i * w + x) 0 ≡ band_pixel k w pixels v i x) (sym e)
            (λ inner. own x lx (λ low high. kept x lx ∙ inner low high))
        go (inr q) = λ inner. other j x lx (inl q) ∙ done j x lx q inner

pub make_ends_of-requires : goal.make_ends_of-requires
make_ends_of-requires c =
    let l = c.loop-j in
    let p = c.requires in
    let row = row_inside c.args.self.now.width c.args.band.rows l.j (omega arith) in
    record {
      some = p.some;
      image = record { above = omega (arith, row, p.image.above); at = omega (arith, row, p.image.at); below = omega (arith, row, p.image.below) };
      line = omega (arith, row, l.invariant.size, p.line);
    }

pub overflow_mul-j : goal.overflow_mul-j
overflow_mul-j c = omega (arith, row_inside c.args.self.now.width c.args.band.rows c.loop-j.j (omega arith), c.requires.line, c.well_formed)

pub loop-j-preserved : goal.loop-j-preserved
loop-j-preserved c =
    let a = c.args in
    let w = a.self.now.width in
    let v = a.band.starts in
    let l = c.loop-j in
    let r = c.make_ends_of in
    let k = kernel_of_coefficients a.self.now.coefficients in
    let o = r.new.line in
    let other = other_row k w a.source.now v l.line o (l.j * w) l.j c.requires.some refl r.ensures.row_after r.ensures.width_after r.ensures.by_index in
    let own = own_row k w a.source.now v l.line o (l.j * w) l.j c.requires.some refl r.ensures.row_after r.ensures.width_after r.ensures.by_index in
    record {
      size = omega (arith, l.invariant.size);
      done = λ j x lx m. done_more k w a.source.now v a.line.now l.line o l.j l.invariant.done (λ y ly. l.invariant.kept l.j y (omega arith) ly) other own j x lx (omega (arith, m));
      kept = λ j x m lx. other j x lx (inr (omega (arith, m))) ∙ l.invariant.kept j x (omega (arith, m)) lx;
    }
