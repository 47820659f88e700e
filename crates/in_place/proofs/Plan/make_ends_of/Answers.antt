-- `in_place::Plan::make_ends_of` meets its contract: the two pixels are those of three columns, and where the row has one pixel both are the
-- same. Assumes nothing.
use mathlib.Core.Path.{◌≡◌, refl, sym, ap, ◌∙◌}
use Prim.Native.Nat.{ℕ, ◌+◌, ◌-◌, ◌≤◌, min}
use native.Mathlib.Omega.{arith}
use mathlib.Core.List.{List}
use lib.ListN.{length, get_or, set}
use Rattle.kernel.specs.declared.Kernel.{Kernel}
use Rattle.row_core.specs.Stretches.{column_in, average_of}
use Rattle.row_core.specs.declared.Starts.{Starts}
use Rattle.row_core.specs.Prepared.{kernel_of_coefficients}
use Rattle.in_place.proofs.Bands.{same_columns, first_written, last_written}
use Rattle.in_place.proofs.Plan.make_ends_of.Goals as goal

-- what is written at the first and the last place of a row, and that both are the same where it has one pixel
module _ (k : Kernel) (pixels : List ℕ) (v : Starts) (l : List ℕ) (i w inner a b : ℕ) (some : 1 ≤ w) (inside : i + w ≤ length l) (step : inner ≡ min 1 (w - 1))
    (first : a ≡ average_of k (column_in pixels v i) (column_in pixels v i) (column_in pixels v (i + inner)))
    (last : b ≡ average_of k (column_in pixels v (i + (w - 1) - inner)) (column_in pixels v (i + (w - 1))) (column_in pixels v (i + (w - 1))))
  where
    first_is : a ≡ average_of k (column_in pixels v i) (column_in pixels v i) (column_in pixels v (i + min 1 (w - 1)))
    first_is = first ∙ same_columns k pixels v refl refl (ap (λ (n : ℕ). i + n) step)

    last_is : b ≡ average_of k (column_in pixels v (i + (w - 2))) (column_in pixels v (i + (w - 1))) (column_in pixels v (i + (w - 1)))
    last_is = last ∙ same_columns k pixels v (omega (arith, step, some)) refl refl

    same : 1 ≡ w → b ≡ a
    same e = last_is ∙ same_columns k pixels v (omega (arith, e)) (omega (arith, e)) (omega (arith, e)) ∙ sym first_is

    first_made : get_or (set (set l i a) (i + (w - 1)) b) i 0 ≡ average_of k (column_in pixels v i) (column_in pixels v i) (column_in pixels v (i + min 1 (w - 1)))
    first_made = first_written l i w a b some inside same ∙ first_is

    last_made : get_or (set (set l i a) (i + (w - 1)) b) (i + (w - 1)) 0 ≡ average_of k (column_in pixels v (i + (w - 2))) (column_in pixels v (i + (w - 1))) (column_in pixels v (i + (w - 1)))
    last_made = last_written l i w a b some inside same ∙ last_is

pub returns-clause-row_after : goal.returns-clause-row_after
returns-clause-row_after c =
    let a = c.args in
    let p = c.requires in
    first_made (kernel_of_coefficients a.self.now.coefficients) a.source.now a.starts a.line.now a.row a.self.now.width _ _ _ p.some p.line c.to_next-inner.ensures c.average_at.ensures c.average_at-2.ensures

pub returns-clause-width_after : goal.returns-clause-width_after
returns-clause-width_after c =
    let a = c.args in
    let p = c.requires in
    last_made (kernel_of_coefficients a.self.now.coefficients) a.source.now a.starts a.line.now a.row a.self.now.width _ _ _ p.some p.line c.to_next-inner.ensures c.average_at.ensures c.average_at-2.ensures
