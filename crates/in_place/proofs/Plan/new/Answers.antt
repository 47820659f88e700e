-- `in_place::Plan::new` meets its contract: a line has room for a row, and for no more pixels than it holds. Assumes nothing.
use mathlib.Core.Path.{◌≡◌, ap}
use mathlib.Core.Logic.{◌⊎◌, inl, inr}
use Prim.Native.Nat.{ℕ, ◌+◌, ◌*◌, ◌/◌, ◌≤◌, ◌<◌, zero-le}
use native.Mathlib.Nat.{eq-or-lt_of_le, mul-div-le, lt-mul-div-succ}
use native.Mathlib.Omega.{arith}
use Rattle.limits.specs.Limits.{longest_side}
use Rattle.in_place.proofs.Plan.new.Goals as goal

-- a line has room for a row
some_rows : (w : ℕ) → 1 ≤ w → w ≤ longest_side → 1 ≤ longest_side / w
some_rows w wide narrow = go (eq-or-lt_of_le zero-le)
  where
    go : (0 ≡ longest_side / w) ⊎ (0 < longest_side / w) → 1 ≤ longest_side / w
    go (inl e) = absurd (omega (arith, lt-mul-div-succ longest_side wide, ap (λ (d : ℕ). w * (d + 1)) e, narrow))
    go (inr l) = l

pub invariant_of-result : goal.invariant_of-result
invariant_of-result c =
    let p = c.requires.sides in
    record { sides = p; fits = c.requires.fits; lines = record { some = some_rows c.args.width p.wide p.narrow; line = omega (arith, mul-div-le longest_side c.args.width) } }
