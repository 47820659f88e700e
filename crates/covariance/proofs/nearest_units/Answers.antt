-- `covariance::nearest_units` meets its contract: the product by 8192 is exact, and the nearest whole number is half of the
-- whole number next to it, taken by its sign (proofs/Halves). Assumes nothing.
use Rattle.std.proofs.Common.{◌+◌, ◌/◌, T, pos, neg_ℤ, sym, ap, ◌∙◌, subst, lit<, w32}
use lib.Ieee.{binary64, mul, of_bits}
use mir.ValLaws.{to_z-of_z}
use Rattle.covariance.specs.Cuts.{most_squares}
use Rattle.covariance.proofs.Exact.{Scaled, scaled}
use Rattle.covariance.proofs.Halves.{below_zero, not_below_zero}
use Rattle.covariance.proofs.nearest_units.Goals as goal
use Rattle.covariance.proofs.nearest_units.Goals.{Start}

halves : (c : Start) → Scaled 13 c.args.squares (mul binary64 c.args.squares (of_bits binary64 4665729213955833856))
unfolding of_bits
halves c = scaled 13 most_squares (lit< tt) c.args.squares (subst T (sym c.well_formed.0.1) tt) c.requires

pub ceiling-requires : goal.ceiling-requires
unfolding of_bits
ceiling-requires c = let s = c.before in (below_zero s.args.squares _ s.requires (halves s) c.if-halves.true).0

pub floor-requires : goal.floor-requires
unfolding of_bits
floor-requires c = let s = c.before in (not_below_zero s.args.squares _ s.requires (halves s) c.if-halves.false).0

pub returns-then-halves : goal.returns-then-halves
unfolding of_bits
returns-then-halves c =
    let s = c.before.before.before in
    to_z-of_z w32 c.negated.result (record { sfits = c.negated.type_inv }) ∙ c.negated.ensures
    ∙ ap (λ n. neg_ℤ (pos (n / 2))) c.ceiling.ensures.0
    ∙ (below_zero s.args.squares _ s.requires (halves s) c.if-halves.true).1

pub returns-else-halves : goal.returns-else-halves
unfolding of_bits
returns-else-halves c =
    let s = c.before.before.before in
    to_z-of_z w32 c.nonnegative.result (record { sfits = c.nonnegative.type_inv }) ∙ c.nonnegative.ensures
    ∙ ap (λ n. pos ((n + 1) / 2)) c.floor.ensures.0
    ∙ (not_below_zero s.args.squares _ s.requires (halves s) c.if-halves.false).1
