-- `covariance::oval_entries` meets its contract: the three floats are the definition's, and each is small enough for
-- `nearest_units` (proofs/Sizes). Assumes nothing.
use Rattle.std.proofs.Common.{◌≡◌, ◌^◌, ◌<◌, ℤ, ap, ◌∙◌, w32, to_z, of_z}
use lib.Signed.{mag}
use lib.Ieee.{Float}
use mir.ValLaws.{to_z-of_z}
use Rattle.covariance.specs.Units.{nearest_units}
use Rattle.covariance.specs.Shapes.{covariance_xx, covariance_xy, covariance_yy}
use Rattle.covariance.proofs.Sizes.{xx_within, xy_within, yy_within}
use Rattle.covariance.proofs.oval_entries.Goals as goal

pub nearest_units-requires : goal.nearest_units-requires
nearest_units-requires c =
    let s = c in
    rw c.oval_variance.ensures (xx_within s.args.long s.args.short s.args.direction s.requires.0 s.requires.1)

pub nearest_units-requires-2 : goal.nearest_units-requires-2
nearest_units-requires-2 c =
    let s = c in
    rw c.oval_xy.ensures (xy_within s.args.long s.args.short s.args.direction s.requires.0 s.requires.1)

pub nearest_units-requires-3 : goal.nearest_units-requires-3
nearest_units-requires-3 c =
    let s = c in
    rw c.oval_variance-2.ensures (yy_within s.args.long s.args.short s.args.direction s.requires.0 s.requires.1)

-- a result that went through an i32
kept : (z : ℤ) (x y : Float) → mag z < 2 ^ 31 → z ≡ nearest_units x → x ≡ y → to_z w32 (of_z w32 z) ≡ nearest_units y
kept z x y f e h = to_z-of_z w32 z (record { sfits = f }) ∙ e ∙ ap nearest_units h

pub returns : goal.returns
unfolding covariance_xx covariance_xy covariance_yy
returns c =
    let xx = c.nearest_units in
    let xy = c.nearest_units-2 in
    let yy = c.nearest_units-3 in
    rw (
      kept xx.result _ _ xx.type_inv xx.ensures c.oval_variance.ensures,
      kept xy.result _ _ xy.type_inv xy.ensures c.oval_xy.ensures,
      kept yy.result _ _ yy.type_inv yy.ensures c.oval_variance-2.ensures,
    )
