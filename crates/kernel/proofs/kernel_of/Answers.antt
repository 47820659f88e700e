-- `kernel::kernel_of` meets its contract: a free number between the bounds has variances without a sign, and stands between the
-- bounds in naturals; the five weights are the molecule's, by the sign of xy. Assumes nothing.
use mathlib.Core.Path.{◌≡◌, sym, ap₂, ◌∙◌}
use mathlib.Core.Bool.{true, false}
use native.Mathlib.Omega.{arith}
use Prim.Native.Nat.{ℕ, ◌+◌, ◌-◌, ◌*◌}
use lib.IntN.{ℤ, pos, nat_abs}
use lib.Signed.{lt_z}
use Rattle.std.proofs.Common.{rules}
use Rattle.kernel.specs.Molecule.{units_of, kernel_with}
use Rattle.kernel.proofs.Answers.{made_with, five, leans_down, leans_up}
use Rattle.kernel.proofs.Bounds.{Fitting, fitting}
use Rattle.kernel.proofs.kernel_of.Goals as goal

-- the code's kernel, by the sign of xy
lean_down : (xx z yy : ℤ) (f k : ℕ) {x c y m g : ℕ} → Fitting xx z yy f (units_of k) → x ≡ nat_abs xx → c ≡ nat_abs z → y ≡ nat_abs yy → m ≡ units_of k → g ≡ f
    → lt_z z (pos 0) ≡ true → record { weights = five (g - c) (g + c) x y g m; sum = 4 * m } ≡ kernel_with xx z yy (pos f) k
lean_down xx z yy f k h x c y m g sign =
    rw (x, c, y, m, g, ← leans_down (nat_abs xx) z (nat_abs yy) f (units_of k) sign)
    (sym (made_with (nat_abs xx) z (nat_abs yy) f k h.stands) ∙ ap₂ (λ x y. kernel_with x z y (pos f) k) h.x_is h.y_is)

lean_up : (xx z yy : ℤ) (f k : ℕ) {x c y m g : ℕ} → Fitting xx z yy f (units_of k) → x ≡ nat_abs xx → c ≡ nat_abs z → y ≡ nat_abs yy → m ≡ units_of k → g ≡ f
    → lt_z z (pos 0) ≡ false → record { weights = five (g + c) (g - c) x y g m; sum = 4 * m } ≡ kernel_with xx z yy (pos f) k
lean_up xx z yy f k h x c y m g sign =
    rw (x, c, y, m, g, ← leans_up (nat_abs xx) z (nat_abs yy) f (units_of k) sign)
    (sym (made_with (nat_abs xx) z (nat_abs yy) f k h.stands) ∙ ap₂ (λ x y. kernel_with x z y (pos f) k) h.x_is h.y_is)

pub overflow_sub-along : goal.overflow_sub-along
overflow_sub-along c =
    let v = c.args.covariance in
    let x : c.from-xx.result ≡ nat_abs v.xx = search rules in
    omega (arith, x, c.from-f.ensures, (fitting v.xx v.xy v.yy _ _ c.requires.1).stands.across)

pub overflow_sub-down : goal.overflow_sub-down
overflow_sub-down c =
    let v = c.args.covariance in
    let y : c.from-yy.result ≡ nat_abs v.yy = search rules in
    omega (arith, y, c.from-f.ensures, (fitting v.xx v.xy v.yy _ _ c.requires.1).stands.down)

pub overflow_sub-centre : goal.overflow_sub-centre
overflow_sub-centre c =
    let v = c.args.covariance in
    let x : c.from-xx.result ≡ nat_abs v.xx = search rules in
    let y : c.from-yy.result ≡ nat_abs v.yy = search rules in
    omega (arith, x, y, c.from-f.ensures, c.units-m.ensures, (fitting v.xx v.xy v.yy _ _ c.requires.1).stands.steps)

pub overflow_sub-f : goal.overflow_sub-f
overflow_sub-f c =
    let v = c.args.covariance in
    let z : c.from-xy.result ≡ nat_abs v.xy = search rules in
    omega (arith, z, c.from-f.ensures, (fitting v.xx v.xy v.yy _ _ c.requires.1).stands.leans)

pub overflow_sub-f-2 : goal.overflow_sub-f-2
overflow_sub-f-2 c =
    let v = c.args.covariance in
    let z : c.from-xy.result ≡ nat_abs v.xy = search rules in
    omega (arith, z, c.from-f.ensures, (fitting v.xx v.xy v.yy _ _ c.requires.1).stands.leans)

pub returns-then-covariance-lt0 : goal.returns-then-covariance-lt0
returns-then-covariance-lt0 c =
    let v = c.args.covariance in
    let x : c.from-xx.result ≡ nat_abs v.xx = search rules in
    let z : c.from-xy.result ≡ nat_abs v.xy = search rules in
    let y : c.from-yy.result ≡ nat_abs v.yy = search rules in
    let sign : lt_z v.xy (pos 0) ≡ true = search rules in
    c.symmetric.ensures
    ∙ lean_down v.xx v.xy v.yy c.args.free c.args.steps (fitting v.xx v.xy v.yy _ _ c.requires.1) x z y c.units-m.ensures c.from-f.ensures sign

pub returns : goal.returns
returns c =
    let v = c.args.covariance in
    let x : c.from-xx.result ≡ nat_abs v.xx = search rules in
    let z : c.from-xy.result ≡ nat_abs v.xy = search rules in
    let y : c.from-yy.result ≡ nat_abs v.yy = search rules in
    let sign : lt_z v.xy (pos 0) ≡ false = search rules in
    c.symmetric-2.ensures
    ∙ lean_up v.xx v.xy v.yy c.args.free c.args.steps (fitting v.xx v.xy v.yy _ _ c.requires.1) x z y c.units-m.ensures c.from-f.ensures sign
