-- `in_place::steps` meets its contract. The loop's invariant: after n turns the image holds step n, and the lines keep their lengths. Assumes nothing.
use mathlib.Core.Path.{refl, ap, ◌∙◌}
use native.Mathlib.Numerals.{add-one}
use native.Mathlib.Omega.{arith}
use Rattle.averaging.specs.Steps.{iterate, step_of}
use Rattle.row_core.specs.Prepared.{kernel_of_coefficients}
use Rattle.in_place.proofs.steps.Goals as goal

pub new-plan-requires : goal.new-plan-requires
new-plan-requires c =
    let p = c.requires.one_picture in
    record { sides = record { wide = p.wide; high = p.high; narrow = p.narrow; pixels = refl }; fits = omega (arith, p.pixels, c.well_formed) }

pub loop-init : goal.loop-init
unfolding iterate
loop-init c = record { within = omega arith; pixels = refl; even_line = c.blank_line-even.ensures; odd_line = c.blank_line-odd.ensures; after = refl }

pub loop-preserved : goal.loop-preserved
unfolding iterate
loop-preserved c =
    let l = c.loop in
    let r = c.step in
    let plan = c.new-plan.result in
    record {
      within = omega arith;
      pixels = omega (arith, l.invariant.pixels);
      even_line = omega (arith, l.invariant.even_line);
      odd_line = omega (arith, l.invariant.odd_line);
      after = rw (add-one l.counter) (r.ensures ∙ ap (step_of (kernel_of_coefficients plan.coefficients) plan.width plan.height) l.invariant.after);
    }
