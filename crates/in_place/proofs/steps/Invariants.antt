-- `in_place::steps` meets its contract. The loop's invariant: after n turns the image holds step n, and the lines keep their lengths. Assumes nothing.
use mathlib.Core.Path.{◌≡◌}
use mathlib.Core.List.{List}
use Prim.Native.Nat.{ℕ, ◌≤◌}
use lib.ListN.{length}
use Rattle.limits.specs.Limits.{longest_side}
use Rattle.kernel.specs.declared.Kernel.{Kernel}
use Rattle.averaging.specs.Steps.{steps_of}
use Rattle.row_core.specs.Prepared.{kernel_of_coefficients}
use Rattle.in_place.proofs.steps.Given as goal

pub record Stepped (kernel : Kernel) (w h count : ℕ) (start picture even odd : List ℕ) (n : ℕ) : Type 0 where
  pub within : n ≤ count
  pub pixels : length picture ≡ length start
  pub even_line : length even ≡ longest_side
  pub odd_line : length odd ≡ longest_side
  pub after : picture ≡ steps_of kernel w h n start

abbrev pub invariant-loop : goal.invariant-loop
invariant-loop l =
    Stepped (kernel_of_coefficients l.plan.coefficients) l.plan.width l.plan.height l.count l.initial.picture l.picture l.even l.odd l.counter
