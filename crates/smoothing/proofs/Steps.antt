-- Steps one after the other, and which picture they end in. Assumes nothing.
use mathlib.Core.Path.{◌≡◌, ap, ◌∙◌}
use mathlib.Core.Bool.{true, false}
use mathlib.Core.List.{List}
use Prim.Native.Nat.{ℕ, ◌+◌, ◌%◌}
use native.Mathlib.Numerals.{add-one}
use native.Mathlib.Omega.{arith}
use borrow.Author.Tests.{eq-eqb, ne_eqb}
use Rattle.kernel.specs.declared.Kernel.{Kernel}
use Rattle.averaging.specs.Steps.{step_of, iterate, steps_of}
use Rattle.smoothing.specs.Runs.{is_even}

module _ (kernel : Kernel) (w h : ℕ) (start : List ℕ) where
  -- a picture after m steps, where m is n
  pub as_many : (m : ℕ) {n : ℕ} {p : List ℕ} → m ≡ n → p ≡ steps_of kernel w h m start → p ≡ steps_of kernel w h n start
  as_many m q e = e ∙ ap (λ n. steps_of kernel w h n start) q

  -- one step more
  pub one_more : (m : ℕ) {n : ℕ} {p q : List ℕ} → m + 1 ≡ n → q ≡ step_of kernel w h p → p ≡ steps_of kernel w h m start
      → q ≡ steps_of kernel w h n start
  unfolding iterate
  one_more m e s f = as_many (m + 1) e (rw (add-one m) (s ∙ ap (step_of kernel w h) f))

pub even : (k : ℕ) → k % 2 ≡ 0 → is_even k ≡ true
even k e = eq-eqb (k % 2) 0 e

pub odd : (k : ℕ) → k % 2 ≡ 1 → is_even k ≡ false
odd k e = ne_eqb (k % 2) 0 (omega arith)
