-- What a list of checks comes to: a test that passed or failed, a list that was accepted, and two lists one after the other.
-- Assumes nothing.
use mathlib.Core.Path.{◌≡◌, refl, sym, ◌∙◌}
use mathlib.Core.Bool.{Bool, true, false, not}
use mathlib.Core.List.{List, [], ◌∷◌, ◌++◌}
use Prim.Native.Nat.{ℕ}
use native.Mathlib.Omega.{arith}
use borrow.Author.Tests.{not-true, not-false}
use Rattle.limits.specs.Errors.{Outcome, Check, unless, first_refusal, answer_with}
use Rattle.limits.specs.declared.ErrorCode.{ErrorCode}
use Rattle.std.specs.Prelude.{Result, Ok, Err}

-- a test's result and what its negation says
pub failed : {r t : Bool} → r ≡ t → not r ≡ true → t ≡ false
failed {r} e h = sym e ∙ not-true r h

pub passed : {r t : Bool} → r ≡ t → not r ≡ false → t ≡ true
passed {r} e h = sym e ∙ not-false r h

pub refused_not_accepted : {A : Type 0} {code : ErrorCode} {value : A} → ◌≡◌ {A = Result A ErrorCode} (Err code) (Ok value) → ⊥
refused_not_accepted e = let z : ◌≡◌ {A = ℕ} 0 1 = cc in omega arith

-- each check of a list holds
abbrev pub AllHold : List Check → Type 0
AllHold [] = Unit {0}
AllHold (check ∷ rest) = (check.holds ≡ true) × AllHold rest

-- where nothing is refused, each does
pub all_hold : (checks : List Check) → first_refusal checks ≡ Ok tt → AllHold checks
all_hold [] e = tt
all_hold (check ∷ rest) e = go check.holds e (all_hold rest)
  where
    go : (t : Bool) → unless t (Err check.code) (first_refusal rest) ≡ Ok tt → (first_refusal rest ≡ Ok tt → AllHold rest)
        → (t ≡ true) × AllHold rest
    go true e f = (refl, f e)
    go false e f = absurd (refused_not_accepted e)

-- a value stands beside no refusal
pub accepted_alone : {A : Type 0} (outcome : Outcome) (value answered : A) → answer_with outcome value ≡ Ok answered → (outcome ≡ Ok tt) × (answered ≡ value)
accepted_alone (Ok done) value answered e = (refl, cc)
accepted_alone (Err code) value answered e = absurd (refused_not_accepted e)

pub refused_alone : {A : Type 0} (outcome : Outcome) (value : A) (code : ErrorCode) → answer_with outcome value ≡ Err code → outcome ≡ Err code
refused_alone (Ok done) value code e = absurd (refused_not_accepted (sym e))
refused_alone (Err other) value code e = cc

-- an outcome, and where it is no refusal the next one
abbrev pub or_else : Outcome → Outcome → Outcome
or_else (Ok done) next = next
or_else (Err code) next = Err code

-- two lists of checks, one after the other
pub in_turn : (checks rest : List Check) → first_refusal (checks ++ rest) ≡ or_else (first_refusal checks) (first_refusal rest)
in_turn [] rest = refl
in_turn (check ∷ checks) rest = go check.holds (in_turn checks rest)
  where
    go : (t : Bool) → first_refusal (checks ++ rest) ≡ or_else (first_refusal checks) (first_refusal rest)
        → unless t (Err check.code) (first_refusal (checks ++ rest)) ≡ or_else (unless t (Err check.code) (first_refusal checks)) (first_refusal rest)
    go true e = e
    go false e = refl
