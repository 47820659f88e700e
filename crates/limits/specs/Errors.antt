-- docs/REFERENCE.md, "Refusals in checking order": the number of each error code, and the answer of a call that makes several
-- checks. Definitions only.
use Rattle.std.specs.Prelude.{ℕ, Bool, true, false, List, [], ◌∷◌, Result, Ok, Err}
use Rattle.limits.specs.declared.ErrorCode.{ErrorCode}
use Rattle.limits.specs.declared.ErrorCode.TheVariants.{TextIsNoJob, RecordOutOfOrder, VarianceOutOfRange, NotADirection, StepsOutOfRange, SideOutOfRange, NoSuchJob, StepsAreLeft, WrongLength, TooManyPixels, NoKernel, NoFreeBuffers, NumbersUsedUp, CannotGoBack}

-- the number that REFERENCE gives each refusal
abbrev pub number_of : ErrorCode → ℕ
number_of TextIsNoJob = 1
number_of RecordOutOfOrder = 2
number_of VarianceOutOfRange = 3
number_of NotADirection = 4
number_of StepsOutOfRange = 5
number_of SideOutOfRange = 6
number_of NoSuchJob = 7
number_of StepsAreLeft = 8
number_of WrongLength = 9
number_of TooManyPixels = 10
number_of NoKernel = 11
number_of NoFreeBuffers = 12
number_of NumbersUsedUp = 13
number_of CannotGoBack = 14

-- what a call answers where nothing else comes back: "an answer or one numbered refusal"
abbrev pub Outcome : Type 0
Outcome = Result Unit ErrorCode

-- 0 for a call that was accepted
abbrev pub outcome_number : Outcome → ℕ
outcome_number (Ok done) = 0
outcome_number (Err code) = number_of code

-- one check: what has to hold, and the error code where it does not
pub record Check : Type 0 where
  pub holds : Bool
  pub code : ErrorCode

infix 4 ◌otherwise◌
abbrev pub ◌otherwise◌ : Bool → ErrorCode → Check
holds otherwise code = record { holds = holds; code = code }

abbrev pub unless : Bool → Outcome → Outcome → Outcome
unless true refused rest = rest
unless false refused rest = refused

-- "Each call checks those that concern it, in this order, and a refusal answers its number alone": the first that fails
abbrev pub first_refusal : List Check → Outcome
first_refusal [] = Ok tt
first_refusal (check ∷ rest) = unless check.holds (Err check.code) (first_refusal rest)

-- what a call answers that gives a value: the value where its checks hold, and else the refusal alone
abbrev pub answer_with : {A : Type 0} → Outcome → A → Result A ErrorCode
answer_with (Ok done) value = Ok value
answer_with (Err code) value = Err code

-- what a lent number holds at the end: the value that was answered, and where there is none what it held
abbrev pub value_or : List ℕ → ℕ → ℕ
value_or [] before = before
value_or (value ∷ values) before = value

-- what a lent slice holds at the end: what was made where the call is accepted, and else what it held ("every lent buffer keep
-- their contents")
abbrev pub held_after : {A : Type 0} → Outcome → List A → List A → List A
held_after (Ok done) made before = made
held_after (Err code) made before = before
