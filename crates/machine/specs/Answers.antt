-- docs/REFERENCE.md, F11: the number and the values of each case of the service's answers; the number is 0 where the call is
-- not refused. Definitions only.
use Rattle.std.specs.Prelude.{List, [], ◌∷◌, ℕ, Result, Ok, Err}
use Rattle.limits.specs.declared.ErrorCode.{ErrorCode}
use Rattle.limits.specs.Errors.{number_of}
use Rattle.machine.specs.declared.Answer.{Answer}
use Rattle.machine.specs.declared.Answer.TheVariants.{Job, Idle}

-- what a submit, a tick, a collect or a withdraw comes to: an answer or a refusal
abbrev pub Answered : Type 0
Answered = Result Answer ErrorCode

-- and the free count: how many buffers, or a refusal
abbrev pub FreeCount : Type 0
FreeCount = Result ℕ ErrorCode

-- the answers in numbers: "it answers the job number"; idle has no value, and "a refusal answers its number alone"
abbrev pub answer_number : Answered → ℕ
answer_number (Ok (Job n)) = 0
answer_number (Ok Idle) = 0
answer_number (Err code) = number_of code

abbrev pub answer_values : Answered → List ℕ
answer_values (Ok (Job n)) = n ∷ []
answer_values (Ok Idle) = []
answer_values (Err code) = []

-- what the free count answers
abbrev pub count_number : FreeCount → ℕ
count_number (Ok n) = 0
count_number (Err code) = number_of code

abbrev pub count_values : FreeCount → List ℕ
count_values (Ok n) = n ∷ []
count_values (Err code) = []
