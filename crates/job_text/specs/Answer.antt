-- docs/REFERENCE.md, "Bench program": what is printed for a text. Definitions only.
use Rattle.std.specs.Prelude.{cond, List, [], ◌∷◌, ◌++◌, ℕ, leb, length, drop, Result, Ok, Err}
use Rattle.std.proofs.Math.Option.{Option, some, none}
use Rattle.limits.specs.Limits.{steps_in_range, sides_in_range}
use Rattle.limits.specs.Errors.{Check, ◌otherwise◌, Outcome, first_refusal, number_of}
use Rattle.limits.specs.declared.ErrorCode.{ErrorCode}
use Rattle.limits.specs.declared.ErrorCode.TheVariants.{TextIsNoJob, StepsOutOfRange, SideOutOfRange, WrongLength, NoKernel}
use Rattle.kernel.specs.Molecule.{units_of}
use Rattle.kernel.specs.Choice.{kernel_by}
use Rattle.kernel.specs.Existence.{kernel_exists}
use Rattle.kernel.specs.declared.Kernel.{Kernel}
use Rattle.averaging.specs.Steps.{steps_of}
use Rattle.job_printer.specs.Lines.{refusal_text, kernel_text, picture_text}
use Rattle.job_parser.specs.Job.{Job}
use Rattle.job_parser.specs.Parsing.{parse}
use Rattle.job_parser.specs.declared.Header.{Header}
use Rattle.job_parser.specs.declared.Format.TheVariants.{N}

-- REFERENCE's number of each answer of the call, 0 where it printed, and how many bytes it printed
abbrev pub printed_number : Result ℕ ErrorCode → ℕ
printed_number (Ok n) = 0
printed_number (Err code) = number_of code

abbrev pub printed_values : Result ℕ ErrorCode → List ℕ
printed_values (Ok n) = n ∷ []
printed_values (Err code) = []

-- refusals 5, 6 and 11, in checking order
abbrev pub job_checks : Header → List Check
job_checks h =
    (steps_in_range h.steps otherwise StepsOutOfRange)
    ∷ (sides_in_range h.width h.height otherwise SideOutOfRange)
    ∷ (kernel_exists h.covariance.xx h.covariance.xy h.covariance.yy (units_of h.steps) otherwise NoKernel)
    ∷ []

-- "The choice is obeyed: the K line and the pixels are those of the kernel with the f of the text's choice"
abbrev pub job_kernel : Header → Kernel
job_kernel h = kernel_by h.choice h.covariance.xx h.covariance.xy h.covariance.yy h.steps

-- the kernel of a job, and a picture
abbrev pub shown_text : Header → List ℕ → List ℕ
shown_text h pixels = kernel_text (job_kernel h) ++ picture_text h.width h.height pixels

-- "It runs the job between two pictures": the picture is that after its steps
abbrev pub result_text : Header → List ℕ → List ℕ
result_text h pixels = shown_text h (steps_of (job_kernel h) h.width h.height h.steps pixels)

abbrev pub refusal_or : Outcome → List ℕ → List ℕ
refusal_or (Ok done) text = text
refusal_or (Err code) text = refusal_text code

unfoldable pub job_answer : Header → List ℕ → List ℕ
job_answer h pixels = refusal_or (first_refusal (job_checks h)) (result_text h pixels)

-- a text that is no job has refusal 1, which comes before the others
abbrev pub answer_to : Option Job → List ℕ
answer_to (some job) = job_answer job.header job.pixels
answer_to none = refusal_text TextIsNoJob

-- what is printed for a text: "The bench program takes N only"
unfoldable pub answer_text : List ℕ → List ℕ
answer_text text = answer_to (parse N text)

-- as many bytes as an answer can have, which `proofs/Bounds` shows: for each pixel five digits and a separator, and before them
-- 94 bytes
abbrev pub most_bytes : ℕ
most_bytes = 49240

-- what a call answers, and what it leaves in the lent buffer
pub record Answered : Type 0 where
  pub answer : Result ℕ ErrorCode
  pub out : List ℕ

-- the answer stands at the start of the buffer, and the bytes behind it are kept. A buffer that is too short for some answer is
-- refused, and kept.
unfoldable pub answered : List ℕ → List ℕ → Answered
answered text out =
    cond (leb most_bytes (length out))
    (record { answer = Ok (length (answer_text text)); out = answer_text text ++ drop (length (answer_text text)) out })
    (record { answer = Err WrongLength; out = out })
