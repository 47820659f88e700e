-- docs/REFERENCE.md, "Archived texts and the converter": a text in the other format, byte for byte, and the checks of the converter. Both
-- ways are one definition: `from` is the format that is taken, `to` the one that is made. Definitions only.
use Rattle.std.specs.Prelude.{Bool, true, false, cond, List, [], ◌∷◌, ◌++◌, ℕ, suc, ◌+◌, ◌-◌, eqb, length, take, drop}
use Rattle.std.proofs.Math.Option.{Option, some, none}
use Rattle.limits.specs.Errors.{Check, ◌otherwise◌, first_refusal, held_after}
use Rattle.limits.specs.declared.ErrorCode.TheVariants.{TextIsNoJob, WrongLength, CannotGoBack}
use Rattle.kernel.specs.declared.Choice.{Choice}
use Rattle.kernel.specs.declared.Choice.TheVariants.{Binomial, Smallest}
use Rattle.job_printer.specs.Fields.{tab, newline}
use Rattle.job_parser.specs.Formats.{letter_of, choice_letter}
use Rattle.job_parser.specs.Job.{Job}
use Rattle.job_parser.specs.Parsing.{parse}
use Rattle.job_parser.specs.declared.Format.{Format}
use Rattle.job_parser.specs.declared.Format.TheVariants.{J, N}
use Rattle.limits.specs.Errors.{Outcome}

-- where line one ends: the place of the first newline
unfoldable pub line_end : List ℕ → ℕ
line_end [] = 0
line_end (b ∷ text) = cond (eqb b newline) 0 (suc (line_end text))

-- what stands between h and line one's newline where the choice is the smallest: nothing, or "a tab and s"
abbrev pub smallest_bytes : Format → List ℕ
smallest_bytes J = []
smallest_bytes N = tab ∷ choice_letter Smallest ∷ []

-- "N, line one from its second byte on, a tab and s, and all that follows from line one's newline on, each byte as it was"; on the way back
-- J, and line one without the tab and s
unfoldable pub converted : Format → Format → List ℕ → List ℕ
converted from to text =
    letter_of to ∷ (drop 1 (take (line_end text - length (smallest_bytes from)) text) ++ (smallest_bytes to ++ drop (line_end text) text))

abbrev pub is_job : Option Job → Bool
is_job (some job) = true
is_job none = false

abbrev pub is_smallest : Choice → Bool
is_smallest Smallest = true
is_smallest Binomial = false

abbrev pub has_smallest : Option Job → Bool
has_smallest (some job) = is_smallest job.header.choice
has_smallest none = false

-- refusal 9: "The converter's lent output must have exactly two bytes more or less than the text", which have `size` and `text` bytes
abbrev pub length_checks : Format → Format → ℕ → ℕ → List Check
length_checks from to text size =
    (eqb (size + length (smallest_bytes from)) (text + length (smallest_bytes to)) otherwise WrongLength) ∷ []

-- refusals 1, 14 and 9, in checking order: "The converter checks 1, 14 and 9 only"
abbrev pub conversion_checks : Format → Format → List ℕ → ℕ → List Check
conversion_checks from to text size =
    (is_job (parse from text) otherwise TextIsNoJob)
    ∷ (has_smallest (parse from text) otherwise CannotGoBack)
    ∷ length_checks from to (length text) size

-- what a call answers for a text and a lent output, and what it leaves in the output
abbrev pub conversion : Format → Format → List ℕ → List ℕ → Outcome
conversion from to text out = first_refusal (conversion_checks from to text (length out))

-- "A refused converter leaves its output as it was, whole"
abbrev pub output_after : Format → Format → List ℕ → List ℕ → List ℕ
output_after from to text out = held_after (conversion from to text out) (converted from to text) out
