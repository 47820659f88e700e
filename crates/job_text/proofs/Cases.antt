-- Worked cases: the refusals of a text in checking order, pictures that are not square, from the text to the whole printed answer, and
-- what a call answers in REFERENCE's numbers. REFERENCE's own pictures stand in `worked_cases`. Each table has one computed proof.
-- Assumes nothing.
use mathlib.Core.Path.{◌≡◌, refl}
use mathlib.Core.List.{List, [], ◌∷◌, map}
use Prim.Native.Nat.{ℕ}
use Prim.Native.String.{String}
use Rattle.limits.specs.declared.ErrorCode.TheVariants.{WrongLength}
use Rattle.kernel.specs.Molecule.{kernel_with}
use Rattle.kernel.specs.Existence.{kernel_exists}
use Rattle.image.specs.Image.{pixel_at, entries, rows}
use Rattle.averaging.specs.Steps.{weighted_at, step_of, iterate}
use Rattle.job_printer.specs.Numerals.{numeral_within, numeral}
use Rattle.job_printer.specs.Fields.{line, row_lines}
use Rattle.job_printer.specs.Divisors.{divisor_within, common_divisor}
use Rattle.job_printer.specs.Text.{bytes}
use Rattle.job_parser.specs.Reading.{read_byte, read_digits, read_number, read_negative, read_signed, read_letter, read_choice, read_row, read_rows}
use Rattle.job_parser.specs.Parsing.{read_entries, read_sizes, read_header, read_job, parse}
use Rattle.std.specs.Prelude.{Result, Ok, Err}
use Rattle.limits.specs.declared.ErrorCode.{ErrorCode}
use Rattle.job_text.specs.Answer.{printed_number, printed_values, job_answer, answer_text, most_bytes, answered}

-- ---- from row to row the first fault of the row before is mended; the last has no kernel, as case d of REFERENCE
abbrev pub refusals : List (String × String)
refusals =
    ("N\t4097\t0\t4096\t65\t0\t1025\tb", "R\t1\n")
    ∷ ("N\t4097\t0\t4096\t65\t0\t1025\tb\n", "R\t5\n")
    ∷ ("N\t4097\t0\t4096\t0\t0\t1025\tb\n", "R\t5\n")
    ∷ ("N\t4097\t0\t4096\t1\t0\t1025\tb\n", "R\t6\n")
    ∷ ("N\t4097\t0\t4096\t1\t1025\t0\tb\n", "R\t6\n")
    ∷ ("N\t4097\t0\t4096\t1\t1\t1\tb\n0\n", "R\t11\n")
    ∷ []

pub refused : map (λ row. answer_text (bytes row.0)) refusals ≡ map (λ row. bytes row.1) refusals
unfolding bytes kernel_exists numeral_within numeral line read_byte read_digits read_number read_negative read_signed read_letter read_choice read_row read_rows read_entries read_sizes read_header read_job parse job_answer answer_text
refused = refl

-- ---- pictures that are not square, by kernels that reach up and down: the text of a job and what is printed for it
abbrev pub jobs : List (String × String)
jobs =
    -- M is 4096 and f 0: 2 × 2048 above and below, 4 × 2048 at the centre, so 1, 2 and 1 of 4. Of rows a and b, outside which each is
    -- used again, come (3 × a + b) / 4 and (a + 3 × b) / 4: in the first column 2/4 and 6/4, halves up
    ("N\t0\t0\t2048\t1\t3\t2\tb\n0\t40\t100\n2\t80\t500\n", "K\t4\t0\t1\t0\t0\t2\t0\t0\t1\t0\nP\t3\t2\n1\t50\t200\n2\t70\t400\n")
    -- the same over three rows of two: (3 × a + b) / 4, (a + 2 × b + c) / 4 and (b + 3 × c) / 4
    ∷ ("N\t0\t0\t2048\t1\t2\t3\tb\n0\t100\n40\t20\n8\t60\n", "K\t4\t0\t1\t0\t0\t2\t0\t0\t1\t0\nP\t2\t3\n10\t80\n22\t50\n16\t50\n")
    -- two steps of a kernel that leans: M is 8192 and f 1024, so f + xy is 2048, f − xy 0, 2 × 1024 beside, 2 × 3072 above and below,
    -- 4 × 3072 at the centre; over 16: 1 and 0 in the corners, 1 beside, 3 above and below, 6. The first step leaves 110 40 80 and
    -- 40 50 220, the second has 1420, 1030, 1760 and 940, 1160, 2750 over 16, of which 1160 is 72 and a half
    ∷ ("N\t2048\t1024\t4096\t2\t3\t2\tb\n160\t0\t0\n0\t0\t320\n", "K\t16\t1\t3\t0\t1\t6\t1\t0\t3\t1\nP\t3\t2\n89\t64\t110\n59\t73\t172\n")
    ∷ []

pub smoothed : map (λ row. answer_text (bytes row.0)) jobs ≡ map (λ row. bytes row.1) jobs
unfolding bytes kernel_with kernel_exists iterate step_of weighted_at rows entries pixel_at numeral_within numeral line row_lines divisor_within common_divisor read_byte read_digits read_number read_negative read_signed read_letter read_choice read_row read_rows read_entries read_sizes read_header read_job parse job_answer answer_text
smoothed = refl

-- ---- the answers of the call: their numbers and values
abbrev pub answers : List (Result ℕ ErrorCode × ℕ × List ℕ)
answers = (Ok 54, 0, 54 ∷ []) ∷ (Err WrongLength, 9, []) ∷ []

pub numbered : map (λ row. (row.0, printed_number row.0, printed_values row.0)) answers ≡ answers
numbered = refl

-- a buffer of two bytes is refused with 9, and kept: an answer can have 49,240 bytes, 6 for each of 8,191 pixels and 94
pub short_buffer : answered (bytes "J") (7 ∷ 8 ∷ []) ≡ record { answer = Err WrongLength; out = 7 ∷ 8 ∷ [] }
unfolding answered
short_buffer = refl

pub most : most_bytes ≡ 49240
most = refl
