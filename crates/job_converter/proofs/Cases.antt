-- Worked cases: texts by their bytes, both ways, with outputs of each length, and what the calls answer and leave, in REFERENCE's numbers. An
-- output holds sevens before. Each table has one computed proof. Assumes nothing.
use mathlib.Core.Path.{◌≡◌, refl}
use mathlib.Core.List.{List, [], ◌∷◌, map}
use Prim.Native.Nat.{ℕ}
use Prim.Native.String.{String}
use lib.ListN.{length, replicate}
use Rattle.limits.specs.Errors.{outcome_number}
use Rattle.job_printer.specs.Text.{bytes}
use Rattle.job_parser.specs.Reading.{read_byte, read_digits, read_number, read_negative, read_signed, read_letter, read_choice, read_row, read_rows}
use Rattle.job_parser.specs.Parsing.{read_entries, read_sizes, read_header, read_job, parse}
use Rattle.job_parser.specs.declared.Format.{Format}
use Rattle.job_parser.specs.declared.Format.TheVariants.{J, N}
use Rattle.job_converter.specs.Conversion.{line_end, smallest_bytes, converted, conversion, output_after}

-- ---- how many bytes name the choice: "exactly two bytes more or less"
pub named : map (λ format. smallest_bytes format) (J ∷ N ∷ []) ≡ [] ∷ bytes "\ts" ∷ []
unfolding bytes
named = refl

abbrev pub sevens : ℕ → List ℕ
sevens n = replicate n 7

-- ---- a J text and the N text that it is: each converts to the other, in an output of its length
abbrev pub pairs : List (String × String)
pairs =
    -- case a of REFERENCE
    ("J\t2048\t0\t2048\t1\t3\t3\n0\t0\t0\n0\t1600\t0\n0\t0\t0\n", "N\t2048\t0\t2048\t1\t3\t3\ts\n0\t0\t0\n0\t1600\t0\n0\t0\t0\n")
    -- "k 0, w 4000000000 with h 0, or a shape without a kernel, convert": no steps; a side past every picture's; case d; a negative shape
    ∷ ("J\t0\t0\t0\t0\t1\t1\n5\n", "N\t0\t0\t0\t0\t1\t1\ts\n5\n")
    ∷ ("J\t0\t0\t0\t1\t4000000000\t0\n", "N\t0\t0\t0\t1\t4000000000\t0\ts\n")
    ∷ ("J\t4097\t0\t4096\t1\t1\t2\n7\n65535\n", "N\t4097\t0\t4096\t1\t1\t2\ts\n7\n65535\n")
    ∷ ("J\t-1\t-2147483648\t2147483647\t4294967295\t0\t0\n", "N\t-1\t-2147483648\t2147483647\t4294967295\t0\t0\ts\n")
    ∷ []

abbrev pub calls : Format → Format → List (List ℕ × List ℕ) → List (ℕ × List ℕ)
calls from to = map (λ row. (outcome_number (conversion from to row.0 row.1), output_after from to row.0 row.1))

pub forth : calls J N (map (λ row. (bytes row.0, sevens (length (bytes row.1)))) pairs) ≡ map (λ row. (0, bytes row.1)) pairs
unfolding bytes read_byte read_digits read_number read_negative read_signed read_letter read_choice read_row read_rows read_entries read_sizes read_header read_job parse line_end converted
forth = refl

pub back : calls N J (map (λ row. (bytes row.1, sevens (length (bytes row.0)))) pairs) ≡ map (λ row. (0, bytes row.0)) pairs
unfolding bytes read_byte read_digits read_number read_negative read_signed read_letter read_choice read_row read_rows read_entries read_sizes read_header read_job parse line_end converted
back = refl

-- ---- refused, with the output's length: it keeps its sevens. The right length of the first text's output is 20, of the N texts' 18
abbrev pub to_n : List (String × ℕ × ℕ)
to_n =
    ("J\t0\t0\t0\t1\t2\t1\n0\t0\n", 19, 9)
    ∷ ("J\t0\t0\t0\t1\t2\t1\n0\t0\n", 21, 9)
    ∷ ("J\t0\t0\t0\t1\t2\t1\n0\t0\n", 18, 9)
    ∷ ("J\t0\t0\t0\t1\t2\t1\n0\t0\n", 0, 9)
    -- no J text: an N text, a J text with a choice, its last newline missing, one byte more. 1 comes first
    ∷ ("N\t0\t0\t0\t1\t2\t1\ts\n0\t0\n", 22, 1)
    ∷ ("J\t0\t0\t0\t1\t2\t1\ts\n0\t0\n", 22, 1)
    ∷ ("J\t0\t0\t0\t1\t2\t1\n0\t0", 19, 1)
    ∷ ("J\t0\t0\t0\t1\t2\t1\n0\t0\n\n", 3, 1)
    ∷ []

pub refused_to_n : calls J N (map (λ row. (bytes row.0, sevens row.1)) to_n) ≡ map (λ row. (row.2, sevens row.1)) to_n
unfolding bytes read_byte read_digits read_number read_negative read_signed read_letter read_choice read_row read_rows read_entries read_sizes read_header read_job parse
refused_to_n = refl

abbrev pub to_j : List (String × ℕ × ℕ)
to_j =
    ("N\t0\t0\t0\t1\t2\t1\ts\n0\t0\n", 17, 9)
    ∷ ("N\t0\t0\t0\t1\t2\t1\ts\n0\t0\n", 19, 9)
    ∷ ("N\t0\t0\t0\t1\t2\t1\ts\n0\t0\n", 20, 9)
    -- "14, an N text with b cannot go back to J": with the right length, and with others
    ∷ ("N\t0\t0\t0\t1\t2\t1\tb\n0\t0\n", 18, 14)
    ∷ ("N\t0\t0\t0\t1\t2\t1\tb\n0\t0\n", 20, 14)
    ∷ ("N\t0\t0\t0\t1\t2\t1\tb\n0\t0\n", 0, 14)
    -- 1 comes before both: no N text, though b or s stands there
    ∷ ("N\t0\t0\t0\t1\t2\t1\tb\n0\t0", 17, 1)
    ∷ ("N\t0\t0\t0\t1\t2\t1\tsb\n0\t0\n", 19, 1)
    ∷ ("N\t0\t0\t0\t1\t2\t1\n0\t0\n", 16, 1)
    ∷ ("J\t0\t0\t0\t1\t2\t1\n0\t0\n", 16, 1)
    ∷ []

pub refused_to_j : calls N J (map (λ row. (bytes row.0, sevens row.1)) to_j) ≡ map (λ row. (row.2, sevens row.1)) to_j
unfolding bytes read_byte read_digits read_number read_negative read_signed read_letter read_choice read_row read_rows read_entries read_sizes read_header read_job parse
refused_to_j = refl
