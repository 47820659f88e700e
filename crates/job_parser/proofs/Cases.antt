-- Worked cases: texts and the jobs that they are, both ways; the ends of each type; and texts that are no job. Each table has one
-- computed proof. Assumes nothing.
use mathlib.Core.Path.{◌≡◌, refl}
use mathlib.Core.List.{List, [], ◌∷◌, map}
use mathlib.Core.Option.{some, none}
use Prim.Native.Nat.{ℕ, ◌<◌}
use Prim.Native.String.{String}
use borrow.Author.Tests.{lt-leb}
use lib.ListN.{length}
use lib.IntN.{ℤ, pos, negsuc}
use Rattle.kernel.specs.declared.Choice.{Choice}
use Rattle.kernel.specs.declared.Choice.TheVariants.{Binomial, Smallest}
use Rattle.job_printer.specs.Numerals.{numeral_within, numeral}
use Rattle.job_printer.specs.Fields.{newline, line, row_lines}
use Rattle.job_printer.specs.Text.{bytes}
use Rattle.job_parser.specs.declared.Format.{Format}
use Rattle.job_parser.specs.declared.Format.TheVariants.{J, N}
use Rattle.job_parser.specs.Formats.{letter_of, longest_of, choice_letter}
use Rattle.job_parser.specs.Job.{Job, text_of, most_unsigned, most_positive, most_negative}
use Rattle.job_parser.specs.Reading.{found, nothing, read_byte, read_digits, read_number, read_negative, read_signed, read_letter, read_choice, read_row, read_rows}
use Rattle.job_parser.specs.Parsing.{read_entries, read_sizes, read_header, read_job, parse}
use Rattle.job_parser.specs.Pictures.{most_pixels}

-- ---- the limits, as REFERENCE's numbers: "An N text may have 16,386 bytes; a J text has at most 16,384, as before", unsigned and signed
-- 32-bit, and the pixels for which a text has room: (16,386 − 4) / 2, each with one digit and a separator
pub limits : longest_of J ∷ longest_of N ∷ most_unsigned ∷ most_positive ∷ most_negative ∷ most_pixels ∷ [] ≡ 16384 ∷ 16386 ∷ 4294967295 ∷ 2147483647 ∷ 2147483648 ∷ 8191 ∷ []
limits = refl

-- the letters: "s for smallest, b for the rule of S-2"
pub letters : letter_of J ∷ letter_of N ∷ choice_letter Smallest ∷ choice_letter Binomial ∷ [] ≡ bytes "JNsb"
unfolding bytes
letters = refl

-- "a longer text is no job"
pub too_long : (text : List ℕ) → 16386 < length text → parse N text ≡ none
unfolding parse
too_long text h = rw (lt-leb (length text) (longest_of N) h)

pub too_long_archived : (text : List ℕ) → 16384 < length text → parse J text ≡ none
unfolding parse
too_long_archived text h = rw (lt-leb (length text) (longest_of J) h)

-- ---- a text and its job
abbrev pub job : ℤ → ℤ → ℤ → ℕ → ℕ → ℕ → Choice → List ℕ → Job
job xx xy yy k w h choice pixels = record { header = record { covariance = record { xx = xx; xy = xy; yy = yy }; steps = k; width = w; height = h; choice = choice }; pixels = pixels }

abbrev pub jobs : List (Format × String × Job)
jobs =
    (J, "J\t2048\t0\t2048\t1\t3\t3\n0\t0\t0\n0\t1600\t0\n0\t0\t0\n", job (pos 2048) (pos 0) (pos 2048) 1 3 3 Smallest (0 ∷ 0 ∷ 0 ∷ 0 ∷ 1600 ∷ 0 ∷ 0 ∷ 0 ∷ 0 ∷ []))
    ∷ (N, "N\t2048\t0\t2048\t1\t3\t3\ts\n0\t0\t0\n0\t1600\t0\n0\t0\t0\n", job (pos 2048) (pos 0) (pos 2048) 1 3 3 Smallest (0 ∷ 0 ∷ 0 ∷ 0 ∷ 1600 ∷ 0 ∷ 0 ∷ 0 ∷ 0 ∷ []))
    ∷ (N, "N\t2048\t0\t2048\t1\t3\t3\tb\n0\t0\t0\n0\t1600\t0\n0\t0\t0\n", job (pos 2048) (pos 0) (pos 2048) 1 3 3 Binomial (0 ∷ 0 ∷ 0 ∷ 0 ∷ 1600 ∷ 0 ∷ 0 ∷ 0 ∷ 0 ∷ []))
    ∷ (J, "J\t1\t-2\t3\t4\t3\t2\n5\t6\t7\n8\t9\t65535\n", job (pos 1) (negsuc 1) (pos 3) 4 3 2 Smallest (5 ∷ 6 ∷ 7 ∷ 8 ∷ 9 ∷ 65535 ∷ []))
    ∷ (N, "N\t1\t-2\t3\t4\t3\t2\ts\n5\t6\t7\n8\t9\t65535\n", job (pos 1) (negsuc 1) (pos 3) 4 3 2 Smallest (5 ∷ 6 ∷ 7 ∷ 8 ∷ 9 ∷ 65535 ∷ []))
    ∷ (N, "N\t1\t-2\t3\t4\t3\t2\tb\n5\t6\t7\n8\t9\t65535\n", job (pos 1) (negsuc 1) (pos 3) 4 3 2 Binomial (5 ∷ 6 ∷ 7 ∷ 8 ∷ 9 ∷ 65535 ∷ []))
    -- the ends of the types
    ∷ (J, "J\t2147483647\t-2147483648\t-1\t4294967295\t4294967295\t0\n", job (pos 2147483647) (negsuc 2147483647) (negsuc 0) 4294967295 4294967295 0 Smallest [])
    ∷ (N, "N\t2147483647\t-2147483648\t-1\t4294967295\t4294967295\t0\ts\n", job (pos 2147483647) (negsuc 2147483647) (negsuc 0) 4294967295 4294967295 0 Smallest [])
    ∷ (N, "N\t2147483647\t-2147483648\t-1\t4294967295\t4294967295\t0\tb\n", job (pos 2147483647) (negsuc 2147483647) (negsuc 0) 4294967295 4294967295 0 Binomial [])
    ∷ (J, "J\t-2147483648\t2147483647\t-2147483648\t0\t0\t0\n", job (negsuc 2147483647) (pos 2147483647) (negsuc 2147483647) 0 0 0 Smallest [])
    ∷ (N, "N\t-2147483648\t2147483647\t-2147483648\t0\t0\t0\ts\n", job (negsuc 2147483647) (pos 2147483647) (negsuc 2147483647) 0 0 0 Smallest [])
    ∷ (N, "N\t-2147483648\t2147483647\t-2147483648\t0\t0\t0\tb\n", job (negsuc 2147483647) (pos 2147483647) (negsuc 2147483647) 0 0 0 Binomial [])
    -- "where w or h is 0 no pixel line follows"
    ∷ (J, "J\t0\t0\t2147483647\t1\t0\t3\n", job (pos 0) (pos 0) (pos 2147483647) 1 0 3 Smallest [])
    ∷ (N, "N\t0\t0\t2147483647\t1\t0\t3\ts\n", job (pos 0) (pos 0) (pos 2147483647) 1 0 3 Smallest [])
    ∷ (N, "N\t0\t0\t2147483647\t1\t0\t3\tb\n", job (pos 0) (pos 0) (pos 2147483647) 1 0 3 Binomial [])
    ∷ []

pub parsed : map (λ row. parse row.0 (bytes row.1)) jobs ≡ map (λ row. some row.2) jobs
unfolding bytes read_byte read_digits read_number read_negative read_signed read_letter read_choice read_row read_rows read_entries read_sizes read_header read_job parse
parsed = refl

pub written : map (λ row. text_of row.0 row.2) jobs ≡ map (λ row. bytes row.1) jobs
unfolding bytes numeral numeral_within line row_lines
written = refl

-- the largest height, by itself: so many rows are too many to compute
pub highest : map (λ text. read_sizes newline (bytes text)) ("1\t0\t4294967295\n" ∷ "1\t0\t4294967296\n" ∷ [])
    ≡ found (record { steps = 1; width = 0; height = 4294967295 }) [] ∷ nothing ∷ []
unfolding bytes read_byte read_digits read_number read_sizes
highest = refl

-- ---- no job, each for one fault; without it the text is "J\t0\t0\t0\t1\t2\t1\n0\t0\n" or "N\t0\t0\t0\t1\t2\t1\ts\n0\t0\n"
abbrev pub faulty : List (Format × String)
faulty =
    (J, "")
    ∷ (N, "")
    -- the letter
    ∷ (J, "K\t0\t0\t0\t1\t2\t1\n0\t0\n")
    ∷ (N, "K\t0\t0\t0\t1\t2\t1\ts\n0\t0\n")
    ∷ (J, "j\t0\t0\t0\t1\t2\t1\n0\t0\n")
    ∷ (N, "n\t0\t0\t0\t1\t2\t1\ts\n0\t0\n")
    ∷ (J, "\t0\t0\t0\t1\t2\t1\n0\t0\n")
    ∷ (N, "\t0\t0\t0\t1\t2\t1\ts\n0\t0\n")
    -- a field more, a field less, an empty one
    ∷ (J, "J\t0\t0\t0\t0\t1\t2\t1\n0\t0\n")
    ∷ (N, "N\t0\t0\t0\t0\t1\t2\t1\ts\n0\t0\n")
    ∷ (J, "J\t0\t0\t1\t2\t1\n0\t0\n")
    ∷ (N, "N\t0\t0\t1\t2\t1\ts\n0\t0\n")
    ∷ (J, "J\t\t0\t0\t1\t2\t1\n0\t0\n")
    ∷ (N, "N\t\t0\t0\t1\t2\t1\ts\n0\t0\n")
    ∷ (J, "J\t0\t0\t0\t\t2\t1\n0\t0\n")
    ∷ (N, "N\t0\t0\t0\t\t2\t1\ts\n0\t0\n")
    -- separators
    ∷ (J, "J\t\t0\t0\t0\t1\t2\t1\n0\t0\n")
    ∷ (N, "N\t\t0\t0\t0\t1\t2\t1\ts\n0\t0\n")
    ∷ (J, "J 0\t0\t0\t1\t2\t1\n0\t0\n")
    ∷ (N, "N 0\t0\t0\t1\t2\t1\ts\n0\t0\n")
    ∷ (J, "J\t0\t0\t0\t1\t2\t1\n0 0\n")
    ∷ (N, "N\t0\t0\t0\t1\t2\t1\ts\n0 0\n")
    ∷ (J, "J\t0\t0\t0\t1\t2\t1 \n0\t0\n")
    ∷ (N, "N\t0\t0\t0\t1\t2\t1\ts \n0\t0\n")
    ∷ (J, "J\t0\t0\t0\t1\t2\t1\t0\t0\n")
    ∷ (N, "N\t0\t0\t0\t1\t2\t1\ts\t0\t0\n")
    ∷ (J, "J\t0\t0\t0\t1\t2\t1\n0\t0\t")
    ∷ (N, "N\t0\t0\t0\t1\t2\t1\ts\n0\t0\t")
    ∷ (J, "J\t0\t0\t0\t1\t2\t1\r\n0\t0\n")
    ∷ (N, "N\t0\t0\t0\t1\t2\t1\ts\r\n0\t0\n")
    -- the last newline missing, and one byte more
    ∷ (J, "J\t0\t0\t0\t1\t2\t1\n0\t0")
    ∷ (N, "N\t0\t0\t0\t1\t2\t1\ts\n0\t0")
    ∷ (J, "J\t0\t0\t0\t1\t2\t1\n0\t0\n\n")
    ∷ (N, "N\t0\t0\t0\t1\t2\t1\ts\n0\t0\n\n")
    ∷ (J, "J\t0\t0\t0\t1\t2\t1\n0\t0\n0")
    ∷ (N, "N\t0\t0\t0\t1\t2\t1\ts\n0\t0\n0")
    -- a pixel less, a pixel more, a line of none
    ∷ (J, "J\t0\t0\t0\t1\t2\t1\n0\n")
    ∷ (N, "N\t0\t0\t0\t1\t2\t1\ts\n0\n")
    ∷ (J, "J\t0\t0\t0\t1\t2\t1\n0\t0\t0\n")
    ∷ (N, "N\t0\t0\t0\t1\t2\t1\ts\n0\t0\t0\n")
    ∷ (J, "J\t0\t0\t0\t1\t0\t1\n\n")
    ∷ (N, "N\t0\t0\t0\t1\t0\t1\ts\n\n")
    -- plus, leading zero, minus zero, a minus where none may stand, no digit
    ∷ (J, "J\t+1\t0\t0\t1\t2\t1\n0\t0\n")
    ∷ (N, "N\t+1\t0\t0\t1\t2\t1\ts\n0\t0\n")
    ∷ (J, "J\t00\t0\t0\t1\t2\t1\n0\t0\n")
    ∷ (N, "N\t00\t0\t0\t1\t2\t1\ts\n0\t0\n")
    ∷ (J, "J\t-01\t0\t0\t1\t2\t1\n0\t0\n")
    ∷ (N, "N\t-01\t0\t0\t1\t2\t1\ts\n0\t0\n")
    ∷ (J, "J\t-0\t0\t0\t1\t2\t1\n0\t0\n")
    ∷ (N, "N\t-0\t0\t0\t1\t2\t1\ts\n0\t0\n")
    ∷ (J, "J\t-\t0\t0\t1\t2\t1\n0\t0\n")
    ∷ (N, "N\t-\t0\t0\t1\t2\t1\ts\n0\t0\n")
    ∷ (J, "J\t--1\t0\t0\t1\t2\t1\n0\t0\n")
    ∷ (N, "N\t--1\t0\t0\t1\t2\t1\ts\n0\t0\n")
    ∷ (J, "J\t0\t0\t0\t-1\t2\t1\n0\t0\n")
    ∷ (N, "N\t0\t0\t0\t-1\t2\t1\ts\n0\t0\n")
    ∷ (J, "J\t0\t0\t0\t01\t2\t1\n0\t0\n")
    ∷ (N, "N\t0\t0\t0\t01\t2\t1\ts\n0\t0\n")
    ∷ (J, "J\t0\t0\t0\t1\t2\t1\n07\t0\n")
    ∷ (N, "N\t0\t0\t0\t1\t2\t1\ts\n07\t0\n")
    ∷ (J, "J\t0\t0\t0\t1\t2\t1\n0\t-1\n")
    ∷ (N, "N\t0\t0\t0\t1\t2\t1\ts\n0\t-1\n")
    -- the bytes before and after the digits
    ∷ (J, "J\t0\t0\t0\t1\t2\t1\n1/\t0\n")
    ∷ (N, "N\t0\t0\t0\t1\t2\t1\ts\n1/\t0\n")
    ∷ (J, "J\t0\t0\t0\t1\t2\t1\n1:\t0\n")
    ∷ (N, "N\t0\t0\t0\t1\t2\t1\ts\n1:\t0\n")
    -- one past the end of each type
    ∷ (J, "J\t2147483648\t0\t0\t1\t2\t1\n0\t0\n")
    ∷ (N, "N\t2147483648\t0\t0\t1\t2\t1\ts\n0\t0\n")
    ∷ (J, "J\t-2147483649\t0\t0\t1\t2\t1\n0\t0\n")
    ∷ (N, "N\t-2147483649\t0\t0\t1\t2\t1\ts\n0\t0\n")
    ∷ (J, "J\t0\t2147483648\t0\t1\t2\t1\n0\t0\n")
    ∷ (N, "N\t0\t2147483648\t0\t1\t2\t1\ts\n0\t0\n")
    ∷ (J, "J\t0\t0\t-2147483649\t1\t2\t1\n0\t0\n")
    ∷ (N, "N\t0\t0\t-2147483649\t1\t2\t1\ts\n0\t0\n")
    ∷ (J, "J\t0\t0\t0\t4294967296\t2\t1\n0\t0\n")
    ∷ (N, "N\t0\t0\t0\t4294967296\t2\t1\ts\n0\t0\n")
    ∷ (J, "J\t0\t0\t0\t1\t4294967296\t0\n")
    ∷ (N, "N\t0\t0\t0\t1\t4294967296\t0\ts\n")
    ∷ (J, "J\t0\t0\t0\t1\t2\t1\n65536\t0\n")
    ∷ (N, "N\t0\t0\t0\t1\t2\t1\ts\n65536\t0\n")
    ∷ (J, "J\t0\t0\t0\t1\t2\t1\n0\t65536\n")
    ∷ (N, "N\t0\t0\t0\t1\t2\t1\ts\n0\t65536\n")
    -- the choice: none, empty, another letter, both, a field more, something after it, no tab before it
    ∷ (N, "N\t0\t0\t0\t1\t2\t1\n0\t0\n")
    ∷ (N, "N\t0\t0\t0\t1\t2\t1\t\n0\t0\n")
    ∷ (N, "N\t0\t0\t0\t1\t2\t1\tS\n0\t0\n")
    ∷ (N, "N\t0\t0\t0\t1\t2\t1\tB\n0\t0\n")
    ∷ (N, "N\t0\t0\t0\t1\t2\t1\tc\n0\t0\n")
    ∷ (N, "N\t0\t0\t0\t1\t2\t1\tr\n0\t0\n")
    ∷ (N, "N\t0\t0\t0\t1\t2\t1\tt\n0\t0\n")
    ∷ (N, "N\t0\t0\t0\t1\t2\t1\ta\n0\t0\n")
    ∷ (N, "N\t0\t0\t0\t1\t2\t1\tsb\n0\t0\n")
    ∷ (N, "N\t0\t0\t0\t1\t2\t1\tss\n0\t0\n")
    ∷ (N, "N\t0\t0\t0\t1\t2\t1\tb\ts\n0\t0\n")
    ∷ (N, "N\t0\t0\t0\t1\t2\t1\ts\t\n0\t0\n")
    ∷ (N, "N\t0\t0\t0\t1\t2\t1\ts0\t0\n")
    ∷ (N, "N\t0\t0\t0\t1\t2\t1\ts")
    ∷ (N, "N\t0\t0\t0\t1\t2\t1s\n0\t0\n")
    ∷ (N, "N\t0\t0\t0\t1\t2\t1\t\ts\n0\t0\n")
    ∷ (N, "N\t0\t0\t0\t1\t2\t1 s\n0\t0\n")
    ∷ (N, "N\t0\t0\t0\t1\t2\t1\t1\n0\t0\n")
    -- a text of the other format, and the letter of one with the fields of the other
    ∷ (J, "N\t0\t0\t0\t1\t2\t1\ts\n0\t0\n")
    ∷ (J, "J\t0\t0\t0\t1\t2\t1\ts\n0\t0\n")
    ∷ (J, "J\t0\t0\t0\t1\t2\t1\tb\n0\t0\n")
    ∷ (J, "N\t0\t0\t0\t1\t2\t1\n0\t0\n")
    ∷ (N, "J\t0\t0\t0\t1\t2\t1\n0\t0\n")
    ∷ (N, "J\t0\t0\t0\t1\t2\t1\ts\n0\t0\n")
    ∷ []

pub no_jobs : map (λ row. parse row.0 (bytes row.1)) faulty ≡ map (λ row. none) faulty
unfolding bytes read_byte read_digits read_number read_negative read_signed read_letter read_choice read_row read_rows read_entries read_sizes read_header read_job parse
no_jobs = refl
