-- Worked cases: the bytes of REFERENCE's letters, separators and numbers, and of the lines that are printed. Each table has one
-- computed proof. Assumes nothing.
use mathlib.Core.Path.{◌≡◌, refl}
use mathlib.Core.List.{List, [], ◌∷◌, map}
use Prim.Native.Nat.{ℕ}
use Prim.Native.String.{String}
use lib.IntN.{ℤ, pos, negsuc}
use Rattle.limits.specs.declared.ErrorCode.{ErrorCode}
use Rattle.limits.specs.declared.ErrorCode.TheVariants.{TextIsNoJob, StepsOutOfRange, NoKernel, NumbersUsedUp}
use Rattle.kernel.specs.declared.Kernel.{Kernel}
use Rattle.job_printer.specs.Numerals.{minus_sign, digit, numeral_within, numeral, integer}
use Rattle.job_printer.specs.Fields.{tab, newline, line, row_lines}
use Rattle.job_printer.specs.Divisors.{divisor_within, common_divisor}
use Rattle.job_printer.specs.Lines.{refusal_letter, kernel_letter, picture_letter, refusal_text, kernel_text, picture_text}
use Rattle.job_printer.specs.Text.{bytes}

-- ---- ASCII: the bytes that the format knows, as numbers and as they are typed
pub ascii : bytes "\t\n-0123456789KPR" ≡ 9 ∷ 10 ∷ 45 ∷ 48 ∷ 49 ∷ 50 ∷ 51 ∷ 52 ∷ 53 ∷ 54 ∷ 55 ∷ 56 ∷ 57 ∷ 75 ∷ 80 ∷ 82 ∷ []
unfolding bytes
ascii = refl

pub named : tab ∷ newline ∷ minus_sign ∷ digit 0 ∷ digit 9 ∷ kernel_letter ∷ picture_letter ∷ refusal_letter ∷ [] ≡ bytes "\t\n-09KPR"
unfolding bytes
named = refl

-- ---- signed numbers, the ends of their types among them
abbrev pub numbers : List (ℤ × String)
numbers =
    (pos 0, "0")
    ∷ (pos 7, "7")
    ∷ (pos 10, "10")
    ∷ (pos 409, "409")
    ∷ (pos 65535, "65535")
    ∷ (pos 2147483647, "2147483647")
    ∷ (pos 4294967295, "4294967295")
    ∷ (negsuc 0, "-1")
    ∷ (negsuc 9, "-10")
    ∷ (negsuc 2147483647, "-2147483648")
    ∷ []

pub spelled : map (λ row. integer row.0) numbers ≡ map (λ row. bytes row.1) numbers
unfolding bytes numeral numeral_within
spelled = refl

-- ---- the refusal's line
abbrev pub refusals : List (ErrorCode × String)
refusals = (TextIsNoJob, "R\t1\n") ∷ (StepsOutOfRange, "R\t5\n") ∷ (NoKernel, "R\t11\n") ∷ (NumbersUsedUp, "R\t13\n") ∷ []

pub refused : map (λ row. refusal_text row.0) refusals ≡ map (λ row. bytes row.1) refusals
unfolding bytes numeral numeral_within line
refused = refl

-- ---- the kernel's line: a sum and nine weights, divided by 16, by 6 (which no weight is) and by 1
abbrev pub kernels : List (Kernel × String)
kernels =
    (record { weights = 2000 ∷ 0 ∷ 0 ∷ 0 ∷ 12384 ∷ 0 ∷ 0 ∷ 0 ∷ 2000 ∷ []; sum = 16384 }, "K\t1024\t125\t0\t0\t0\t774\t0\t0\t0\t125\n")
    ∷ (record { weights = 12 ∷ 18 ∷ 0 ∷ 0 ∷ 0 ∷ 0 ∷ 0 ∷ 0 ∷ 30 ∷ []; sum = 60 }, "K\t10\t2\t3\t0\t0\t0\t0\t0\t0\t5\n")
    ∷ (record { weights = 1 ∷ 2 ∷ 3 ∷ 4 ∷ 5 ∷ 6 ∷ 7 ∷ 8 ∷ 9 ∷ []; sum = 45 }, "K\t45\t1\t2\t3\t4\t5\t6\t7\t8\t9\n")
    ∷ []

pub divided : map (λ row. kernel_text row.0) kernels ≡ map (λ row. bytes row.1) kernels
unfolding bytes numeral numeral_within line divisor_within common_divisor
divided = refl

-- ---- a picture's lines: width, height, pixels
abbrev pub pictures : List (ℕ × ℕ × List ℕ × String)
pictures =
    (3, 2, 1 ∷ 20 ∷ 300 ∷ 4000 ∷ 50000 ∷ 65535 ∷ [], "P\t3\t2\n1\t20\t300\n4000\t50000\t65535\n")
    ∷ (1, 1, 0 ∷ [], "P\t1\t1\n0\n")
    ∷ (0, 2, [], "P\t0\t2\n")
    ∷ (2, 0, [], "P\t2\t0\n")
    ∷ []

pub drawn : map (λ row. picture_text row.0 row.1 row.2) pictures ≡ map (λ row. bytes row.3) pictures
unfolding bytes numeral numeral_within line row_lines
drawn = refl
