-- docs/REFERENCE.md, "Bench program": the lines that are printed for a refusal, a kernel and a picture. Definitions only.
use Rattle.std.specs.Prelude.{List, [], ◌∷◌, ◌++◌, map, ℕ}
use Rattle.limits.specs.Errors.{number_of}
use Rattle.limits.specs.declared.ErrorCode.{ErrorCode}
use Rattle.kernel.specs.declared.Kernel.{Kernel}
use Rattle.job_printer.specs.Numerals.{numeral}
use Rattle.job_printer.specs.Fields.{line, row_lines}
use Rattle.job_printer.specs.Divisors.{reduced}

abbrev pub refusal_letter : ℕ
refusal_letter = 82

abbrev pub kernel_letter : ℕ
kernel_letter = 75

abbrev pub picture_letter : ℕ
picture_letter = 80

-- "R and the refusal number on one line, parted by a tab"
abbrev pub refusal_text : ErrorCode → List ℕ
refusal_text code = line ((refusal_letter ∷ []) ∷ numeral (number_of code) ∷ [])

-- "K, the weights' sum and nine weights by row then column, offset −1 first in each, all divided by their greatest common
-- divisor": the weights of a kernel stand in that order
abbrev pub kernel_text : Kernel → List ℕ
kernel_text kernel = line ((kernel_letter ∷ []) ∷ map numeral (reduced (kernel.sum ∷ kernel.weights)))

-- "then P, w, h, and the rows"
abbrev pub picture_text : ℕ → ℕ → List ℕ → List ℕ
picture_text w h pixels = line ((picture_letter ∷ []) ∷ numeral w ∷ numeral h ∷ []) ++ row_lines w h pixels
