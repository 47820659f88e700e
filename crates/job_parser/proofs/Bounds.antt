-- How many pixels a text can have. Assumes nothing.
use mathlib.Core.Path.{◌≡◌, sym, ap, ◌∙◌}
use mathlib.Core.List.{List}
use Prim.Native.Nat.{ℕ, zero, suc, ◌+◌, ◌*◌, ◌≤◌}
use native.Mathlib.Nat.{mul-zero, mul-suc}
use native.Mathlib.Omega.{arith}
use lib.ListN.{length, take, drop, length-append, length-drop, take-append-drop}
use Rattle.job_printer.specs.Fields.{row_lines}
use Rattle.job_parser.specs.Job.{Job, IsText}
use Rattle.job_parser.specs.declared.Format.{Format}
use Rattle.job_parser.specs.declared.Format.TheVariants.{J, N}
use Rattle.job_parser.specs.Formats.{longest_of}
use Rattle.job_parser.specs.Pictures.{most_pixels}
use Rattle.job_parser.proofs.Parsing.{header_long}
use Rattle.job_parser.proofs.Rows.{line_long}

pub split : (n : ℕ) (l : List ℕ) → length (take n l) + length (drop n l) ≡ length l
split n l = sym (length-append (take n l) (drop n l)) ∙ ap length (take-append-drop n l)

rows_long : (w h : ℕ) (pixels : List ℕ) → length pixels ≡ w * h → 2 * length pixels ≤ length (row_lines w h pixels)
unfolding row_lines
rows_long w zero pixels e = omega (arith, mul-zero w)
rows_long w (suc h) pixels e =
    let rest : length (drop w pixels) ≡ w * h = rw length-drop (omega (arith, mul-suc w h)) in
    let more = rows_long w h (drop w pixels) rest in
    rw length-append (omega (arith, line_long (take w pixels), split w pixels))

-- no text of either format is longer than an N text
pub at_longest : (format : Format) → longest_of format ≤ longest_of N
at_longest J = omega arith
at_longest N = omega arith

-- EACH PIXEL TAKES AT LEAST A DIGIT AND A SEPARATOR, and line one 14 bytes
pub pixels_fit : (format : Format) (text : List ℕ) (job : Job) → IsText format text job → 2 * length job.pixels + 14 ≤ length text
pixels_fit format text job is =
    let h = job.header in
    rw (is.bytes, length-append) (omega (arith, header_long format h, rows_long h.width h.height job.pixels is.types.count))

-- so that two pictures of 8,191 pixels are enough for every job text
pub picture_fits : (format : Format) (text : List ℕ) (job : Job) → IsText format text job → length job.pixels ≤ most_pixels
picture_fits format text job is = omega (arith, pixels_fit format text job is, is.short, at_longest format)
