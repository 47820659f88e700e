-- How many bytes an answer can have. Assumes nothing.
use mathlib.Core.Path.{◌≡◌, refl, ap, ◌∙◌}
use mathlib.Core.List.{List, [], ◌∷◌, map}
use mathlib.Core.Option.{Option, some, none}
use Prim.Native.Nat.{ℕ, zero, suc, ◌+◌, ◌*◌, ◌/◌, ◌^◌, ◌≤◌, ◌<◌}
use native.Mathlib.Nat.{mul-zero, mul-suc, div-le_self, le_trans, lt_of_le_of_lt}
use native.Mathlib.Omega.{arith}
use lib.Dec.{lit<}
use lib.ListN.{length, get_or, take, drop, length-append, length-map}
use Rattle.limits.specs.Limits.{largest_pixel, longest_side, side_in_range}
use Rattle.limits.specs.Errors.{number_of, first_refusal}
use Rattle.limits.specs.declared.ErrorCode.{ErrorCode}
use Rattle.limits.specs.declared.ErrorCode.TheVariants.{TextIsNoJob, RecordOutOfOrder, VarianceOutOfRange, NotADirection, StepsOutOfRange, SideOutOfRange, NoSuchJob, StepsAreLeft, WrongLength, TooManyPixels, NoKernel, NoFreeBuffers, NumbersUsedUp, CannotGoBack}
use Rattle.limits.proofs.Laws.{both_true, in_range_lem}
use Rattle.kernel.specs.Offsets.{Offset, offsets, sum_over, total}
use Rattle.kernel.specs.Sound.{Sound}
use Rattle.kernel.specs.declared.Kernel.{Kernel}
use Rattle.kernel.proofs.Theorems.{sound_by}
use Rattle.limits.proofs.Checks.{all_hold}
use Rattle.averaging.specs.Steps.{steps_of}
use Rattle.averaging.proofs.Runs.{length_steps}
use Rattle.averaging.proofs.Bounds.{stays_pixel}
use Rattle.job_printer.specs.Numerals.{numeral}
use Rattle.job_printer.specs.Fields.{line, row_lines}
use Rattle.job_printer.specs.Divisors.{quotients, reduced, common_divisor}
use Rattle.job_printer.specs.Lines.{refusal_text, kernel_letter, kernel_text, picture_text}
use Rattle.job_printer.proofs.Numerals.{short}
use Rattle.job_parser.specs.Job.{Job, EachAtMost, InTypes}
use Rattle.job_parser.specs.Parsing.{parse}
use Rattle.job_parser.specs.declared.Format.TheVariants.{N}
use Rattle.job_parser.specs.Pictures.{most_pixels}
use Rattle.job_parser.proofs.Parsing.{text_parsed}
use Rattle.job_parser.proofs.Rows.{small_front, small_back}
use Rattle.job_parser.proofs.Bounds.{split, picture_fits}
use Rattle.job_text.specs.Answer.{job_checks, job_kernel, result_text, refusal_or, job_answer, answer_to, answer_text, most_bytes}
use Rattle.limits.specs.Errors.{Outcome}
use Rattle.std.specs.Prelude.{Ok, Err}

-- numbers below a power of ten, each with what ends its field
line_most : (k : ℕ) (ns : List ℕ) (m : ℕ) → EachAtMost m ns → m < 10 ^ suc k → length (line (map numeral ns)) ≤ suc (suc k) * length ns
unfolding line
line_most k [] m h below = omega (arith, mul-zero (suc (suc k)))
line_most k (n ∷ ns) m h below =
    let others = line_most k ns m h.1 below in
    let digits = short k n (lt_of_le_of_lt h.0 below) in
    let more : suc (suc k) * suc (length ns) ≡ suc (suc k) * length ns + suc (suc k) = mul-suc (suc (suc k)) (length ns) in
    rw (length-append, more) (omega arith)

rows_most : (w h : ℕ) (pixels : List ℕ) → EachAtMost largest_pixel pixels → length (row_lines w h pixels) ≤ 6 * length pixels
unfolding row_lines
rows_most w zero pixels small = omega arith
rows_most w (suc h) pixels small =
    let first = line_most 4 (take w pixels) largest_pixel (small_front largest_pixel w pixels small) (lit< tt) in
    let others = rows_most w h (drop w pixels) (small_back largest_pixel w pixels small) in
    rw length-append (omega (arith, split w pixels))

each_most : (m : ℕ) (l : List ℕ) → ((i : ℕ) → i < length l → get_or l i 0 ≤ m) → EachAtMost m l
each_most m [] h = tt
each_most m (a ∷ l) h = (h 0 (omega arith), each_most m l (λ i k. h (suc i) (omega arith)))

at_most : (m : ℕ) (l : List ℕ) → EachAtMost m l → (i : ℕ) → i < length l → get_or l i 0 ≤ m
at_most m [] h i k = absurd (omega arith)
at_most m (a ∷ l) h zero k = h.0
at_most m (a ∷ l) h (suc i) k = at_most m l h.1 i (omega arith)

two_digits : (code : ErrorCode) → number_of code < 10 ^ 2
two_digits TextIsNoJob = lit< tt
two_digits RecordOutOfOrder = lit< tt
two_digits VarianceOutOfRange = lit< tt
two_digits NotADirection = lit< tt
two_digits StepsOutOfRange = lit< tt
two_digits SideOutOfRange = lit< tt
two_digits NoSuchJob = lit< tt
two_digits StepsAreLeft = lit< tt
two_digits WrongLength = lit< tt
two_digits TooManyPixels = lit< tt
two_digits NoKernel = lit< tt
two_digits NoFreeBuffers = lit< tt
two_digits NumbersUsedUp = lit< tt
two_digits CannotGoBack = lit< tt

pub refusal_most : (code : ErrorCode) → length (refusal_text code) ≤ most_bytes
unfolding line
refusal_most code = simp length-append (omega (arith, short 1 (number_of code) (two_digits code)))

-- a weight is at most the sum of all
raised : (m n : ℕ) (ws : List ℕ) → m ≤ n → EachAtMost m ws → EachAtMost n ws
raised m n [] h k = tt
raised m n (w ∷ ws) h k = (le_trans k.0 h, raised m n ws h k.1)

each_of_sum : (ds : List Offset) (ws : List ℕ) → length ws ≡ length ds → EachAtMost (sum_over ◌+◌ 0 (λ d w. w) ds ws) ws
each_of_sum [] [] e = tt
each_of_sum [] (w ∷ ws) e = absurd (omega arith)
each_of_sum (d ∷ ds) [] e = tt
each_of_sum (d ∷ ds) (w ∷ ws) e = (omega arith, raised (sum_over ◌+◌ 0 (λ d w. w) ds ws) (w + sum_over ◌+◌ 0 (λ d w. w) ds ws) ws (omega arith) (each_of_sum ds ws (omega arith)))

quotients_most : (m d : ℕ) (ns : List ℕ) → EachAtMost m ns → EachAtMost m (quotients d ns)
quotients_most m d [] h = tt
quotients_most m d (n ∷ ns) h = (le_trans (div-le_self n d) h.0, quotients_most m d ns h.1)

-- a line that begins with a letter
letter_line : (letter : ℕ) (fields : List (List ℕ)) → 0 < length fields → length (line ((letter ∷ []) ∷ fields)) ≡ 2 + length (line fields)
unfolding line
letter_line letter (field ∷ fields) h = omega arith
letter_line letter [] h = absurd (omega arith)

largest_sum : ℕ
largest_sum = 1048576

kernel_most : (kernel : Kernel) (k : ℕ) → Sound kernel k → length (kernel_text kernel) ≤ 82
unfolding largest_sum
kernel_most kernel k sound =
    let ten : List ℕ = kernel.sum ∷ kernel.weights in
    let sum-most : kernel.sum ≤ largest_sum = omega (arith, sound.sum, sound.high) in
    let weights-most = raised (total kernel.weights) largest_sum kernel.weights (omega (arith, sound.whole, sound.high)) (each_of_sum offsets kernel.weights sound.nine) in
    let each : EachAtMost largest_sum (reduced ten) = quotients_most largest_sum (common_divisor ten) ten (sum-most, weights-most) in
    let count : length (reduced ten) ≡ 10 = length-map ten (λ n. n / common_divisor ten) ∙ ap suc sound.nine in
    let fields : length (map numeral (reduced ten)) ≡ 10 = length-map (reduced ten) numeral ∙ count in
    omega (arith, letter_line kernel_letter (map numeral (reduced ten)) (omega arith), line_most 6 (reduced ten) largest_sum each (lit< tt))

picture_most : (w h : ℕ) (pixels : List ℕ) → w ≤ longest_side → h ≤ longest_side → length pixels ≤ most_pixels → EachAtMost largest_pixel pixels → length (picture_text w h pixels) ≤ 49158
unfolding line
picture_most w h pixels wide high count small =
    simp length-append (omega (arith, short 3 w (lt_of_le_of_lt wide (lit< tt)), short 3 h (lt_of_le_of_lt high (lit< tt)), rows_most w h pixels small))

-- the job's own checks
module _ (job : Job) (types : InTypes N job) (count : length job.pixels ≤ most_pixels) where
  result_most : first_refusal (job_checks job.header) ≡ Ok tt → length (result_text job.header job.pixels) ≤ most_bytes
  result_most e =
      let h = job.header in
      let kernel = job_kernel h in
      let holds = all_hold (job_checks h) e in
      let sides = both_true (side_in_range h.width) (side_in_range h.height) holds.1.0 in
      let good = sound_by h.choice h.covariance.xx h.covariance.xy h.covariance.yy h.steps holds.0 holds.1.1.0 in
      let after = steps_of kernel h.width h.height h.steps job.pixels in
      let long : length after ≡ h.width * h.height = length_steps kernel h.width h.height job.pixels types.count h.steps in
      let small = each_most largest_pixel after (λ i l. stays_pixel kernel h.steps good h.width h.height job.pixels types.count (at_most largest_pixel job.pixels types.pixels) h.steps i (rw long at l)) in
      let picture = picture_most h.width h.height after (in_range_lem 1 longest_side h.width sides.0).1 (in_range_lem 1 longest_side h.height sides.1).1 (omega (arith, long, types.count, count)) small in
      rw length-append (omega (arith, kernel_most kernel h.steps good, picture))

  answer_most : length (job_answer job.header job.pixels) ≤ most_bytes
  unfolding job_answer
  answer_most = go (first_refusal (job_checks job.header)) refl
    where
      go : (o : Outcome) → first_refusal (job_checks job.header) ≡ o → length (refusal_or o (result_text job.header job.pixels)) ≤ most_bytes
      go (Ok done) e = result_most e
      go (Err code) e = refusal_most code

-- NO ANSWER IS LONGER
pub answer_short : (text : List ℕ) → length (answer_text text) ≤ most_bytes
unfolding answer_text
answer_short text = go (parse N text) refl
  where
    go : (o : Option Job) → parse N text ≡ o → length (answer_to o) ≤ most_bytes
    go (some job) e = let is = text_parsed N text job e in answer_most job is.types (picture_fits N text job is)
    go none e = refusal_most TextIsNoJob
