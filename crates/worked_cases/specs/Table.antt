-- docs/REFERENCE.md, "Pictures worked through", as one table: each row has what goes in and what REFERENCE says comes out, by the
-- rule of S-2 and, where that differs, by the smallest free number too. Definitions only.
use Rattle.std.specs.Prelude.{ℕ, ◌*◌, List, [], ◌∷◌, map, replicate, ℤ, pos, neg_ℤ, nat_abs, Result, Ok, Err}
use Prim.Native.String.{String}
use Rattle.limits.specs.Errors.{Outcome, outcome_number}
use Rattle.limits.specs.declared.ErrorCode.{ErrorCode}
use Rattle.kernel.specs.declared.Choice.{Choice}
use Rattle.kernel.specs.declared.Choice.TheVariants.{Binomial, Smallest}
use Rattle.kernel.specs.Molecule.{units_of}
use Rattle.kernel.specs.Choice.{free_number_by}
use Rattle.kernel.specs.declared.Kernel.{Kernel}
use Rattle.covariance.specs.declared.Shape.{Shape}
use Rattle.covariance.specs.declared.Shape.TheVariants.{Matrix}
use Rattle.covariance.specs.Answer.{shape_kernel_answer}
use Rattle.smoothing.specs.Runs.{Result as Run, run_of}
use Rattle.smoothing.specs.Shown.{shown_of}
use Rattle.job_printer.specs.Text.{bytes}
use Rattle.job_text.specs.Answer.{answer_text}

-- What goes in: a choice, a covariance, a step count and a picture. What comes out: the refusal's number (0: accepted), the free
-- number, the nine weights and their sum, and what a run leaves in its two pictures and shows of them. A refused case has no free
-- number, no weights and no sum: they stand as 0. Last, the same as the text of a job, whose last field of line one names the choice, and
-- what the bench program prints for it.
pub record Case : Type 0 where
  pub choice : Choice
  pub xx : ℤ
  pub xy : ℤ
  pub yy : ℤ
  pub steps : ℕ
  pub width : ℕ
  pub height : ℕ
  pub pixels : List ℕ
  pub answer : ℕ
  pub free : ℕ
  pub sum : ℕ
  pub weights : List ℕ
  pub first : List ℕ
  pub second : List ℕ
  pub shown : List ℕ
  pub printed : List (String × List ℕ)

abbrev pub minus : ℕ → ℤ
minus n = neg_ℤ (pos n)

-- what the second picture of a run holds before it: so many nines
abbrev pub nines : ℕ → ℕ → List ℕ
nines w h = replicate (w * h) 9

-- what is printed for a text
abbrev pub prints : String → String → List (String × List ℕ)
prints text printed = (text, bytes printed) ∷ []

-- one step from the first picture to the second
abbrev pub smooths : Choice → ℤ → ℤ → ℤ → ℕ → ℕ → List ℕ → ℕ → ℕ → List ℕ → List ℕ → List (String × List ℕ) → Case
smooths choice xx xy yy free sum weights w h pixels smoothed printed =
    record {
      choice = choice;
      xx = xx;
      xy = xy;
      yy = yy;
      steps = 1;
      width = w;
      height = h;
      pixels = pixels;
      answer = 0;
      free = free;
      sum = sum;
      weights = weights;
      first = pixels;
      second = smoothed;
      shown = smoothed;
      printed = printed;
    }

-- A case that REFERENCE gives without pixels has a picture of one pixel, 7, which every kernel leaves as it is: outside the
-- picture the nearest pixel is used, and that is always this one.
abbrev pub accepted : Choice → ℤ → ℤ → ℤ → ℕ → ℕ → ℕ → List ℕ → List (String × List ℕ) → Case
accepted choice xx xy yy k free sum weights printed =
    record {
      choice = choice;
      xx = xx;
      xy = xy;
      yy = yy;
      steps = k;
      width = 1;
      height = 1;
      pixels = 7 ∷ [];
      answer = 0;
      free = free;
      sum = sum;
      weights = weights;
      first = 7 ∷ [];
      second = 7 ∷ [];
      shown = 7 ∷ [];
      printed = printed;
    }

-- and where it is refused, both pictures keep their contents and nothing is shown
abbrev pub refused : Choice → ℤ → ℤ → ℤ → ℕ → ℕ → List (String × List ℕ) → Case
refused choice xx xy yy k answer printed =
    record {
      choice = choice;
      xx = xx;
      xy = xy;
      yy = yy;
      steps = k;
      width = 1;
      height = 1;
      pixels = 7 ∷ [];
      answer = answer;
      free = 0;
      sum = 0;
      weights = replicate 9 0;
      first = 7 ∷ [];
      second = nines 1 1;
      shown = [];
      printed = printed;
    }

-- The numbers of a K line are the sum and the weights before it, divided by hand: in a by 1024, in b by 16384, in c by 4096, in e
-- by 1, in f and k by 16, in i by 524288, in j by 8192, and in the last by 2.
abbrev pub table : List Case
table =
    -- a. "Case a's input has N at the front and b at the end of line one". "Case a then has pixels 100 in the corners, 200 at the sides, 400 in the centre, and its kernel line reads 16, then
    -- 1 2 1 2 4 2 1 2 1": half of 2048 + 2048 + 2048 − 4096 is 1024
    smooths Binomial (pos 2048) (pos 0) (pos 2048) 1024 16384 (1024 ∷ 2048 ∷ 1024 ∷ 2048 ∷ 4096 ∷ 2048 ∷ 1024 ∷ 2048 ∷ 1024 ∷ []) 3 3
    (0 ∷ 0 ∷ 0 ∷ 0 ∷ 1600 ∷ 0 ∷ 0 ∷ 0 ∷ 0 ∷ []) (100 ∷ 200 ∷ 100 ∷ 200 ∷ 400 ∷ 200 ∷ 100 ∷ 200 ∷ 100 ∷ [])
    (prints "N\t2048\t0\t2048\t1\t3\t3\tb\n0\t0\t0\n0\t1600\t0\n0\t0\t0\n"
    "K\t16\t1\t2\t1\t2\t4\t2\t1\t2\t1\nP\t3\t3\n100\t200\t100\n200\t400\t200\n100\t200\t100\n")
    -- by the smallest free number: case a as T1 has it
    ∷ smooths Smallest (pos 2048) (pos 0) (pos 2048) 0 16384 (0 ∷ 4096 ∷ 0 ∷ 4096 ∷ 0 ∷ 4096 ∷ 0 ∷ 4096 ∷ 0 ∷ []) 3 3
    (0 ∷ 0 ∷ 0 ∷ 0 ∷ 1600 ∷ 0 ∷ 0 ∷ 0 ∷ 0 ∷ []) (0 ∷ 400 ∷ 0 ∷ 400 ∷ 0 ∷ 400 ∷ 0 ∷ 400 ∷ 0 ∷ [])
    (prints "N\t2048\t0\t2048\t1\t3\t3\ts\n0\t0\t0\n0\t1600\t0\n0\t0\t0\n"
    "K\t4\t0\t1\t0\t1\t0\t1\t0\t1\t0\nP\t3\t3\n0\t400\t0\n400\t0\t400\n0\t400\t0\n")
    -- b. "Matrix 0, 0, 0, k 1: centre only"
    ∷ accepted Binomial (pos 0) (pos 0) (pos 0) 1 0 16384 (0 ∷ 0 ∷ 0 ∷ 0 ∷ 16384 ∷ 0 ∷ 0 ∷ 0 ∷ 0 ∷ [])
    (prints "N\t0\t0\t0\t1\t1\t1\tb\n7\n" "K\t1\t0\t0\t0\t0\t1\t0\t0\t0\t0\nP\t1\t1\n7\n")
    -- c. "4096, 0, 4096, k 1: f 4096, corners 4096, rest 0"
    ∷ accepted Binomial (pos 4096) (pos 0) (pos 4096) 1 4096 16384 (4096 ∷ 0 ∷ 4096 ∷ 0 ∷ 0 ∷ 0 ∷ 4096 ∷ 0 ∷ 4096 ∷ [])
    (prints "N\t4096\t0\t4096\t1\t1\t1\tb\n7\n" "K\t4\t1\t0\t1\t0\t0\t0\t1\t0\t1\nP\t1\t1\n7\n")
    -- d. "4097, 0, 4096, k 1: 11"
    ∷ refused Binomial (pos 4097) (pos 0) (pos 4096) 1 11 (prints "N\t4097\t0\t4096\t1\t1\t1\tb\n7\n" "R\t11\n")
    -- e. "The same, k 2". "Case e has f 2049 and weights 2049 in the corners, 4096 beside, 4094 above and below, 8192 in the centre"
    ∷ accepted Binomial (pos 4097) (pos 0) (pos 4096) 2 2049 32768 (2049 ∷ 4094 ∷ 2049 ∷ 4096 ∷ 8192 ∷ 4096 ∷ 2049 ∷ 4094 ∷ 2049 ∷ [])
    (prints "N\t4097\t0\t4096\t2\t1\t1\tb\n7\n" "K\t32768\t2049\t4094\t2049\t4096\t8192\t4096\t2049\t4094\t2049\nP\t1\t1\n7\n")
    -- by the smallest: "f 1, corners 1, 8192 beside, 8190 above and below, centre 0"
    ∷ accepted Smallest (pos 4097) (pos 0) (pos 4096) 2 1 32768 (1 ∷ 8190 ∷ 1 ∷ 8192 ∷ 0 ∷ 8192 ∷ 1 ∷ 8190 ∷ 1 ∷ [])
    (prints "N\t4097\t0\t4096\t2\t1\t1\ts\n7\n" "K\t32768\t1\t8190\t1\t8192\t0\t8192\t1\t8190\t1\nP\t1\t1\n7\n")
    -- f. "1000, 1000, 1000, k 1: 2000 at (1,1) and (−1,−1), centre 12384, rest 0"
    ∷ accepted Binomial (pos 1000) (pos 1000) (pos 1000) 1 1000 16384 (2000 ∷ 0 ∷ 0 ∷ 0 ∷ 12384 ∷ 0 ∷ 0 ∷ 0 ∷ 2000 ∷ [])
    (prints "N\t1000\t1000\t1000\t1\t1\t1\tb\n7\n" "K\t1024\t125\t0\t0\t0\t774\t0\t0\t0\t125\nP\t1\t1\n7\n")
    -- g. "1000, 1001, 1000, k 1: 11"
    ∷ refused Binomial (pos 1000) (pos 1001) (pos 1000) 1 11 (prints "N\t1000\t1001\t1000\t1\t1\t1\tb\n7\n" "R\t11\n")
    -- h. "−1, 0, 0, k 1: 11"
    ∷ refused Binomial (minus 1) (pos 0) (pos 0) 1 11 (prints "N\t-1\t0\t0\t1\t1\t1\tb\n7\n" "R\t11\n")
    -- i. "262144, 0, 0, k 64: accepted; k 65: 5". "never more than the smaller of xx and yy": f is 0, as it was
    ∷ accepted Binomial (pos 262144) (pos 0) (pos 0) 64 0 1048576 (0 ∷ 0 ∷ 0 ∷ 524288 ∷ 0 ∷ 524288 ∷ 0 ∷ 0 ∷ 0 ∷ [])
    (prints "N\t262144\t0\t0\t64\t1\t1\tb\n7\n" "K\t2\t0\t0\t0\t1\t0\t1\t0\t0\t0\nP\t1\t1\n7\n")
    ∷ refused Binomial (pos 262144) (pos 0) (pos 0) 65 5 (prints "N\t262144\t0\t0\t65\t1\t1\tb\n7\n" "R\t5\n")
    -- j. "Pixels 0, 1 in a row, 4096, 0, 0, k 1: 1, 1": f is 0 here too
    ∷ smooths Binomial (pos 4096) (pos 0) (pos 0) 0 16384 (0 ∷ 0 ∷ 0 ∷ 8192 ∷ 0 ∷ 8192 ∷ 0 ∷ 0 ∷ 0 ∷ []) 2 1 (0 ∷ 1 ∷ []) (1 ∷ 1 ∷ [])
    (prints "N\t4096\t0\t0\t1\t2\t1\tb\n0\t1\n" "K\t2\t0\t0\t0\t1\t0\t1\t0\t0\t0\nP\t2\t1\n1\t1\n")
    -- k. "Shape f over rows `16384 0`, `0 0`: `14384 2000`, `2000 2000`"
    ∷ smooths Binomial (pos 1000) (pos 1000) (pos 1000) 1000 16384 (2000 ∷ 0 ∷ 0 ∷ 0 ∷ 12384 ∷ 0 ∷ 0 ∷ 0 ∷ 2000 ∷ []) 2 2
    (16384 ∷ 0 ∷ 0 ∷ 0 ∷ []) (14384 ∷ 2000 ∷ 2000 ∷ 2000 ∷ [])
    (prints "N\t1000\t1000\t1000\t1\t2\t2\tb\n16384\t0\n0\t0\n" "K\t1024\t125\t0\t0\t0\t774\t0\t0\t0\t125\nP\t2\t2\n14384\t2000\n2000\t2000\n")
    -- "rounded up", where the number is odd: half of 2049 + 2049 + 2049 − 4096 is 1025 and a half
    ∷ accepted Binomial (pos 2049) (pos 0) (pos 2049) 1 1026 16384 (1026 ∷ 2046 ∷ 1026 ∷ 2046 ∷ 4096 ∷ 2046 ∷ 1026 ∷ 2046 ∷ 1026 ∷ [])
    (prints "N\t2049\t0\t2049\t1\t1\t1\tb\n7\n" "K\t8192\t513\t1023\t513\t1023\t2048\t1023\t513\t1023\t513\nP\t1\t1\n7\n")
    ∷ []

abbrev pub free_of : Outcome → ℤ → ℕ
free_of (Ok done) f = nat_abs f
free_of (Err code) f = 0

abbrev pub shape_of : Case → Shape
shape_of c = Matrix c.xx c.xy c.yy

-- what the calls are promised to answer: the kernel of the shape, the run between the two pictures, and what its reader is shown
abbrev pub kernel_for : Case → Result Kernel ErrorCode
kernel_for c = shape_kernel_answer c.choice (shape_of c) c.steps

abbrev pub run_for : Case → Run
run_for c = run_of c.choice (shape_of c) c.steps c.width c.height c.pixels (nines c.width c.height)

abbrev pub sum_in : Result Kernel ErrorCode → ℕ
sum_in (Ok kernel) = kernel.sum
sum_in (Err code) = 0

abbrev pub weights_in : Result Kernel ErrorCode → List ℕ
weights_in (Ok kernel) = kernel.weights
weights_in (Err code) = replicate 9 0

-- the row with what the definitions give for its input
unfoldable pub computed : Case → Case
computed c =
    record {
      choice = c.choice;
      xx = c.xx;
      xy = c.xy;
      yy = c.yy;
      steps = c.steps;
      width = c.width;
      height = c.height;
      pixels = c.pixels;
      answer = outcome_number (run_for c).outcome;
      free = free_of (run_for c).outcome (free_number_by c.choice c.xx c.xy c.yy (units_of c.steps));
      sum = sum_in (kernel_for c);
      weights = weights_in (kernel_for c);
      first = (run_for c).first;
      second = (run_for c).second;
      shown = shown_of (shape_of c) c.steps c.width c.height (run_for c).first (run_for c).second;
      printed = map (λ p. (p.0, answer_text (bytes p.0))) c.printed;
    }
