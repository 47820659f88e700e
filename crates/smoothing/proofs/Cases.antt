-- Worked cases: the order of the refusals of a run, what short runs leave in both pictures and show, and the same within one picture. Each table has one
-- computed proof. Assumes nothing.
use mathlib.Core.Path.{◌≡◌, refl}
use mathlib.Core.Bool.{false}
use mathlib.Core.List.{List, [], ◌∷◌, map}
use Prim.Native.Nat.{ℕ}
use lib.IntN.{pos}
use lib.Ieee.{Float, nan, fin, add, mul, le}
use Rattle.limits.specs.Errors.{first_refusal, outcome_number}
use Rattle.kernel.specs.declared.Choice.{Choice}
use Rattle.kernel.specs.declared.Choice.TheVariants.{Binomial, Smallest}
use Rattle.kernel.specs.Molecule.{kernel_with}
use Rattle.kernel.specs.Existence.{kernel_exists}
use Rattle.image.specs.Image.{pixel_at, entries, rows}
use Rattle.covariance.specs.declared.Direction.{Direction}
use Rattle.covariance.specs.declared.Shape.{Shape}
use Rattle.covariance.specs.declared.Shape.TheVariants.{Matrix, Oval}
use Rattle.covariance.specs.Floats.{in_range}
use Rattle.covariance.specs.Units.{nearest_units}
use Rattle.covariance.specs.Shapes.{variance_in_range, cosine_in_range, square_in_range, direction_in_range, variances_fine, direction_fine, covariance_xx, covariance_xy, covariance_yy}
use Rattle.averaging.specs.Steps.{weighted_at, step_of, iterate}
use Rattle.smoothing.specs.Runs.{run_checks, Result, run_of}
use Rattle.smoothing.specs.Shown.{shown_of}
use Rattle.smoothing.specs.InPlace.{in_place_outcome, in_place_after}

-- ---- a shape, k, w, h, the lengths of the two pictures, and the number of the first refusal that applies: from row to row the
-- first fault of the row before is mended
pub record Request : Type 0 where
  pub shape : Shape
  pub steps : ℕ
  pub width : ℕ
  pub height : ℕ
  pub first : ℕ
  pub second : ℕ
  pub refusal : ℕ

abbrev pub request : Shape → ℕ → ℕ → ℕ → ℕ → ℕ → ℕ → Request
request shape k w h n m r = record { shape = shape; steps = k; width = w; height = h; first = n; second = m; refusal = r }

abbrev pub one : Float
one = fin false 1 (pos 0)

abbrev pub two : Float
two = fin false 1 (pos 1)

abbrev pub towards : Float → Float → Direction
towards c s = record { cosine = c; sine = s }

abbrev pub requests : List Request
requests =
    request (Oval nan one (towards two two)) 0 0 0 1 1 3
    ∷ request (Oval one one (towards two two)) 0 0 0 1 1 4
    ∷ request (Oval one one (towards one (fin false 0 (pos 0)))) 0 0 0 1 1 5
    ∷ request (Matrix (pos 4097) (pos 0) (pos 4096)) 65 0 0 1 1 5
    ∷ request (Matrix (pos 4097) (pos 0) (pos 4096)) 1 0 3 1 1 6
    ∷ request (Matrix (pos 4097) (pos 0) (pos 4096)) 1 3 1025 1 1 6
    ∷ request (Matrix (pos 4097) (pos 0) (pos 4096)) 1 3 3 10 8 9
    ∷ request (Matrix (pos 4097) (pos 0) (pos 4096)) 1 3 3 9 8 9
    ∷ request (Matrix (pos 4097) (pos 0) (pos 4096)) 1 3 3 9 9 11
    ∷ request (Matrix (pos 4097) (pos 0) (pos 4096)) 2 3 3 9 9 0
    ∷ request (Matrix (pos 4097) (pos 0) (pos 4096)) 64 1024 1024 1048576 1048576 0
    ∷ []

pub requested : map (λ r. outcome_number (first_refusal (run_checks r.shape r.steps r.width r.height r.first r.second))) requests
    ≡ map (λ r. r.refusal) requests
unfolding variances_fine direction_fine variance_in_range direction_in_range cosine_in_range square_in_range in_range covariance_xx covariance_xy covariance_yy nearest_units kernel_exists add mul le
requested = refl

-- ---- k steps of a covariance xx, 0, 0 over the row 0 4 0 0, the second picture full of nines: xx, k, the two pictures after the
-- run, and what is shown of them. With xx = 4096 × k each step goes half to the left and half to the right. After 65 steps, and
-- where no kernel exists, nothing has changed, and nothing is shown. The free number is 0 by either choice, since yy is.
abbrev pub pushes : ℕ → Shape
pushes xx = Matrix (pos xx) (pos 0) (pos 0)

abbrev pub after : Choice → ℕ → ℕ → Result
after choice xx k = run_of choice (pushes xx) k 4 1 (0 ∷ 4 ∷ 0 ∷ 0 ∷ []) (9 ∷ 9 ∷ 9 ∷ 9 ∷ [])

abbrev pub runs : List (ℕ × ℕ × List ℕ × List ℕ × List ℕ)
runs =
    (4096, 1, 0 ∷ 4 ∷ 0 ∷ 0 ∷ [], 2 ∷ 0 ∷ 2 ∷ 0 ∷ [], 2 ∷ 0 ∷ 2 ∷ 0 ∷ [])
    ∷ (8192, 2, 1 ∷ 2 ∷ 0 ∷ 1 ∷ [], 2 ∷ 0 ∷ 2 ∷ 0 ∷ [], 1 ∷ 2 ∷ 0 ∷ 1 ∷ [])
    ∷ (12288, 3, 1 ∷ 2 ∷ 0 ∷ 1 ∷ [], 2 ∷ 1 ∷ 2 ∷ 1 ∷ [], 2 ∷ 1 ∷ 2 ∷ 1 ∷ [])
    ∷ (266240, 65, 0 ∷ 4 ∷ 0 ∷ 0 ∷ [], 9 ∷ 9 ∷ 9 ∷ 9 ∷ [], [])
    ∷ (8193, 2, 0 ∷ 4 ∷ 0 ∷ 0 ∷ [], 9 ∷ 9 ∷ 9 ∷ 9 ∷ [], [])
    ∷ []

pub ran : (choice : Choice) → map (λ row. let a = after choice row.0 row.1 in
    (row.0, row.1, a.first, a.second, shown_of (pushes row.0) row.1 4 1 a.first a.second)) runs
    ≡ runs
unfolding variances_fine direction_fine covariance_xx covariance_xy covariance_yy kernel_exists kernel_with pixel_at entries rows weighted_at step_of iterate run_of shown_of
ran Binomial = refl
ran Smallest = refl

-- ---- runs within one picture: xx, yy, k, w, h, the picture, the number of the refusal or 0, and the picture after the run. A row, a
-- column and a single pixel; two rows; the bright pixel of case a (docs/REFERENCE.md, pictures worked through); and one refusal after the other,
-- the picture a pixel too long, a pixel too short and right. The numbers are those of the weights: half to the left and half to the right, or up
-- and down, the nearest pixel outside; and the sixteenths 1 2 1, 2 4 2, 1 2 1.
pub record Within : Type 0 where
  pub xx : ℕ
  pub yy : ℕ
  pub steps : ℕ
  pub width : ℕ
  pub height : ℕ
  pub before : List ℕ
  pub refusal : ℕ
  pub after_it : List ℕ

abbrev pub within : ℕ → ℕ → ℕ → ℕ → ℕ → List ℕ → ℕ → List ℕ → Within
within xx yy k w h p r q = record { xx = xx; yy = yy; steps = k; width = w; height = h; before = p; refusal = r; after_it = q }

abbrev pub withins : List Within
withins =
    within 4096 0 1 4 1 (0 ∷ 4 ∷ 0 ∷ 0 ∷ []) 0 (2 ∷ 0 ∷ 2 ∷ 0 ∷ [])
    ∷ within 8192 0 2 4 1 (0 ∷ 4 ∷ 0 ∷ 0 ∷ []) 0 (1 ∷ 2 ∷ 0 ∷ 1 ∷ [])
    ∷ within 0 4096 1 1 4 (0 ∷ 4 ∷ 0 ∷ 0 ∷ []) 0 (2 ∷ 0 ∷ 2 ∷ 0 ∷ [])
    ∷ within 0 8192 2 1 4 (0 ∷ 4 ∷ 0 ∷ 0 ∷ []) 0 (1 ∷ 2 ∷ 0 ∷ 1 ∷ [])
    ∷ within 4096 4096 3 1 1 (65535 ∷ []) 0 (65535 ∷ [])
    ∷ within 0 4096 1 2 2 (8 ∷ 0 ∷ 2 ∷ 6 ∷ []) 0 (5 ∷ 3 ∷ 5 ∷ 3 ∷ [])
    ∷ within 4096 0 1 2 2 (8 ∷ 0 ∷ 2 ∷ 6 ∷ []) 0 (4 ∷ 4 ∷ 4 ∷ 4 ∷ [])
    ∷ within 2048 2048 1 3 3 (0 ∷ 0 ∷ 0 ∷ 0 ∷ 1600 ∷ 0 ∷ 0 ∷ 0 ∷ 0 ∷ []) 0 (100 ∷ 200 ∷ 100 ∷ 200 ∷ 400 ∷ 200 ∷ 100 ∷ 200 ∷ 100 ∷ [])
    ∷ within 266240 0 65 0 1 (0 ∷ 4 ∷ []) 5 (0 ∷ 4 ∷ [])
    ∷ within 266240 0 64 0 1 (0 ∷ 4 ∷ []) 6 (0 ∷ 4 ∷ [])
    ∷ within 266240 0 64 3 1 (0 ∷ 4 ∷ []) 9 (0 ∷ 4 ∷ [])
    ∷ within 266240 0 64 1 1 (0 ∷ 4 ∷ []) 9 (0 ∷ 4 ∷ [])
    ∷ within 266240 0 64 2 1 (0 ∷ 4 ∷ []) 11 (0 ∷ 4 ∷ [])
    ∷ []

pub ran_within : map (λ r. let s = Matrix (pos r.xx) (pos 0) (pos r.yy) in
    within r.xx r.yy r.steps r.width r.height r.before (outcome_number (in_place_outcome s r.steps r.width r.height r.before))
    (in_place_after Binomial s r.steps r.width r.height r.before)) withins
    ≡ withins
unfolding variances_fine direction_fine covariance_xx covariance_xy covariance_yy kernel_exists kernel_with pixel_at entries rows weighted_at step_of iterate in_place_after
ran_within = refl
