-- Pictures worked through, computed: brightness is not kept by a kernel that leans, rounding at every step is not rounding at the
-- end, and a run may lie as far as k / 2 from the exact one. Assumes nothing.
use mathlib.Core.Path.{◌≡◌, refl, sym, ap, ◌∙◌}
use mathlib.Core.Logic.{◌≢◌}
use mathlib.Core.List.{List, [], ◌∷◌, map}
use Prim.Native.Nat.{ℕ, ◌+◌, ◌^◌}
use native.Mathlib.Omega.{arith}
use lib.Dec.{T, leb, lit≤, le→leb}
use lib.ListN.{get_or}
use lib.IntN.{pos}
use Rattle.kernel.specs.Molecule.{kernel_with, kernel_of}
use Rattle.kernel.specs.declared.Kernel.{Kernel}
use Rattle.image.specs.Image.{pixel_at, entries, rows}
use Rattle.averaging.specs.Steps.{nearest, weighted_at, step_of, exact_step_of, iterate, steps_of, exact_of}
use Rattle.averaging.specs.Distances.{Differ, Distance, brightness}

-- case k: "Shape f over rows `16384 0`, `0 0`: `14384 2000`, `2000 2000`", with f "1000, 1000, 1000, k 1"
abbrev pub leaning : Kernel
leaning = kernel_of (pos 1000) (pos 1000) (pos 1000) 1

abbrev pub corner : List ℕ
corner = 16384 ∷ 0 ∷ 0 ∷ 0 ∷ []

pub case_k : step_of leaning 2 2 corner ≡ 14384 ∷ 2000 ∷ 2000 ∷ 2000 ∷ []
unfolding kernel_with pixel_at entries rows weighted_at step_of
case_k = refl

-- "That brightness is kept: case k refutes it"
pub brightness_not_kept : brightness (step_of leaning 2 2 corner) ≢ brightness corner
brightness_not_kept = rw case_k (omega arith)

-- "That rounding k times and rounding the end agree": 4096, 0, 0 with k 2, over a row with a single bright pixel
abbrev pub along : Kernel
along = kernel_of (pos 4096) (pos 0) (pos 0) 2

abbrev pub spot : List ℕ
spot = 0 ∷ 0 ∷ 1 ∷ 0 ∷ 0 ∷ []

-- rounded at both steps, the row is as it was ..
pub rounded_each_step : steps_of along 5 1 2 spot ≡ spot
unfolding kernel_with pixel_at entries rows weighted_at step_of iterate
rounded_each_step = refl

-- .. and the exact run after both, rounded once, is 0 everywhere
pub rounded_at_end : map (λ e. nearest e (along.sum ^ 2)) (exact_of along 5 1 2 spot) ≡ 0 ∷ 0 ∷ 0 ∷ 0 ∷ 0 ∷ []
unfolding kernel_with pixel_at entries rows weighted_at exact_step_of iterate
rounded_at_end = refl

-- so the two are not the same
pub rounding_differs : steps_of along 5 1 2 spot ≢ map (λ e. nearest e (along.sum ^ 2)) (exact_of along 5 1 2 spot)
rounding_differs same =
    let lost : ◌≡◌ {A = ℕ} 1 0 = ap (λ l. get_or l 2 0) (sym rounded_each_step ∙ same ∙ rounded_at_end) in
    omega arith

-- ---- the ends of k / 2
-- 8192, 0, 0 with k 2: each step takes half of the pixel on the left and half of the one on the right
abbrev pub halves : Kernel
halves = kernel_of (pos 8192) (pos 0) (pos 0) 2

-- k / 2 is reached: both steps round halves up on the way to the third pixel, which is 2 where the exact run has 1: 32768 ^ 2 over 32768 ^ 2
pub end_reached : (steps_of halves 5 1 2 (0 ∷ 0 ∷ 1 ∷ 0 ∷ 2 ∷ []) ≡ 1 ∷ 0 ∷ 2 ∷ 1 ∷ 2 ∷ [])
    × (exact_of halves 5 1 2 (0 ∷ 0 ∷ 1 ∷ 0 ∷ 2 ∷ []) ≡ 268435456 ∷ 0 ∷ 1073741824 ∷ 536870912 ∷ 1342177280 ∷ [])
unfolding kernel_with pixel_at entries rows weighted_at step_of exact_step_of iterate
end_reached = (refl, refl)

-- no step, and no distance; a step with 4 × M = 16384, a half above and a half below; two steps: that third pixel, and 0 where 1 is exact
pub at_the_end : Distance 16384 0 5 5 × Distance 16384 1 1 8192 × Distance 16384 1 0 8192
    × Distance 32768 2 2 1073741824 × Distance 32768 2 0 1073741824
at_the_end = (differ tt tt, differ tt tt, differ tt tt, differ tt tt, differ tt tt)
  where
    differ : {c a b : ℕ} → T (leb a (b + c)) → T (leb b (a + c)) → Differ c a b
    differ above below = record { above = lit≤ above; below = lit≤ below }

-- and one further in the exact run's whole number is too far, on either side. `le→leb` turns a false inequality of two numerals into nothing
pub past_the_end : ¬ Distance 16384 0 5 4 × ¬ Distance 16384 0 5 6 × ¬ Distance 16384 1 1 8191 × ¬ Distance 16384 1 0 8193
    × ¬ Distance 32768 2 2 1073741823 × ¬ Distance 32768 2 0 1073741825
past_the_end = (
  λ d. le→leb 10 8 d.above,
  λ d. le→leb 12 10 d.below,
  λ d. le→leb 32768 32766 d.above,
  λ d. le→leb 16386 16384 d.below,
  λ d. le→leb 4294967296 4294967294 d.above,
  λ d. le→leb 2147483650 2147483648 d.below,
)
