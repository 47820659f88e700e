-- What it tells that no check failed: both sides are in range, and the lent picture and the lent result have w × h entries.
-- Assumes nothing.
use mathlib.Core.Path.{◌≡◌}
use mathlib.Core.Bool.{true}
use Prim.Native.Nat.{ℕ, ◌*◌, ◌≤◌}
use borrow.Author.Tests.{eqb-true}
use Rattle.limits.specs.Limits.{longest_side, side_in_range, sides_in_range, fills_picture}
use Rattle.limits.specs.Errors.{first_refusal}
use Rattle.limits.proofs.Laws.{both_true, in_range_lem}
use Rattle.limits.proofs.Checks.{all_hold}
use Rattle.differences.specs.Answers.{difference_checks}
use Rattle.std.specs.Prelude.{Ok}

-- n pixels, and m entries, are pictures of width w and height h
pub record PictureAndResult (n m w h : ℕ) : Type 0 where
  pub wide : 1 ≤ w
  pub narrow : w ≤ longest_side
  pub high : 1 ≤ h
  pub low : h ≤ longest_side
  pub picture : n ≡ w * h
  pub result : m ≡ w * h

filled : (n m w h : ℕ) → sides_in_range w h ≡ true → fills_picture n w h ≡ true → fills_picture m w h ≡ true → PictureAndResult n m w h
filled n m w h sides p r =
    let both = both_true (side_in_range w) (side_in_range h) sides in
    let wide = in_range_lem 1 longest_side w both.0 in
    let high = in_range_lem 1 longest_side h both.1 in
    record {
      wide = wide.0;
      narrow = wide.1;
      high = high.0;
      low = high.1;
      picture = eqb-true n (w * h) p;
      result = eqb-true m (w * h) r;
    }

pub passed : (n m w h : ℕ) → first_refusal (difference_checks n m w h) ≡ Ok tt → PictureAndResult n m w h
passed n m w h e =
    let held = all_hold (difference_checks n m w h) e in
    filled n m w h held.0 held.1.0 held.1.1.0
