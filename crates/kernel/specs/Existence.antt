-- When a kernel exists: the test of REFERENCE, and the wide definition that it is held to. Definitions only.
use Rattle.std.specs.Prelude.{◌≡◌, Bool, ◌&&◌, List, ℕ, ◌<◌, length, ℤ, pos, ◌*ℤ◌}
use Rattle.std.specs.Int.Signed.{le_z}
use Rattle.kernel.specs.Offsets.{total, moment}
use Rattle.kernel.specs.Molecule.{free_number, smaller}

-- "A kernel exists exactly when that [the free number] is at most the smaller of xx and yy"
unfoldable pub kernel_exists : ℤ → ℤ → ℤ → ℕ → Bool
kernel_exists xx xy yy m = le_z (free_number xx xy yy m) (smaller xx yy)

-- "f between the two bounds that make all weights nonnegative": from the larger of |xy| and xx + yy − M, so that no diagonal weight
-- and not the centre is below 0, to the smaller of xx and yy, so that no side is
unfoldable pub free_fits : ℤ → ℤ → ℤ → ℕ → ℕ → Bool
free_fits xx xy yy f m = le_z (free_number xx xy yy m) (pos f) && le_z (pos f) (smaller xx yy)

-- "The definition it is held to is wider: nine nonnegative whole weights of any common positive sum, mirror-symmetric or
-- not, mean zero, second moments xx/M, xy/M, yy/M". Both sides of a moment's equation are taken times M and the sum.
pub record Weights (xx xy yy : ℤ) (m : ℕ) : Type 0 where
  pub weights : List ℕ
  pub nine : length weights ≡ 9
  pub positive : 0 < total weights
  pub mean_x : moment (λ d. d.dx) weights ≡ pos 0
  pub mean_y : moment (λ d. d.dy) weights ≡ pos 0
  pub second_xx : pos m *ℤ moment (λ d. d.dx *ℤ d.dx) weights ≡ xx *ℤ pos (total weights)
  pub second_xy : pos m *ℤ moment (λ d. d.dx *ℤ d.dy) weights ≡ xy *ℤ pos (total weights)
  pub second_yy : pos m *ℤ moment (λ d. d.dy *ℤ d.dy) weights ≡ yy *ℤ pos (total weights)
