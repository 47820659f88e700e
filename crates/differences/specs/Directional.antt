-- REFERENCE's directional difference, and the exact value of a float that is a whole number. Definitions only.
use Rattle.std.specs.Prelude.{◌≡◌, List, ℕ, true, cond, ℤ, pos, neg_ℤ, ◌*ℤ◌, T, Float}
use Rattle.std.specs.Float.{fin, binary64}
use Rattle.std.specs.Float.Ieee.{of_int, eq}
use Rattle.std.specs.Float.Ieee.Scale.{finite}
use Rattle.covariance.specs.declared.Direction.{Direction}
use Rattle.covariance.specs.Floats.{◌⊕◌, ◌⊗◌, numerator, denominator}
use Rattle.image.specs.Image.{image_of}
use Rattle.differences.specs.declared.Difference.TheVariants.{FirstX, FirstY}
use Rattle.differences.specs.Stencils.{stencil_of, stencil_at}

-- "(c·dx) + (s·dy), dx and dy being the undivided first differences, in 64-bit floats, each operation rounded once"
abbrev pub directional : Direction → ℤ → ℤ → Float
directional d dx dy = (d.cosine ⊗ of_int binary64 dx) ⊕ (d.sine ⊗ of_int binary64 dy)

-- "again w × h entries"
unfoldable pub directional_of : Direction → ℕ → ℕ → List ℕ → List Float
directional_of d w h pixels =
    image_of w h (λ x y. directional d (stencil_at (stencil_of FirstX) w h pixels x y) (stencil_at (stencil_of FirstY) w h pixels x y))

-- x is finite, and its exact value is the whole number z; both zeros have the value 0
pub record IsWhole (x : Float) (z : ℤ) : Type 0 where
  pub is_finite : T (finite x)
  pub value : numerator x ≡ z *ℤ pos (denominator x)

-- what an entry is exactly along an axis (`along_x` and `along_y` of crates/covariance: "where one of c, s is 0 and the other 1 or
-- −1 (the two zeros count as equal)"): the undivided difference, or its negative where the 1 or −1 is −1
abbrev pub turned_by : Float → ℤ → ℤ
turned_by u z = cond (eq u (fin true 1 (pos 0))) (neg_ℤ z) z
