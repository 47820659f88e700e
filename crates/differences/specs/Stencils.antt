-- docs/REFERENCE.md, "Smoothing and differences": the undivided differences (the paper's equations 20 and 21), each by a stencil:
-- a list of signed coefficients at signed offsets. Definitions only.
use Rattle.std.specs.Prelude.{List, [], ◌∷◌, ℕ, ℤ, pos, negsuc, ◌+ℤ◌, ◌*ℤ◌}
use Rattle.image.specs.Image.{pixel_at, image_of}
use Rattle.differences.specs.declared.Difference.{Difference}
use Rattle.differences.specs.declared.Difference.TheVariants.{FirstX, FirstY, SecondX, SecondY, Mixed}

-- a coefficient, and the offset that it stands at: dx columns to the right, dy rows down
pub record Term : Type 0 where
  pub coefficient : ℤ
  pub dx : ℤ
  pub dy : ℤ

abbrev pub term : ℤ → ℤ → ℤ → Term
term coefficient dx dy = record { coefficient = coefficient; dx = dx; dy = dy }

-- the sum of coefficient times the entry at its offset
unfoldable pub stencil_sum : List Term → (ℤ → ℤ → ℕ) → ℤ
stencil_sum [] entry = pos 0
stencil_sum (t ∷ ts) entry = t.coefficient *ℤ pos (entry t.dx t.dy) +ℤ stencil_sum ts entry

-- that sum around column x and row y of a picture
abbrev pub stencil_at : List Term → ℕ → ℕ → List ℕ → ℕ → ℕ → ℤ
stencil_at ts w h pixels x y = stencil_sum ts (λ dx dy. pixel_at w h pixels (pos x +ℤ dx) (pos y +ℤ dy))

-- "L(x+1) − L(x−1) .. likewise in y; L(x+1) − 2L + L(x−1), likewise in y; and L(+,+) − L(−,+) − L(+,−) + L(−,−)", the first
-- sign being that of x (`negsuc n` is −(n + 1))
abbrev pub stencil_of : Difference → List Term
stencil_of FirstX = term (pos 1) (pos 1) (pos 0) ∷ term (negsuc 0) (negsuc 0) (pos 0) ∷ []
stencil_of FirstY = term (pos 1) (pos 0) (pos 1) ∷ term (negsuc 0) (pos 0) (negsuc 0) ∷ []
stencil_of SecondX = term (pos 1) (pos 1) (pos 0) ∷ term (negsuc 1) (pos 0) (pos 0) ∷ term (pos 1) (negsuc 0) (pos 0) ∷ []
stencil_of SecondY = term (pos 1) (pos 0) (pos 1) ∷ term (negsuc 1) (pos 0) (pos 0) ∷ term (pos 1) (pos 0) (negsuc 0) ∷ []
stencil_of Mixed =
    term (pos 1) (pos 1) (pos 1) ∷ term (negsuc 0) (negsuc 0) (pos 1)
    ∷ term (negsuc 0) (pos 1) (negsuc 0) ∷ term (pos 1) (negsuc 0) (negsuc 0)
    ∷ []

-- "each a signed 32-bit picture of w × h entries"
unfoldable pub differences_of : Difference → ℕ → ℕ → List ℕ → List ℤ
differences_of which w h pixels = image_of w h (stencil_at (stencil_of which) w h pixels)
