-- docs/REFERENCE.md, "Pictures and shapes": which shapes are accepted, and the covariance of each in 1/4096 square pixel.
-- Definitions only.
use Rattle.std.specs.Prelude.{ℕ, Bool, true, false, ◌&&◌, ℤ, pos, negsuc, Float}
use Rattle.std.specs.Float.{fin}
use Rattle.kernel.specs.declared.Choice.{Choice}
use Rattle.kernel.specs.declared.Kernel.{Kernel}
use Rattle.kernel.specs.Molecule.{units_of, kernel_of}
use Rattle.kernel.specs.Choice.{kernel_by}
use Rattle.kernel.specs.Existence.{kernel_exists}
use Rattle.covariance.specs.declared.Direction.{Direction}
use Rattle.covariance.specs.declared.Shape.{Shape}
use Rattle.covariance.specs.declared.Shape.TheVariants.{Matrix, Round, Oval}
use Rattle.covariance.specs.Floats.{◌⊕◌, ◌⊖◌, ◌⊗◌, in_range}
use Rattle.covariance.specs.Units.{nearest_units}

-- "A variance of a Round or an Oval is not a number or lies outside 0 to 64" (1 × 2 ^ 6)
unfoldable pub variance_in_range : Float → Bool
variance_in_range v = in_range (fin false 0 (pos 0)) (fin false 1 (pos 6)) v

-- "A cosine or sine is not a number or lies outside −1 to 1"
unfoldable pub cosine_in_range : Float → Bool
cosine_in_range c = in_range (fin true 1 (pos 0)) (fin false 1 (pos 0)) c

-- "or (c·c) + (s·s) lies outside 1023/1024 to 1025/1024" (1023 × 2 ^ −10, 1025 × 2 ^ −10)
unfoldable pub square_in_range : Float → Bool
square_in_range q = in_range (fin false 1023 (negsuc 9)) (fin false 1025 (negsuc 9)) q

-- of a direction by itself: refusal 4 is its failure
unfoldable pub direction_in_range : Direction → Bool
direction_in_range d =
    cosine_in_range d.cosine && cosine_in_range d.sine && square_in_range (d.cosine ⊗ d.cosine ⊕ d.sine ⊗ d.sine)

-- of a shape: refusal 3 is its failure. "A Matrix never meets this."
unfoldable pub variances_fine : Shape → Bool
variances_fine (Matrix xx xy yy) = true
variances_fine (Round variance) = variance_in_range variance
variances_fine (Oval long short direction) = variance_in_range long && variance_in_range short

-- of a shape: refusal 4 is its failure. Only an Oval has a direction.
unfoldable pub direction_fine : Shape → Bool
direction_fine (Matrix xx xy yy) = true
direction_fine (Round variance) = true
direction_fine (Oval long short direction) = direction_in_range direction

-- "Oval gives xx = long·(c·c) + short·(s·s), yy = long·(s·s) + short·(c·c), xy = (long − short)·(c·s), each operation
-- rounded once, brackets first, products before the sum"
abbrev pub oval_xx : Float → Float → Direction → Float
oval_xx long short d = long ⊗ (d.cosine ⊗ d.cosine) ⊕ short ⊗ (d.sine ⊗ d.sine)

abbrev pub oval_xy : Float → Float → Direction → Float
oval_xy long short d = (long ⊖ short) ⊗ (d.cosine ⊗ d.sine)

abbrev pub oval_yy : Float → Float → Direction → Float
oval_yy long short d = long ⊗ (d.sine ⊗ d.sine) ⊕ short ⊗ (d.cosine ⊗ d.cosine)

-- "Matrix (xx, xy, yy ..)"; "Round gives xx = yy = the variance, xy = 0"
unfoldable pub covariance_xx : Shape → ℤ
covariance_xx (Matrix xx xy yy) = xx
covariance_xx (Round variance) = nearest_units variance
covariance_xx (Oval long short direction) = nearest_units (oval_xx long short direction)

unfoldable pub covariance_xy : Shape → ℤ
covariance_xy (Matrix xx xy yy) = xy
covariance_xy (Round variance) = pos 0
covariance_xy (Oval long short direction) = nearest_units (oval_xy long short direction)

unfoldable pub covariance_yy : Shape → ℤ
covariance_yy (Matrix xx xy yy) = yy
covariance_yy (Round variance) = nearest_units variance
covariance_yy (Oval long short direction) = nearest_units (oval_yy long short direction)

-- "Public calls take a shape and a step count": whether there is a kernel of them (refusal 11 is its failure), and the kernel
abbrev pub shape_has_kernel : Shape → ℕ → Bool
shape_has_kernel shape k = kernel_exists (covariance_xx shape) (covariance_xy shape) (covariance_yy shape) (units_of k)

abbrev pub kernel_of_shape : Shape → ℕ → Kernel
kernel_of_shape shape k = kernel_of (covariance_xx shape) (covariance_xy shape) (covariance_yy shape) k

-- REFERENCE, "The choice of f": and the kernel by a choice; the one above is that of "smallest"
abbrev pub kernel_of_shape_by : Choice → Shape → ℕ → Kernel
kernel_of_shape_by choice shape k = kernel_by choice (covariance_xx shape) (covariance_xy shape) (covariance_yy shape) k
