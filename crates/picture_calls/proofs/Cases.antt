-- The worked calls, each table by one computed proof: each row is what the contracts give for its call. Assumes nothing.
use mathlib.Core.Path.{◌≡◌, refl}
use mathlib.Core.List.{map}
use Prim.Native.Nat.{ℕ}
use lib.Ieee.{of_int, add, sub, mul, le}
use Rattle.limits.specs.Errors.{value_or}
use Rattle.kernel.specs.Molecule.{kernel_with}
use Rattle.kernel.specs.Choice.{choice_of}
use Rattle.kernel.specs.Existence.{kernel_exists}
use Rattle.image.specs.Image as I
use Rattle.image.specs.Reading.{reading_of, reading_number, reading_values}
use Rattle.covariance.specs.Floats.{in_range}
use Rattle.covariance.specs.Units.{nearest_units}
use Rattle.covariance.specs.Shapes.{variance_in_range, cosine_in_range, square_in_range, direction_in_range, variances_fine, direction_fine, covariance_xx, covariance_xy, covariance_yy}
use Rattle.differences.specs.Stencils.{stencil_sum, differences_of}
use Rattle.differences.specs.Directional.{directional_of}
use Rattle.picture_calls.specs.Pictures.{covariance_code, covariance_after, kernel_code, kernel_after, shown_code, shown_picture_after, difference_code, difference_after, directional_code, directional_after}
use Rattle.picture_calls.proofs.Table.{Call, covariance, kernel, shown, difference, directional, pixel, Lent, entries, words, floats, number, Row, table, shown_table}

-- the code that a call returns, and what it leaves in what it was lent
abbrev pub code_of : Call → ℕ
code_of (covariance shape before) = covariance_code shape before
code_of (kernel choice shape k before) = kernel_code shape k before
code_of (shown k before) = shown_code k
code_of (difference which w h pixels before) = difference_code w h pixels before
code_of (directional d w h pixels before) = directional_code d w h pixels before
code_of (pixel w h pixels x y before) = reading_number (reading_of w h pixels x y)

abbrev pub left_by : Call → Lent
left_by (covariance shape before) = entries (covariance_after shape before)
left_by (kernel choice shape k before) = words (kernel_after (choice_of choice) shape k before)
left_by (shown k before) = number (shown_picture_after k before)
left_by (difference which w h pixels before) = entries (difference_after which w h pixels before)
left_by (directional d w h pixels before) = floats (directional_after d w h pixels before)
left_by (pixel w h pixels x y before) = number (value_or (reading_values (reading_of w h pixels x y)) before)

abbrev pub computed : Row → Row
computed r = record { call = r.call; code = code_of r.call; after = left_by r.call }

pub worked : map computed table ≡ table
unfolding covariance_code covariance_after kernel_code kernel_after difference_code difference_after directional_code directional_after variances_fine direction_fine variance_in_range direction_in_range cosine_in_range square_in_range in_range covariance_xx covariance_xy covariance_yy nearest_units kernel_exists kernel_with reading_of I.pixel_at I.entries I.rows stencil_sum differences_of directional_of of_int add sub mul le
worked = refl

pub worked_shown : map computed shown_table ≡ shown_table
unfolding shown_code shown_picture_after
worked_shown = refl
