-- The worked readings, by one computed proof. Assumes nothing.
use mathlib.Core.Path.{◌≡◌, refl}
use mathlib.Core.List.{map}
use Rattle.image.specs.Image.{pixel_at}
use Rattle.image.specs.Reading.{reading_of}
use Rattle.image.proofs.Table.{table, computed}

pub worked : map computed table ≡ table
unfolding reading_of pixel_at
worked = refl
