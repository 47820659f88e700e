-- The layout worked through by hand, of today and of before slots held f, is what the definitions compute. Assumes nothing.
use mathlib.Core.Path.{◌≡◌, refl}
use Rattle.image.specs.Image.{entries}
use Rattle.machine.specs.Slots.{every_place}
use Rattle.record_words.specs.Words.{fields_fit, slot_of, service_of, with_slots, widened_slots}
use Rattle.record_words.proofs.Table.{table, computed}

pub worked : computed ≡ table
unfolding entries every_place fields_fit slot_of service_of with_slots widened_slots
worked = refl
