-- The exported calls worked through by hand are what the definitions compute. Assumes nothing.
use mathlib.Core.Path.{◌≡◌, refl}
use mathlib.Core.List.{◌++◌, map}
use Rattle.kernel.specs.Molecule.{kernel_with}
use Rattle.kernel.specs.Existence.{kernel_exists, free_fits}
use Rattle.covariance.specs.Shapes.{variances_fine, direction_fine, covariance_xx, covariance_xy, covariance_yy}
use Rattle.image.specs.Image.{pixel_at, entries, rows}
use Rattle.averaging.specs.Steps.{step_of, weighted_at}
use Rattle.machine.specs.Slots.{first_from, count_of, every_place}
use Rattle.machine.specs.Order.{all_zero, filled_fine, slot_fine, in_order, usable}
use Rattle.machine.specs.Calls.{free_buffers, submit_checks, submit_of, tick_of, collect_checks, collect_of, withdraw_of, free_count_of}
use Rattle.record_words.specs.Words.{fields_fit, slot_of, service_of, with_slots}
use Rattle.word_calls.specs.Exported.{through_words, count_words, old_fine, change_word_checks}
use Rattle.word_calls.proofs.Table.{calls, new_calls, left_by, counts, counted, openings, opened_by, changes_over, changed_by}

pub worked_calls : map left_by (calls ++ new_calls) ≡ map (λ c. c.left) (calls ++ new_calls)
unfolding left_by through_words fields_fit every_place service_of slot_of with_slots submit_of submit_checks variances_fine direction_fine covariance_xx covariance_xy covariance_yy free_buffers tick_of collect_of collect_checks withdraw_of usable in_order slot_fine all_zero filled_fine count_of first_from kernel_exists free_fits kernel_with step_of weighted_at rows entries pixel_at
worked_calls = refl

pub worked_counts : map counted counts ≡ counts
unfolding counted count_words free_count_of free_buffers fields_fit every_place service_of slot_of in_order slot_fine all_zero filled_fine count_of kernel_exists free_fits entries
worked_counts = refl

pub worked_openings : map opened_by openings ≡ openings
unfolding opened_by with_slots
worked_openings = refl

pub worked_changes : map changed_by changes_over ≡ changes_over
unfolding changed_by change_word_checks old_fine fields_fit every_place service_of slot_of with_slots in_order slot_fine all_zero filled_fine count_of kernel_exists entries
worked_changes = refl
