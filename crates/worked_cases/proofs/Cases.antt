-- Every row of the table is what the definitions compute: one proof for all. Assumes nothing.
use mathlib.Core.Path.{◌≡◌, refl}
use mathlib.Core.List.{map}
use Rattle.kernel.specs.Molecule.{kernel_with}
use Rattle.kernel.specs.Existence.{kernel_exists}
use Rattle.image.specs.Image.{pixel_at, entries, rows}
use Rattle.covariance.specs.Shapes.{variances_fine, direction_fine, covariance_xx, covariance_xy, covariance_yy}
use Rattle.averaging.specs.Steps.{iterate, step_of, weighted_at}
use Rattle.smoothing.specs.Runs.{run_of}
use Rattle.smoothing.specs.Shown.{shown_of}
use Rattle.job_printer.specs.Numerals.{numeral_within, numeral}
use Rattle.job_printer.specs.Fields.{line, row_lines}
use Rattle.job_printer.specs.Divisors.{divisor_within, common_divisor}
use Rattle.job_printer.specs.Text.{bytes}
use Rattle.job_parser.specs.Reading.{read_byte, read_digits, read_number, read_negative, read_signed, read_letter, read_choice, read_row, read_rows}
use Rattle.job_parser.specs.Parsing.{read_entries, read_sizes, read_header, read_job, parse}
use Rattle.job_text.specs.Answer.{job_answer, answer_text}
use Rattle.worked_cases.specs.Table.{table, computed}

pub worked : map computed table ≡ table
unfolding computed kernel_with kernel_exists iterate step_of weighted_at rows entries pixel_at variances_fine direction_fine covariance_xx covariance_xy covariance_yy run_of shown_of numeral_within numeral line row_lines divisor_within common_divisor bytes read_byte read_digits read_number read_negative read_signed read_letter read_choice read_row read_rows read_entries read_sizes read_header read_job parse job_answer answer_text
worked = refl
