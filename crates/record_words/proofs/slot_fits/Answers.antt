-- `record_words::slot_fits` meets its contract: the tests of the definition, in its order. Assumes nothing.
use Rattle.std.proofs.Math.Bool.{and_assoc}
use Rattle.record_words.proofs.slot_fits.Goals as goal

pub returns : goal.returns
returns c =
    rw (
      c.narrow.ensures,
      c.narrow-2.ensures,
      c.narrow-3.ensures,
      c.narrow-4.ensures,
      c.narrow-5.ensures,
      c.narrow-6.ensures,
      c.narrow-7.ensures,
      c.narrow-8.ensures,
    )
    (simp and_assoc)
