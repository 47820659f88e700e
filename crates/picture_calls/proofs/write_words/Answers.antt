-- `picture_calls::write_words` meets its contract: the sum, and then the nine weights in the place of the other nine words. Assumes
-- nothing.
use Rattle.picture_calls.proofs.Laws.{words_written}
use Rattle.picture_calls.proofs.write_words.Goals as goal

pub returns : goal.returns
returns c = rw c.copy_from_slice.ensures.after (words_written c.args.kernel.sum c.args.kernel.weights c.args.words.now c.requires)
