-- The four bytes from `at` on, the lowest first.
use Rattle.xoodoo.specs.Xoodoo.{word_of, word_at}
use Rattle.xoodoo.proofs.words.word_at.Goals as goal

pub returns : goal.returns
unfolding word_at word_of
returns c = c.from_le_bytes.ensures
