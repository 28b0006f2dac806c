-- The words' bytes are permuted where they lie, and read again: the permutation gives bytes.
use Rattle.xoodoo.proofs.Bytes.{to-bytes, to-from}
use Rattle.xoodoo.proofs.Inverse.{xoodoo-keeps}
use Rattle.xoodoo.proofs.words.permute_words.Goals as goal

pub returns : goal.returns
returns c =
    rw (c.load.ensures, c.permute_bytes.ensures, c.from_words-b.ensures) (to-from (xoodoo-keeps (to-bytes c.args.s)))
