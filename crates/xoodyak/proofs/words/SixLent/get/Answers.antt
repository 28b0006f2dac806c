-- Six words, one after the other.
use Rattle.xoodoo.proofs.BlockBytes.{six-of}
use Rattle.xoodyak.proofs.words.SixLent.get.Goals as goal

pub returns : goal.returns
returns c =
    six-of c.args.b.now _ c.requires c.get4.ensures c.get4-2.ensures c.get4-3.ensures
    c.get4-4.ensures c.get4-5.ensures c.get4-6.ensures
