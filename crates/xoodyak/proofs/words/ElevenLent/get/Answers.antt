-- Two planes and three words, one after the other.
use Rattle.xoodoo.proofs.BlockBytes.{eleven-of}
use Rattle.xoodyak.proofs.words.ElevenLent.get.Goals as goal

pub returns : goal.returns
returns c =
    eleven-of c.args.b.now _ c.requires c.get16.ensures c.get16-2.ensures c.get4.ensures
    c.get4-2.ensures c.get4-3.ensures
