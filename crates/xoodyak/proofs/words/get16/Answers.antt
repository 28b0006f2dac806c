-- Four words, one after the other.
use Rattle.xoodoo.proofs.BlockBytes.{plane-of}
use Rattle.xoodyak.proofs.words.get16.Goals as goal

pub returns : goal.returns
returns c =
    let a = c.args in
    plane-of a.b.now a.at _ c.get4.ensures c.get4-2.ensures c.get4-3.ensures c.get4-4.ensures
