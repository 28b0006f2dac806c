-- Four words, one after the other.
use Rattle.xoodoo.proofs.Bytes.{stored-plane}
use Rattle.xoodyak.proofs.words.put16.Goals as goal

pub returns : goal.returns
returns c = let a = c.args in cc (stored-plane a.b.now a.at a.p)
