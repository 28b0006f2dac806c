-- Four words, one after the other.
use Rattle.xoodoo.proofs.Bytes.{stored-plane}
use Rattle.xoodoo.proofs.words.put_plane.Goals as goal

pub returns : goal.returns
returns c = let o = c.args in cc (stored-plane o.b.now o.at o.p)
