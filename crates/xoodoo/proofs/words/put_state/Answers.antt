-- Three planes, one after the other, are all 48 bytes.
use Rattle.xoodoo.proofs.Bytes.{stored}
use Rattle.xoodoo.proofs.words.put_state.Goals as goal

pub returns : goal.returns
returns c = cc (stored c.args.b.now c.args.s c.told-b)
