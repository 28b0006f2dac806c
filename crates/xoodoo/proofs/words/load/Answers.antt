-- The three planes.
use Rattle.xoodoo.specs.Xoodoo.{from_bytes}
use Rattle.xoodoo.proofs.words.load.Goals as goal

pub returns : goal.returns
unfolding from_bytes
returns c = cc
