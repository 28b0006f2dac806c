-- The three planes are added.
use Rattle.xoodoo.specs.Xoodoo.{parity}
use Rattle.xoodoo.proofs.round.parity.Goals as goal

pub returns : goal.returns
unfolding parity
returns c = cc
