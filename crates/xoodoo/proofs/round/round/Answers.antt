-- The five steps in order.
use Rattle.xoodoo.specs.Xoodoo.{round}
use Rattle.xoodoo.proofs.round.round.Goals as goal

pub returns : goal.returns
unfolding round
returns c = cc
