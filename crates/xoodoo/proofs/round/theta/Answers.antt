-- The effect of the parity is added, as defined.
use Rattle.xoodoo.specs.Xoodoo.{theta}
use Rattle.xoodoo.proofs.round.theta.Goals as goal

pub returns : goal.returns
unfolding theta
returns c = cc
