-- The two rotations are added and moved one column up.
use Rattle.xoodoo.specs.Xoodoo.{effect}
use Rattle.xoodoo.proofs.round.effect.Goals as goal

pub returns : goal.returns
unfolding effect
returns c = cc
