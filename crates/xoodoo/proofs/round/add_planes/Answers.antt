-- The same plane is added to all three.
use Rattle.xoodoo.specs.Xoodoo.{add_planes}
use Rattle.xoodoo.proofs.round.add_planes.Goals as goal

pub returns : goal.returns
unfolding add_planes
returns c = cc
