-- Plane 0 alone.
use Rattle.xoodoo.specs.Frame.{not_one}
use Rattle.xoodoo.proofs.complement.not_one.Goals as goal

pub returns : goal.returns
unfolding not_one
returns c = cc
