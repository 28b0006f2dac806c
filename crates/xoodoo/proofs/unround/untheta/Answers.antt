-- The parity's way back is added, as defined.
use Rattle.xoodoo.specs.Xoodoo.{untheta}
use Rattle.xoodoo.proofs.unround.untheta.Goals as goal

pub returns : goal.returns
unfolding untheta
returns c = cc
