-- The inverse steps in the opposite order.
use Rattle.xoodoo.specs.Xoodoo.{unround}
use Rattle.xoodoo.proofs.unround.unround.Goals as goal

pub returns : goal.returns
unfolding unround
returns c = cc
