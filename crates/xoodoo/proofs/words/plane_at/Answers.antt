-- The four words from `at` on.
use Rattle.xoodoo.specs.Xoodoo.{plane_at}
use Rattle.xoodoo.proofs.words.plane_at.Goals as goal

pub returns : goal.returns
unfolding plane_at
returns c = cc
