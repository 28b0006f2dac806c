-- Three columns up and rotated by 21: what is left to 4 and to 32.
use Rattle.xoodoo.specs.Xoodoo.{unrho_west}
use Rattle.xoodoo.proofs.unround.unrho_west.Goals as goal

pub returns : goal.returns
unfolding unrho_west
returns c = cc
