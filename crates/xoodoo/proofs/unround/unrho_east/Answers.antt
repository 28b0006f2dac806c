-- Rotated by 31 and by 24, and two columns up: what is left to 32 and to 4.
use Rattle.xoodoo.specs.Xoodoo.{unrho_east}
use Rattle.xoodoo.proofs.unround.unrho_east.Goals as goal

pub returns : goal.returns
unfolding unrho_east
returns c = cc
