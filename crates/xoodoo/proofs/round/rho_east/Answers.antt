-- Plane 1 is rotated, plane 2 moves two columns and is rotated.
use Rattle.xoodoo.specs.Xoodoo.{rho_east}
use Rattle.xoodoo.proofs.round.rho_east.Goals as goal

pub returns : goal.returns
unfolding rho_east
returns c = cc
