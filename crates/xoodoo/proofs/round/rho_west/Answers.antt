-- Plane 1 moves up, plane 2 is rotated.
use Rattle.xoodoo.specs.Xoodoo.{rho_west}
use Rattle.xoodoo.proofs.round.rho_west.Goals as goal

pub returns : goal.returns
unfolding rho_west
returns c = cc
