-- Each word is the one below, modulo 4.
use mathlib.Core.Path.{refl}
use Rattle.xoodoo.specs.Xoodoo.{up}
use Rattle.xoodoo.proofs.round.Plane.up.Goals as goal

pub returns : goal.returns
unfolding up
returns c = refl
