-- Rotations by 24 and 1 are one by 25; by 24 and 8 they are none.
use Rattle.xoodoo.proofs.Planes.{Good}
use Rattle.xoodoo.proofs.Known.{known}
use Rattle.xoodoo.proofs.Turned.{rho_east-turned}
use Rattle.xoodoo.proofs.frame.rho_east_turned.Goals as goal

pub returns : goal.returns
returns c =
    let g : Good c.args.s = known c.args.s _ c.well_formed.0 in
    cc (rho_east-turned g)
