-- No more than the bytes absorbed, and a slice's length is far below the limit.
use Prim.Native.Nat.{◌*◌, ◌^◌, ◌<◌}
use native.Mathlib.Omega.{arith}
use lib.ListN.{length}
use Rattle.xoodyak.specs.declared.cyclist.Phase.TheVariants.{Down}
use Rattle.xoodyak.proofs.Costs.{share-le}
use Rattle.xoodyak.proofs.shares.given_share.Goals as goal

pub returns-in-Some : goal.returns-in-Some
returns-in-Some c =
    let h : length c.in-Some.x.now * 1 < 2 ^ 63 = (rw (c.in-Some.is) at c.well_formed).1.0.1.1.1.1.0.0.1.1 in
    (rw (c.in-Some.is) c.absorb_share.ensures, omega (arith, h, c.absorb_share.ensures, share-le Down c.args.rate (length c.in-Some.x.now)))
