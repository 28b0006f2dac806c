-- The complements pass through every step but chi, which takes one for the other.
use Prim.Native.Nat.{◌^◌, ◌<◌}
use borrow.Author.Rules.{rules}
use Rattle.xoodoo.proofs.Planes.{Good}
use Rattle.xoodoo.proofs.Known.{known}
use Rattle.xoodoo.proofs.Nots.{one, two, unround-nots}
use Rattle.xoodoo.proofs.unround.unround_to_two.Goals as goal

pub returns : goal.returns
returns c =
    let h : c.args.c < 2 ^ 32 = search rules in
    let g : Good c.args.s = known c.args.s _ c.well_formed.1.0 in
    cc (unround-nots one two h g)
