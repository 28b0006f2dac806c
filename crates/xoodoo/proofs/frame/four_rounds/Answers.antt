-- Four turns by 24 change nothing, and complements come in pairs.
use mathlib.Core.Path.{◌≡◌}
use Prim.Native.Nat.{◌^◌, ◌<◌}
use borrow.Author.Rules.{rules}
use Rattle.laws.specs.Words.{rotl}
use Rattle.xoodoo.proofs.Planes.{Good}
use Rattle.xoodoo.proofs.Known.{known}
use Rattle.xoodoo.proofs.Nots.{four-quick}
use Rattle.xoodoo.proofs.frame.four_rounds.Goals as goal

pub returns : goal.returns
unfolding rotl
returns c =
    let a : c.args.a < 2 ^ 32 = search rules in
    let b : c.args.b < 2 ^ 32 = search rules in
    let d : c.args.c < 2 ^ 32 = search rules in
    let e : c.args.d < 2 ^ 32 = search rules in
    let g : Good c.args.s = known c.args.s _ c.well_formed.1.1.1.1.0 in
    let rb : c.rotate_left.result ≡ rotl 24 c.args.b = c.rotate_left.ensures in
    let rd : c.rotate_left-2.result ≡ rotl 8 c.args.d = c.rotate_left-2.ensures in
    let rc : c.rotate_left-3.result ≡ rotl 16 c.args.c = c.rotate_left-3.ensures in
    cc (four-quick a b d e g)
