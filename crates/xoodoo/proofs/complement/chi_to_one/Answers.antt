-- Chi of the plain state, plane by plane.
use mathlib.Core.Path.{◌∙◌}
use Rattle.xoodoo.proofs.Planes.{Good, state≡}
use Rattle.xoodoo.proofs.Nots.{chi-one}
use Rattle.xoodoo.proofs.Gains.{gains-of, gains-and-of, gains-or-of}
use Rattle.xoodoo.proofs.Known.{known}
use Rattle.xoodoo.proofs.complement.chi_to_one.Goals as goal

pub returns : goal.returns
returns c =
    let s = c.args.s in
    let g : Good s = known s _ c.well_formed.0 in
    state≡ (gains-and-of s.p0 s.p1 s.p2 c.bitand.ensures c.bitxor.ensures)
    (gains-or-of s.p1 s.p2 s.p0 c.bitor.ensures c.bitxor-2.ensures)
    (gains-of s.p2 s.p1 s.p0 c.not.ensures c.bitand-2.ensures c.bitxor-3.ensures)
    ∙ chi-one g
