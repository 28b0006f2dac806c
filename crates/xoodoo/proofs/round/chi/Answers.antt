-- Each plane gains what the definition has it gain.
use Rattle.xoodoo.specs.Xoodoo.{chi}
use Rattle.xoodoo.proofs.Planes.{state≡}
use Rattle.xoodoo.proofs.Gains.{gains-of}
use Rattle.xoodoo.proofs.round.chi.Goals as goal

pub returns : goal.returns
unfolding chi
returns c =
    let s = c.args.s in
    state≡ (gains-of s.p0 s.p1 s.p2 c.not.ensures c.bitand.ensures c.bitxor.ensures)
    (gains-of s.p1 s.p2 s.p0 c.not-2.ensures c.bitand-2.ensures c.bitxor-2.ensures)
    (gains-of s.p2 s.p0 s.p1 c.not-3.ensures c.bitand-3.ensures c.bitxor-3.ensures)
