-- 16 bytes squeezed with 10 and absorbed again.
use Rattle.xoodyak.specs.Cyclist.{ratchet}
use Rattle.xoodyak.proofs.cyclist.Duplex.ratchet.Goals as goal

pub returns : goal.returns
unfolding ratchet
returns c = let f = c.squeeze_any-d in rw (c.absorb_any.ensures, f.ensures.value, f.ensures.out_after)
