-- The first block has the colour; the rest is absorb_more, since the phase is Down after a block.
use mathlib.Core.Path.{◌∙◌}
use Rattle.xoodyak.proofs.Turns.{absorb-is}
use Rattle.xoodyak.specs.Cyclist.{absorb_more}
use Rattle.xoodyak.proofs.cyclist.Duplex.absorb_any.Goals as goal

pub returns : goal.returns
unfolding absorb_more
returns c =
    let a = c.args in
    c.absorb_more.ensures
    ∙ rw (c.down.ensures, c.ready.ensures, c.split_at.ensures.front, c.split_at.ensures.back)
    (absorb-is a.rate c.min.result a.cd a.self a.bin.now c.requires.0 c.min.ensures)
