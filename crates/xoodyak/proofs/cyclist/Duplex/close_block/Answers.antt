-- Byte `place.min(24)` of the 48 gains 1.
use Rattle.laws.specs.Words.{◌⊕◌}
use Rattle.xoodyak.specs.Feed.{close_block}
use Rattle.xoodyak.proofs.cyclist.Duplex.close_block.Goals as goal

pub returns : goal.returns
unfolding close_block ◌⊕◌
returns c = rw c.min.ensures
