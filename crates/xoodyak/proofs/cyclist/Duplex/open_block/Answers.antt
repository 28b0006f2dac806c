-- Both cases of the place, as the definition goes by them.
use mathlib.Core.Path.{sym, ◌∙◌}
use Rattle.xoodyak.specs.Feed.{open_block}
use Rattle.xoodyak.proofs.Feeding.{place-later}
use Rattle.xoodyak.proofs.cyclist.Duplex.open_block.Goals as goal

pub returns-then-place-eq0 : goal.returns-then-place-eq0
unfolding open_block
returns-then-place-eq0 c = c.up.ensures ∙ rw c.if-place-eq0.true

pub returns-else-place-eq0 : goal.returns-else-place-eq0
returns-else-place-eq0 c = rw (c.up-else-place-eq0.ensures, c.close_block.ensures) (sym (place-later _ _ c.if-place-eq0.false))
