-- At place 0 the rule decides; otherwise the last block is closed.
use mathlib.Core.Path.{sym, ◌∙◌}
use Rattle.xoodyak.specs.Feed.{end_block}
use Rattle.xoodyak.proofs.Feeding.{end_later}
use Rattle.xoodyak.proofs.cyclist.Duplex.end_block.Goals as goal

pub returns-in-0-Crate : goal.returns-in-0-Crate
unfolding end_block
returns-in-0-Crate c = rw (c.in-0-Crate.is-0, c.in-0-Crate.is-1)

pub returns-in-0-Specification : goal.returns-in-0-Specification
unfolding end_block
returns-in-0-Specification c = c.empty_block.ensures ∙ rw (c.in-0-Specification.is-0, c.in-0-Specification.is-1)

pub returns-in_default : goal.returns-in_default
returns-in_default c = c.close_block.ensures ∙ sym (end_later _ _ _ c.in_default.is-0.1)
