-- At place 0 the rule decides; a message with bytes needs no further Up.
use Rattle.xoodyak.specs.Feed.{end_ups}
use Rattle.xoodyak.proofs.Feeding.{ups-later}
use Rattle.xoodyak.proofs.feed.end_ups.Goals as goal

pub returns-in-0-Crate : goal.returns-in-0-Crate
unfolding end_ups
returns-in-0-Crate c = rw (c.in-0-Crate.is-0, c.in-0-Crate.is-1)

pub returns-in-0-Specification : goal.returns-in-0-Specification
unfolding end_ups
returns-in-0-Specification c = rw (c.in-0-Specification.is-0, c.in-0-Specification.is-1)

pub returns-in_default : goal.returns-in_default
returns-in_default c = ups-later _ _ c.in_default.is-0.1
