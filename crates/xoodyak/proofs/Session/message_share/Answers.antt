-- Under the specification an empty message is one block.
use Rattle.laws.specs.Blocks.{block_count}
use native.Mathlib.Nat.{max_comm}
use Rattle.xoodyak.specs.Shares.{message_share}
use Rattle.xoodyak.proofs.Session.message_share.Goals as goal

pub returns-in-Crate : goal.returns-in-Crate
unfolding message_share
returns-in-Crate c = rw (c.in-Crate.is, c.block_count-blocks.ensures)

pub returns-in-Specification : goal.returns-in-Specification
unfolding message_share
returns-in-Specification c = rw (c.in-Specification.is, c.max.ensures, c.block_count-blocks.ensures, max_comm (block_count 24 c.args.n) 1)
