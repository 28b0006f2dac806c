-- One for each block, less one in phase Up.
use Rattle.laws.specs.Blocks.{block_count}
use native.Mathlib.Nat.{max_comm}
use Rattle.xoodyak.specs.Shares.{absorb_share}
use Rattle.xoodyak.proofs.shares.absorb_share.Goals as goal

pub returns-in-Up : goal.returns-in-Up
unfolding absorb_share
returns-in-Up c = rw (c.in-Up.is, c.max-all.ensures, c.block_count.ensures, max_comm (block_count c.args.rate c.args.n) 1)

pub returns-in-Down : goal.returns-in-Down
unfolding absorb_share
returns-in-Down c = rw (c.in-Down.is, c.max-all.ensures, c.block_count.ensures, max_comm (block_count c.args.rate c.args.n) 1)
