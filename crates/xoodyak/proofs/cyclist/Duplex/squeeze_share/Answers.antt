-- The first Up is made for no bytes too.
use Rattle.laws.specs.Blocks.{block_count}
use native.Mathlib.Nat.{max_comm}
use Rattle.xoodyak.specs.Cyclist.{squeeze_rate}
use Rattle.xoodyak.specs.Shares.{squeeze_share}
use Rattle.xoodyak.proofs.cyclist.Duplex.squeeze_share.Goals as goal

pub returns : goal.returns
unfolding squeeze_share
returns c = rw (c.max.ensures, c.block_count.ensures, c.squeeze_rate.ensures, max_comm (block_count (squeeze_rate c.args.self.mode) c.args.n) 1)
