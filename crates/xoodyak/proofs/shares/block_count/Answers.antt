-- The library's quotient, rounded up.
use mathlib.Core.Path.{◌∙◌}
use Rattle.xoodyak.proofs.Costs.{ceil-is}
use Rattle.xoodyak.proofs.shares.block_count.Goals as goal

pub returns : goal.returns
returns c = c.div_ceil.ensures ∙ ceil-is _ _ c.requires
