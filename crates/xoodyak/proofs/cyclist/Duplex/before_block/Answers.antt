-- Before the first block byte 47 gains 80; else the block before is full, and byte 24 gains its 01.
use mathlib.Core.Path.{sym, ap, ◌∙◌}
use Rattle.xoodoo.specs.Xoodoo.{xoodoo}
use Rattle.xoodyak.specs.Cyclist.{up, up_bytes}
use Rattle.xoodyak.specs.Feed.{open_block}
use Rattle.xoodyak.proofs.Runs.{open-later}
use Rattle.xoodyak.proofs.cyclist.Duplex.before_block.Goals as goal

pub returns-then-place-eq0 : goal.returns-then-place-eq0
unfolding open_block up up_bytes
returns-then-place-eq0 c = ap xoodoo c.coloured.ensures ∙ rw c.if-place-eq0.true

pub returns : goal.returns
returns c = ap xoodoo (c.pad.ensures ∙ rw c.to_words.ensures) ∙ sym (open-later _ _ c.requires c.if-place-eq0.false)
