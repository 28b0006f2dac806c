-- The end of the message, then a squeeze of 16 bytes with colour 40, since the lent part is 16 long.
use mathlib.Core.Path.{◌∙◌}
use Rattle.xoodyak.specs.Feed.{ended, past_tag}
use Rattle.xoodyak.proofs.Session.past_tag.Goals as goal

pub returns : goal.returns
unfolding ended past_tag
returns c = let s = c.squeeze_any-duplex in
    let l = c.requires in
    record { value = rw (c.idle.ensures, s.ensures.value, c.end_block.ensures, l); out_after = s.ensures.out_after ∙ rw (c.end_block.ensures, l) }
