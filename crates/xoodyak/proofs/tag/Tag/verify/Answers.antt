-- 0 or 4 as the comparison of all 16 bytes says.
use mathlib.Core.Path.{sym, ◌∙◌}
use Rattle.xoodyak.specs.Calls.{verify_of}
use Rattle.xoodyak.proofs.tag.Tag.verify.Goals as goal

pub returns-then-same_bytes : goal.returns-then-same_bytes
unfolding verify_of
returns-then-same_bytes c = rw (sym c.same_bytes.ensures ∙ c.if-same_bytes.true)

pub returns-else-same_bytes : goal.returns-else-same_bytes
unfolding verify_of
returns-else-same_bytes c = rw (sym c.same_bytes.ensures ∙ c.if-same_bytes.false)
