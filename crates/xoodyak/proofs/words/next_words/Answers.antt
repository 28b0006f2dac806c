-- Down of an empty block adds its 1 at byte 0.
use mathlib.Core.Path.{ap, ◌∙◌}
use Rattle.xoodoo.specs.Xoodoo.{to_bytes, xoodoo}
use Rattle.xoodyak.proofs.BlockWords.{one-first}
use Rattle.xoodyak.proofs.words.next_words.Goals as goal

pub returns : goal.returns
returns c = c.permute_words.ensures ∙ ap xoodoo (c.add.ensures ∙ one-first (to_bytes c.args.v))
