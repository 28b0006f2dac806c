-- A block that is no full one is added to the state before the stream is added to it.
use mathlib.Core.Path.{◌∙◌}
use Rattle.laws.proofs.Lists.{add_front-take}
use Rattle.xoodyak.proofs.words.encrypt_block.Goals as goal

pub returns-in_default : goal.returns-in_default
returns-in_default c =
    record { result_value = c.down_words-after.ensures ∙ rw c.permute_words-v.ensures; buf_after = c.xor_into.ensures ∙ rw (add_front-take, c.from_words.ensures, c.permute_words-v.ensures) }
