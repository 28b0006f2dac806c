-- A block that is no full one is added in bytes.
use mathlib.Core.Path.{◌∙◌}
use Rattle.laws.specs.Words.{◌⊕◌}
use Rattle.xoodyak.proofs.words.down_words.Goals as goal

pub returns-in_default : goal.returns-in_default
unfolding ◌⊕◌
returns-in_default c = c.to_words.ensures ∙ rw (c.xor_into.ensures, c.from_words-st.ensures)
