-- The rounds of the words that were read, taken back as the definition has it.
use mathlib.Core.Path.{ap, ◌∙◌}
use Rattle.xoodoo.specs.Xoodoo.{to_bytes, inverse, inverse_rounds, unrounds, constants, last_of}
use Rattle.xoodoo.proofs.words.inverse_bytes.Goals as goal

pub returns : goal.returns
unfolding inverse inverse_rounds last_of
returns c = c.put_state.ensures ∙ ap to_bytes (c.twelve_unrounds.ensures ∙ ap (unrounds constants) c.load.ensures)
