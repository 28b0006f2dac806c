-- The rounds of the words that were read, as the definition has them.
use mathlib.Core.Path.{ap, ◌∙◌}
use Rattle.xoodoo.specs.Xoodoo.{to_bytes, xoodoo, xoodoo_rounds, rounds, constants, last_of}
use Rattle.xoodoo.proofs.words.permute_bytes.Goals as goal

pub returns : goal.returns
unfolding xoodoo xoodoo_rounds last_of
returns c = c.put_state.ensures ∙ ap to_bytes (c.twelve_rounds.ensures ∙ ap (rounds constants) c.load.ensures)
