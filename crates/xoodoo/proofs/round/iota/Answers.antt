-- Word 0 alone changes.
use mathlib.Core.Path.{refl}
use Rattle.laws.specs.Words.{◌⊕◌}
use Rattle.xoodoo.specs.Xoodoo.{iota}
use Rattle.xoodoo.proofs.round.iota.Goals as goal

pub returns : goal.returns
unfolding iota ◌⊕◌
returns c = refl
