-- Word by word.
use borrow.Author.Rules.{rules}
use Rattle.laws.specs.Words.{◌⊙◌}
use Rattle.xoodoo.proofs.plane.PlaneBitAnd.bitand.Goals as goal

pub returns : goal.returns
unfolding ◌⊙◌
returns c = search rules
