-- Each word is added to its own.
use borrow.Author.Rules.{rules}
use Rattle.laws.specs.Words.{◌⊕◌}
use Rattle.xoodoo.specs.Xoodoo.{◌⊞◌}
use Rattle.xoodoo.proofs.plane.PlaneBitXor.bitxor.Goals as goal

pub returns : goal.returns
unfolding ◌⊞◌ ◌⊕◌
returns c = search rules
