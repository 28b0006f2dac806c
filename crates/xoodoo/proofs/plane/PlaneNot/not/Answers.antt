-- Word by word.
use borrow.Author.Rules.{rules}
use Rattle.laws.specs.Words.{not32}
use Rattle.xoodoo.proofs.plane.PlaneNot.not.Goals as goal

pub returns : goal.returns
unfolding not32
returns c = search rules
