-- The test is the definition's; then load, the rounds, store.
use borrow.Author.Tests.{le-leb, lt-leb}
use Rattle.xoodoo.specs.Xoodoo.{inverse_rounds}
use Rattle.xoodoo.specs.Calls.{unrounds_of}
use Rattle.xoodoo.proofs.Xoodoo.unrounds.Goals as goal

pub returns-then-n-gt12 : goal.returns-then-n-gt12
unfolding unrounds_of
returns-then-n-gt12 c = rw (lt-leb _ _ c.if-n-gt12.true) c.refused.ensures

pub returns : goal.returns
unfolding unrounds_of inverse_rounds
returns c = rw (le-leb _ _ c.if-n-gt12.false) (cc)
