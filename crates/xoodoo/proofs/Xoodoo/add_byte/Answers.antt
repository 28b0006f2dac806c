-- The test is the definition's, and the one store is `add_at`.
use borrow.Author.Tests.{le-leb, lt-leb}
use Rattle.laws.specs.Words.{◌⊕◌}
use Rattle.xoodoo.specs.Calls.{add_byte_of}
use Rattle.xoodoo.proofs.Xoodoo.add_byte.Goals as goal

pub returns-then-offset-gt47 : goal.returns-then-offset-gt47
unfolding add_byte_of
returns-then-offset-gt47 c = rw (lt-leb _ _ c.if-offset-gt47.true) c.refused.ensures

pub returns : goal.returns
unfolding add_byte_of ◌⊕◌
returns c = rw (le-leb _ _ c.if-offset-gt47.false) c.done.ensures
