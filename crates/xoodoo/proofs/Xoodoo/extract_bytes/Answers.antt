-- What is copied is the state's first bytes, as many as the output has; a longer output is left.
use mathlib.Core.Path.{refl}
use borrow.Author.Tests.{le-leb, lt-leb}
use Rattle.xoodoo.specs.Calls.{extract_bytes_of}
use Rattle.xoodoo.proofs.Xoodoo.extract_bytes.Goals as goal

pub returns-then-n-gt48 : goal.returns-then-n-gt48
unfolding extract_bytes_of
returns-then-n-gt48 c = rw (lt-leb _ _ c.if-n-gt48.true) record { value = c.number.ensures; out_after = refl }

pub returns : goal.returns
unfolding extract_bytes_of
returns c = rw (le-leb _ _ c.if-n-gt48.false) record { value = refl; out_after = c.copy_from_slice.ensures.after }
