-- The fold of differences is zero exactly while all bytes passed are equal; a turn folds one byte more.
use mathlib.Core.Path.{◌≡◌}
use lib.ListN.{length, take}
use lib.Dec.{eqb}
use Rattle.xoodyak.specs.Calls.{same_bytes}
use Rattle.xoodyak.proofs.bytes.same_bytes.Given as goal

abbrev pub invariant-loop-x : goal.invariant-loop-x
invariant-loop-x l = eqb l.acc 0 ≡ same_bytes (take (length l.yielded) l.a) (take (length l.yielded) l.b)
