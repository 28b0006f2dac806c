-- After i turns the first i bytes of the run are added.
use mathlib.Core.Path.{◌≡◌}
use lib.ListN.{take}
use Rattle.laws.specs.Lists.{add_front}
use Rattle.xoodoo.proofs.Xoodoo.add_bytes.Given as goal

abbrev pub invariant-loop-i : goal.invariant-loop-i
invariant-loop-i l = l.st ≡ add_front l.initial.st (take l.i l.bytes)
