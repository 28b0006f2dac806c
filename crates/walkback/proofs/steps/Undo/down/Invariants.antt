-- After i turns the first i bytes of x are added; a turn adds one byte more.
use mathlib.Core.Path.{◌≡◌}
use lib.ListN.{take}
use Rattle.laws.specs.Lists.{add_front}
use Rattle.walkback.proofs.steps.Undo.down.Given as goal

abbrev pub invariant-loop-i : goal.invariant-loop-i
invariant-loop-i l = (l.self.st ≡ add_front l.initial.self.st (take l.i l.x)) × (l.self.mode ≡ l.initial.self.mode)
