-- The rounds that are left, of the plain state now, are all twelve of the first state.
use mathlib.Core.Path.{◌≡◌}
use Prim.Native.Nat.{◌*◌}
use lib.ListN.{drop}
use Rattle.xoodoo.specs.Xoodoo.{rounds, constants}
use Rattle.xoodoo.specs.Frame.{not_one}
use Rattle.xoodoo.proofs.Planes.{Good}
use Rattle.xoodoo.proofs.frame.twelve_rounds.Given as goal

abbrev pub invariant-loop-a : goal.invariant-loop-a
invariant-loop-a l = Good l.t × (rounds (drop (l.a-index * 4) constants) (not_one l.t) ≡ rounds constants (not_one l.initial.t))
