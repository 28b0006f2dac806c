-- The rounds that are left, of the state now, are all n of the first state.
use mathlib.Core.Path.{◌≡◌}
use lib.ListN.{drop}
use Rattle.xoodoo.specs.Xoodoo.{rounds}
use Rattle.xoodoo.proofs.round.rounds.Given as goal

abbrev pub invariant-loop-key : goal.invariant-loop-key
invariant-loop-key l = rounds (drop l.key-index l.key-items) l.t ≡ rounds l.key-items l.fn.s
