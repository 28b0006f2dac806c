-- The constants that the iterator still has, taken back from the state now, are all n taken back from the first state.
use mathlib.Core.Path.{◌≡◌}
use Rattle.std.specs.Iterator.Adapters.{rev_source}
use Rattle.std.specs.Slice.Iter.{iter_rest}
use Rattle.xoodoo.specs.Xoodoo.{unrounds}
use Rattle.xoodoo.proofs.unround.unrounds.Given as goal

abbrev pub invariant-loop-key : goal.invariant-loop-key
invariant-loop-key l = unrounds (iter_rest (rev_source l.key-iterator)) l.t ≡ unrounds (iter_rest (rev_source l.initial.key-iterator)) l.initial.t
