-- The pairs of constants that the iterator still has, taken back from the plain state now, are all six taken back from the first state.
use mathlib.Core.Path.{◌≡◌}
use Rattle.std.specs.Iterator.Adapters.{rev_source}
use Rattle.std.specs.Slice.Iter.{iter_rest}
use Rattle.xoodoo.specs.Xoodoo.{unrounds}
use Rattle.xoodoo.specs.Frame.{not_one}
use Rattle.xoodoo.proofs.Planes.{Good}
use Rattle.xoodoo.proofs.Walk.{paired}
use Rattle.xoodoo.proofs.unround.twelve_unrounds.Given as goal

abbrev pub invariant-loop-a : goal.invariant-loop-a
invariant-loop-a l = record {
  good : Good l.t;
  left : unrounds (paired (iter_rest (rev_source l.a-iterator))) (not_one l.t) ≡ unrounds (paired (iter_rest (rev_source l.initial.a-iterator))) (not_one l.initial.t);
}
