-- What is left to undo are the blocks that the iterator still has, and only the first of all has the colour cu.
use mathlib.Core.Path.{◌≡◌}
use Rattle.std.specs.Iterator.Adapters.{rev_source, enumerate_source, enumerate_count}
use Rattle.std.specs.Slice.Iter.{chunks_rest, chunks_size}
use Rattle.laws.specs.Blocks.{cuts}
use Rattle.walkback.specs.Steps.{undone, block_steps}
use Rattle.walkback.proofs.steps.Undo.blocks.Given as goal

abbrev pub invariant-loop-i : goal.invariant-loop-i
invariant-loop-i l = record {
  size : chunks_size (enumerate_source (rev_source l.i-iterator)) ≡ l.rate;
  count : enumerate_count (rev_source l.i-iterator) ≡ 0;
  undone : undone (block_steps l.cu (cuts l.rate (chunks_rest (enumerate_source (rev_source l.i-iterator))))) l.self ≡ undone (block_steps l.cu (cuts l.rate l.bin)) l.initial.self;
}
