-- What is left to undo are the blocks that the iterator still has, and only the first of all has the colour cu.
use mathlib.Core.Path.{◌≡◌, sym, ◌∙◌}
use native.Mathlib.Omega.{arith}
use lib.ListN.{length}
use Rattle.std.specs.Iterator.Adapters.{rev_source, enumerate_source}
use Rattle.std.specs.Slice.Iter.{chunks_rest, chunks_size, chunk_count}
use Rattle.walkback.proofs.Undoing.{colour-first, colour-other, blocks-turn, blocks-turned}
use Rattle.walkback.proofs.steps.Undo.blocks.Goals as goal

pub loop-i-preserved : goal.loop-i-preserved
loop-i-preserved c =
    let a = c.args in
    let l = c.loop-i in
    let step = c.in-Some.ensures.steps in
    let cut = step.1.0 in
    let front = chunks_rest (enumerate_source (rev_source c.next.new.self)) in
    let size : chunks_size (enumerate_source (rev_source c.next.new.self)) ≡ a.rate = cut.0 ∙ l.invariant.size in
    let before : c.in-Some.i ≡ chunk_count (length front) a.rate = step.1.1 ∙ rw (l.invariant.count, size) (omega arith) in
    let first = colour-first a.cu a.rate c.in-Some.i front (omega arith) before in
    let other = colour-other a.cu a.rate c.in-Some.i front (omega arith) before in
    record {
      size = size;
      count = step.0 ∙ l.invariant.count;
      undone = blocks-turn a.cu a.rate _ _ front c.in-Some.x.now l.self _ (omega arith) cut.1.0 cut.1.2 (rw (← l.invariant.size) cut.1.1) (grind (arith, first, other)) c.block.ensures ∙ l.invariant.undone;
    }

pub returns : goal.returns
returns c =
    let l = c.loop-i in
    sym (blocks-turned c.args.cu c.args.rate _ l.self c.in-None.ensures.steps.1.1.0) ∙ l.invariant.undone
