-- Down was the later step, so it is undone first.
use Rattle.walkback.specs.Steps.{undo, block_steps}
use Rattle.walkback.proofs.steps.Undo.block.Goals as goal

pub returns : goal.returns
unfolding undo block_steps
returns c = rw (c.up.ensures, c.down.ensures)
