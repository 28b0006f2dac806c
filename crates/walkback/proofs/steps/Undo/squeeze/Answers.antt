-- All but the first block are undone first, then the Up with cu, which every squeeze has.
use Rattle.walkback.specs.Steps.{undo, squeeze_steps}
use Rattle.walkback.proofs.steps.Undo.squeeze.Goals as goal

pub returns : goal.returns
unfolding undo squeeze_steps
returns c = rw (c.up.ensures, c.squeeze_more.ensures, c.saturating_sub.ensures, c.squeeze_rate.ensures)
