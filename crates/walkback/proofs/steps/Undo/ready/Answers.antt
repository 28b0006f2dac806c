-- There was an Up only where the phase was Down.
use Rattle.walkback.specs.Steps.{undo}
use Rattle.walkback.proofs.steps.Undo.ready.Goals as goal

pub returns-in-Up : goal.returns-in-Up
unfolding undo
returns-in-Up c = rw c.in-Up.is
