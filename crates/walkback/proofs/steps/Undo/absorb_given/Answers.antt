-- An absent slice has no steps.
use Rattle.walkback.proofs.Undoing.{given-none}
use Rattle.walkback.proofs.steps.Undo.absorb_given.Goals as goal

pub returns-in_default : goal.returns-in_default
returns-in_default c = given-none _ _ _ c.in_default.is
