-- Squeeze_more is never refused, and its steps are undone from its length alone.
use mathlib.Core.Path.{refl}
use Rattle.walkback.specs.Walk.{squeezes_more, call_number, steps}
use Rattle.walkback.proofs.Settling.{before-taken}
use Rattle.walkback.proofs.squeeze_more.Goals as goal

pub returns : goal.returns
unfolding call_number steps
returns c =
    let a = c.args in
    before-taken a.rule a.mode a.phase (squeezes_more a.n) a.st _ c.squeeze_more.new.self refl c.squeeze_more.ensures c.accepted.ensures
