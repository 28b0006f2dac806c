-- Squeeze_key is never refused, and differs from a squeeze in its colour.
use mathlib.Core.Path.{refl}
use Rattle.walkback.specs.Walk.{squeezes_key, call_number, steps}
use Rattle.walkback.proofs.Settling.{before-taken}
use Rattle.walkback.proofs.squeeze_key.Goals as goal

pub returns : goal.returns
unfolding call_number steps
returns c =
    let a = c.args in
    before-taken a.rule a.mode a.phase (squeezes_key a.n) a.st _ c.squeeze.new.self refl c.squeeze.ensures c.accepted.ensures
