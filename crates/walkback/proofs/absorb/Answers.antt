-- Absorb is never refused, and its steps are undone at the absorb rate of the mode.
use mathlib.Core.Path.{refl}
use Rattle.walkback.specs.Walk.{absorbs, call_number, steps}
use Rattle.walkback.proofs.Settling.{before-taken}
use Rattle.walkback.proofs.absorb.Goals as goal

pub returns : goal.returns
unfolding call_number steps
returns c =
    let a = c.args in
    before-taken a.rule a.mode a.phase (absorbs a.bin.now) a.st _ c.absorb.new.self refl (rw (← c.absorb_rate.ensures) c.absorb.ensures) c.accepted.ensures
