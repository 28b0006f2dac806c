-- Refused in Hash; otherwise the tag, which came last, is undone first.
use Rattle.walkback.specs.Walk.{seals, call_number, steps}
use Rattle.walkback.proofs.Undoing.{append-undone}
use Rattle.walkback.proofs.Settling.{before-taken, before-refused}
use Rattle.walkback.proofs.seal.Goals as goal

pub returns-in-Err : goal.returns-in-Err
unfolding call_number
returns-in-Err c =
    let a = c.args in
    before-refused a.rule a.mode a.phase (seals a.plaintext.now) a.st _ _ c.in-Err.ensures.0 c.refused.ensures

pub returns : goal.returns
unfolding call_number steps
returns c =
    let a = c.args in
    before-taken a.rule a.mode a.phase (seals a.plaintext.now) a.st _ c.message.new.self c.in_default.ensures.0
    (append-undone _ _ _ _ _ c.squeeze.ensures c.message.ensures)
    c.accepted.ensures
