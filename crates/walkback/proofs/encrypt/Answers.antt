-- Refused in Hash; otherwise the blocks of the message are undone, as the rule gives them.
use Rattle.walkback.specs.Walk.{encrypts, call_number, steps}
use Rattle.walkback.proofs.Settling.{before-taken, before-refused}
use Rattle.walkback.proofs.encrypt.Goals as goal

pub returns-in-Err : goal.returns-in-Err
unfolding call_number
returns-in-Err c =
    let a = c.args in
    before-refused a.rule a.mode a.phase (encrypts a.plaintext.now) a.st _ _ c.in-Err.ensures.0 c.refused.ensures

pub returns : goal.returns
unfolding call_number steps
returns c =
    let a = c.args in
    before-taken a.rule a.mode a.phase (encrypts a.plaintext.now) a.st _ c.message.new.self c.in_default.ensures.0 c.message.ensures c.accepted.ensures
