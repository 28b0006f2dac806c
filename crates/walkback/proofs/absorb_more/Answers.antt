-- Refused by its rate alone; otherwise its blocks are undone at that rate.
use Rattle.xoodyak.proofs.Settle.{rate-fits}
use Rattle.walkback.specs.Walk.{absorbs_more, call_number, steps}
use Rattle.walkback.proofs.Settling.{before-taken, before-refused}
use Rattle.walkback.proofs.absorb_more.Goals as goal

pub returns-in-Err : goal.returns-in-Err
unfolding call_number
returns-in-Err c =
    let a = c.args in
    before-refused a.rule a.mode a.phase (absorbs_more a.bin.now a.rate) a.st _ _ c.in-Err.ensures.0 c.refused.ensures

pub blocks-requires : goal.blocks-requires
blocks-requires c = rate-fits _ _ c.in_default.ensures.0

pub returns : goal.returns
unfolding call_number steps
returns c =
    let a = c.args in
    before-taken a.rule a.mode a.phase (absorbs_more a.bin.now a.rate) a.st _ c.blocks-2.new.self c.in_default.ensures.0 c.blocks-2.ensures c.accepted.ensures
