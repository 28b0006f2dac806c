-- Refused on an unfinished message; otherwise the absorb rate of either mode is in reach, and the colour is 03.
use Rattle.xoodyak.specs.Calls.{answer_of, absorb_of}
use Rattle.xoodyak.proofs.Settle.{answer-taken, answer-refused, absorb-rate-fits}
use Rattle.xoodyak.proofs.Costs.{absorb-share}
use Rattle.xoodyak.proofs.Session.absorb.Goals as goal

pub returns-in-Err : goal.returns-in-Err
unfolding absorb_of
returns-in-Err c = answer-refused answer_of _ _ c.in-Err.ensures c.refused.ensures

pub returns : goal.returns
unfolding absorb_of
returns c =
    let d = c.args.self.duplex in
    let p = (absorb-rate-fits d.mode).0 in
    answer-taken answer_of c.in_default.ensures.0 _ _ _
    (rw (c.paid.ensures, c.absorb_share.ensures, c.onward.ensures, c.absorb_any.ensures, c.absorb_rate-rate.ensures, absorb-share _ 3 d _ p))
