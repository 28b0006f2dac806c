-- Refused on an unfinished message or where the rate is; otherwise the rate is in reach.
use Rattle.xoodyak.specs.Calls.{answer_of, absorb_more_of}
use Rattle.xoodyak.proofs.Costs.{absorb-more-share}
use Rattle.xoodyak.proofs.Settle.{answer-taken, answer-refused, second-zero, rate-fits}
use Rattle.xoodyak.proofs.Session.absorb_more.Goals as goal

pub returns-in-Err : goal.returns-in-Err
unfolding absorb_more_of
returns-in-Err c = answer-refused answer_of _ _ c.in-Err.ensures c.refused.ensures

pub absorb_more-requires : goal.absorb_more-requires
absorb_more-requires c = rate-fits _ _ (second-zero _ _ c.in_default.ensures.0)

pub block_count-requires : goal.block_count-requires
block_count-requires c = (rate-fits _ _ (second-zero _ _ c.in_default.ensures.0)).0

pub returns : goal.returns
unfolding absorb_more_of
returns c =
    let reach = rate-fits _ _ (second-zero _ _ c.in_default.ensures.0) in
    answer-taken answer_of c.in_default.ensures.0 _ _ _
    (rw (c.paid.ensures, c.block_count.ensures, c.onward.ensures, c.absorb_more.ensures, absorb-more-share c.args.rate c.args.self.duplex c.args.bin.now reach.0))
