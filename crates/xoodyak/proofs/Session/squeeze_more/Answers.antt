-- As squeeze, without the first Up.
use lib.ListN.{length}
use Rattle.xoodyak.specs.Calls.{answer_of, squeeze_more_of}
use Rattle.xoodyak.proofs.Settle.{call-taken, call-refused}
use Rattle.xoodyak.proofs.Costs.{squeeze-more-share}
use Rattle.laws.proofs.Clauses.{as_value_and_out_after}
use Rattle.xoodyak.proofs.Session.squeeze_more.Goals as goal

pub returns-in-Err : goal.returns-in-Err
unfolding squeeze_more_of
returns-in-Err c = as_value_and_out_after (call-refused answer_of _ _ c.in-Err.ensures c.refused.ensures)

pub returns : goal.returns
unfolding squeeze_more_of
returns c = as_value_and_out_after (let f = c.squeeze_more in
    let a = c.args in
    call-taken answer_of c.in_default.ensures.0 _ _ _
    (rw (c.paid.ensures, c.block_count.ensures, c.squeeze_rate.ensures, c.onward.ensures, f.ensures.value, squeeze-more-share a.self.duplex (length a.out.now), f.auto.out)) f.ensures.out_after)
