-- Refused on an unfinished message with nothing touched; otherwise squeezed: the session moves on, the buffer is filled.
use lib.ListN.{length}
use Rattle.xoodyak.specs.Calls.{answer_of, squeeze_of}
use Rattle.xoodyak.proofs.Settle.{call-taken, call-refused}
use Rattle.xoodyak.proofs.Costs.{squeeze-share}
use Rattle.laws.proofs.Clauses.{as_value_and_out_after}
use Rattle.xoodyak.proofs.Session.squeeze_with.Goals as goal

pub returns-in-Err : goal.returns-in-Err
unfolding squeeze_of
returns-in-Err c = as_value_and_out_after (call-refused answer_of _ _ c.in-Err.ensures c.refused.ensures)

pub returns : goal.returns
unfolding squeeze_of
returns c = as_value_and_out_after (let f = c.squeeze_any in
    let a = c.args in
    call-taken answer_of c.in_default.ensures.0 _ _ _
    (rw (c.paid.ensures, c.squeeze_share.ensures, c.onward.ensures, f.ensures.value, squeeze-share a.self.duplex (length a.out.now) a.cu, f.auto.out)) f.ensures.out_after)
