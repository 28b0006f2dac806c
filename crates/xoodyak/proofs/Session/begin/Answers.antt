-- Refused with nothing touched; otherwise the session has a message begun.
use Rattle.xoodyak.specs.Calls.{answer_of}
use Rattle.xoodyak.specs.Feed.{begin_of}
use Rattle.xoodyak.proofs.Settle.{answer-taken, answer-refused}
use Rattle.xoodyak.proofs.Session.begin.Goals as goal

pub returns-in-Err : goal.returns-in-Err
unfolding begin_of
returns-in-Err c = answer-refused answer_of _ _ c.in-Err.ensures c.refused.ensures

pub returns : goal.returns
unfolding begin_of
returns c = answer-taken answer_of c.in_default.ensures.0 _ _ _ c.paid.ensures
