-- Refused in Hash with nothing touched; in Keyed the whole buffer is the message.
use Rattle.xoodyak.specs.Calls.{answer_of}
use Rattle.xoodyak.proofs.Settle.{call-taken, call-refused}
use Rattle.xoodyak.proofs.Message.{crypt-in-place-is}
use Rattle.laws.proofs.Clauses.{as_value_and_in_out_after}
use Rattle.xoodyak.proofs.Session.crypt_in_place.Goals as goal

pub returns-in-Err : goal.returns-in-Err
returns-in-Err c = let a = c.args in
    as_value_and_in_out_after (rw (← crypt-in-place-is a.self a.in_out.now a.kind) (call-refused answer_of _ _ c.in-Err.ensures c.refused.ensures))

pub returns : goal.returns
returns c = as_value_and_in_out_after (let a = c.args in
    let f = c.crypt in
    rw (← crypt-in-place-is a.self a.in_out.now a.kind)
    (call-taken answer_of c.in_default.ensures.0 _ _ _
    (rw (c.paid.ensures, f.ensures.value, c.message_share.ensures, f.auto.buf)) f.ensures.buf_after))
