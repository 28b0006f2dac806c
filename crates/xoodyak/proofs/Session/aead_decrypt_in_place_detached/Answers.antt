-- The buffer is opened where it lies.
use Rattle.xoodyak.specs.Calls.{answer_of, open_in_place_detached_of}
use Rattle.xoodyak.proofs.Settle.{call-taken, call-refused}
use Rattle.laws.proofs.Clauses.{as_value_and_in_out_after}
use Rattle.xoodyak.proofs.Session.aead_decrypt_in_place_detached.Goals as goal

pub returns-in-Err : goal.returns-in-Err
unfolding open_in_place_detached_of
returns-in-Err c = as_value_and_in_out_after (call-refused answer_of _ _ c.in-Err.ensures c.refused.ensures)

pub returns : goal.returns
unfolding open_in_place_detached_of
returns c = let f = c.open.ensures in
    as_value_and_in_out_after (call-taken answer_of c.in_default.ensures.0 _ _ _ f.value f.text_after)
