-- All but the last 16 bytes are opened where they lie, by the tag in those, which stays.
use Rattle.xoodyak.specs.Calls.{answer_of, open_in_place_of}
use Rattle.xoodyak.proofs.Settle.{call-refused, tagged}
use Rattle.laws.proofs.Clauses.{as_value_and_in_out_after}
use Rattle.xoodyak.proofs.Session.aead_decrypt_in_place.Goals as goal

pub returns-in-Err : goal.returns-in-Err
unfolding open_in_place_of
returns-in-Err c = as_value_and_in_out_after (call-refused answer_of _ _ c.in-Err.ensures c.refused.ensures)

pub overflow_sub-len : goal.overflow_sub-len
overflow_sub-len c = tagged c.args.self _ c.in_default.ensures.0
