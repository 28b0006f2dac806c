-- The ciphertext is opened at the front of the output.
use Rattle.xoodyak.specs.Calls.{answer_of, open_detached_of}
use Rattle.xoodyak.proofs.Settle.{call-taken, call-refused, roomy}
use Rattle.laws.proofs.Clauses.{as_value_and_out_after}
use borrow.Author.Rules.{rules}
use Rattle.xoodyak.proofs.Session.aead_decrypt_detached.Goals as goal

pub returns-in-Err : goal.returns-in-Err
unfolding open_detached_of
returns-in-Err c = as_value_and_out_after (rw (← c.or_empty-c.ensures) (call-refused answer_of _ _ c.in-Err.ensures c.refused.ensures))

pub open_into-requires : goal.open_into-requires
open_into-requires c = (roomy c.args.self _ _ c.in_default.ensures.0, search rules)

pub returns : goal.returns
unfolding open_detached_of
returns c = let f = c.open_into.ensures in
    as_value_and_out_after (rw (← c.or_empty-c.ensures) (call-taken answer_of c.in_default.ensures.0 _ _ _ f.value f.out_after))
