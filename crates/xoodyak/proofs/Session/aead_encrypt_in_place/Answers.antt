-- All but the last 16 bytes are sealed where they lie, with the tag in those.
use native.Mathlib.Omega.{arith}
use Rattle.xoodyak.specs.Calls.{answer_of, seal_in_place_of}
use Rattle.xoodyak.proofs.Settle.{call-taken, call-refused, tagged}
use Rattle.laws.proofs.Clauses.{as_value_and_in_out_after}
use mathlib.Core.Path.{◌∙◌}
use Rattle.xoodyak.proofs.Session.aead_encrypt_in_place.Goals as goal

pub returns-in-Err : goal.returns-in-Err
unfolding seal_in_place_of
returns-in-Err c = as_value_and_in_out_after (call-refused answer_of _ _ c.in-Err.ensures c.refused.ensures)

pub overflow_sub-len : goal.overflow_sub-len
overflow_sub-len c = tagged c.args.self _ c.in_default.ensures.0

pub seal-requires : goal.seal-requires
seal-requires c = omega (arith, tagged c.args.self _ c.in_default.ensures.0, c.split_at_mut-text.ensures.back_len)

pub returns : goal.returns
unfolding seal_in_place_of
returns c = let parts = c.split_at_mut-text.ensures in
    let f = c.seal.ensures in
    as_value_and_in_out_after (call-taken answer_of c.in_default.ensures.0 _ _ _ (f.value ∙ rw parts.front) (rw (f.text_after, f.tag_after, parts.front)))
