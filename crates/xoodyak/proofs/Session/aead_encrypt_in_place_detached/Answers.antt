-- The buffer is sealed where it lies, with the tag in an array of its own.
use mathlib.Core.Path.{◌∙◌}
use Rattle.xoodyak.specs.Calls.{sealed_of, seal_in_place_detached_of}
use Rattle.xoodyak.proofs.Settle.{call-taken, call-refused}
use Rattle.laws.proofs.Clauses.{as_value_and_in_out_after}
use Rattle.xoodyak.proofs.Session.aead_encrypt_in_place_detached.Goals as goal

pub returns-in-Err : goal.returns-in-Err
unfolding seal_in_place_detached_of
returns-in-Err c = as_value_and_in_out_after (call-refused sealed_of _ _ c.in-Err.ensures (c.sealed.ensures ∙ rw (c.refused.ensures, c.default.ensures)))

pub returns : goal.returns
unfolding seal_in_place_detached_of
returns c = let f = c.seal.ensures in
    as_value_and_in_out_after (call-taken sealed_of c.in_default.ensures.0 _ _ _ (c.sealed-2.ensures ∙ rw (c.from_bytes.ensures, f.value, f.tag_after)) f.text_after)
