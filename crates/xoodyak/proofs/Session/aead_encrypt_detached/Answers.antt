-- The message is copied and sealed at the front, with the tag in an array of its own.
use native.Mathlib.Omega.{arith}
use lib.ListN.{length-take}
use mathlib.Core.Path.{◌∙◌}
use borrow.Author.Rules.{rules}
use Rattle.xoodyak.specs.Calls.{sealed_of, seal_detached_of}
use Rattle.xoodyak.proofs.Settle.{call-taken, call-refused, roomy}
use Rattle.laws.proofs.Clauses.{as_value_and_out_after}
use Rattle.xoodyak.proofs.Session.aead_encrypt_detached.Goals as goal

pub returns-in-Err : goal.returns-in-Err
unfolding seal_detached_of
returns-in-Err c =
    as_value_and_out_after (rw (← c.or_empty-m.ensures) (call-refused sealed_of _ _ c.in-Err.ensures (c.sealed.ensures ∙ rw (c.refused.ensures, c.default.ensures))))

pub slice_bounds-text-end : goal.slice_bounds-text-end
slice_bounds-text-end c = roomy c.args.self _ _ c.in_default.ensures.0

pub slice_bounds-text-end-2 : goal.slice_bounds-text-end-2
slice_bounds-text-end-2 c =
    let room = roomy c.args.self _ _ c.in_default.ensures.0 in
    search rules

pub copy_into-requires : goal.copy_into-requires
copy_into-requires c =
    let room = roomy c.args.self _ _ c.in_default.ensures.0 in
    simp length-take (omega arith)

pub returns : goal.returns
unfolding seal_detached_of
returns c = let f = c.seal.ensures in
    let w = c.copy_into.ensures in
    as_value_and_out_after (rw (← c.or_empty-m.ensures)
    (call-taken sealed_of c.in_default.ensures.0 _ _ _ (c.sealed-2.ensures ∙ rw (c.from_bytes.ensures, f.value, f.tag_after, w)) (rw (f.text_after, w))))
