-- The message is copied and sealed at the front, with the tag in the 16 bytes after it.
use native.Mathlib.Omega.{arith}
use borrow.Author.Rules.{rules}
use Rattle.xoodyak.specs.Calls.{answer_of, seal_of}
use Rattle.xoodyak.proofs.Settle.{call-taken, call-refused, roomy}
use Rattle.laws.proofs.Clauses.{as_value_and_out_after}
use lib.Seq.{drop-drop}
use mathlib.Core.Path.{◌∙◌}
use Prim.Native.Nat.{◌≤◌}
use lib.ListN.{length}
use lib.Seq.{length-take-le}
use Rattle.xoodyak.proofs.Session.aead_encrypt.Goals as goal

pub returns-in-Err : goal.returns-in-Err
unfolding seal_of
returns-in-Err c = as_value_and_out_after (rw (← c.or_empty-m.ensures) (call-refused answer_of _ _ c.in-Err.ensures c.refused.ensures))

pub split_at_mut-text-requires : goal.split_at_mut-text-requires
split_at_mut-text-requires c = omega (arith, roomy c.args.self _ _ c.in_default.ensures.0)

pub slice_bounds-seal-end : goal.slice_bounds-seal-end
slice_bounds-seal-end c = omega (arith, roomy c.args.self _ _ c.in_default.ensures.0, c.split_at_mut-text.ensures.back_len)

pub slice_bounds-seal-end-2 : goal.slice_bounds-seal-end-2
slice_bounds-seal-end-2 c =
    let rest : 16 ≤ length c.split_at_mut-text.result.1.now = omega (arith, roomy c.args.self _ _ c.in_default.ensures.0, c.split_at_mut-text.ensures.back_len) in
    search rules

pub seal-requires : goal.seal-requires
seal-requires c = length-take-le 16 c.split_at_mut-text.result.1.now (omega (arith, roomy c.args.self _ _ c.in_default.ensures.0, c.split_at_mut-text.ensures.back_len))

pub returns : goal.returns
unfolding seal_of
returns c = let parts = c.split_at_mut-text.ensures in
    let f = c.seal.ensures in
    let w = c.copy_into.ensures in
    as_value_and_out_after (rw (← c.or_empty-m.ensures)
    (call-taken answer_of c.in_default.ensures.0 _ _ _ (f.value ∙ rw w) (rw (f.text_after, f.tag_after, w, parts.back, drop-drop 16 (length c.or_empty-m.result.now) c.args.out.now))))
