-- Refused with nothing touched; otherwise the message is copied to the front of the output and run there, and what lies past it stays.
use native.Mathlib.Omega.{arith}
use lib.ListN.{length-take}
use borrow.Author.Rules.{rules}
use Rattle.xoodyak.specs.Calls.{answer_of}
use Rattle.xoodyak.proofs.Settle.{call-taken, call-refused, roomy}
use Rattle.xoodyak.proofs.Message.{crypt-is}
use Rattle.laws.proofs.Clauses.{as_value_and_out_after}
use Rattle.xoodyak.proofs.Session.crypt_into.Goals as goal

pub returns-in-Err : goal.returns-in-Err
returns-in-Err c = let a = c.args in
    as_value_and_out_after (rw (← crypt-is a.self a.bin.now a.kind a.out.now) (call-refused answer_of _ _ c.in-Err.ensures c.refused.ensures))

pub slice_bounds-text-end : goal.slice_bounds-text-end
slice_bounds-text-end c = roomy c.args.self _ _ c.in_default.ensures.0

pub slice_bounds-text-end-2 : goal.slice_bounds-text-end-2
slice_bounds-text-end-2 c =
    let room = roomy c.args.self _ _ c.in_default.ensures.0 in
    search rules

pub copy_into-requires : goal.copy_into-requires
copy_into-requires c =
    let room = roomy c.args.self _ _ c.in_default.ensures.0 in
    simp length-take (omega arith)

pub returns : goal.returns
returns c = as_value_and_out_after (let a = c.args in
    let f = c.crypt in
    rw (← crypt-is a.self a.bin.now a.kind a.out.now)
    (call-taken answer_of c.in_default.ensures.0 _ _ _
    (rw (c.paid.ensures, f.ensures.value, c.copy_into.ensures, c.message_share.ensures))
    (rw (f.ensures.buf_after, c.copy_into.ensures))))
