-- All but the last 16 bytes of the input are opened at the front of the output, by the tag in those.
use mathlib.Core.Path.{ap, ◌∙◌}
use Prim.Native.Nat.{◌-◌}
use native.Mathlib.Omega.{arith}
use lib.ListN.{length, replicate, length-drop, length-take}
use Rattle.xoodyak.specs.Calls.{Outcome, answer_of, open_of}
use Rattle.xoodyak.proofs.Settle.{call-taken, call-refused, tagged, room_fits, before-room, after-tag, none-of}
use Rattle.xoodyak.proofs.Sealing.{open-parts}
use Rattle.laws.proofs.Clauses.{as_value_and_out_after}
use Rattle.xoodyak.proofs.Session.aead_decrypt.Goals as goal

pub returns-in-Err : goal.returns-in-Err
unfolding open_of
returns-in-Err c = let a = c.args in
    as_value_and_out_after (call-refused answer_of _ _ (before-room _ a.self (length a.bin.now) (length a.out.now) (length a.bin.now - 16) c.in-Err.ensures) c.refused.ensures)

pub overflow_sub-n : goal.overflow_sub-n
overflow_sub-n c = tagged c.args.self _ c.in_default.ensures.0

pub returns-in-Err-has_room : goal.returns-in-Err-has_room
unfolding open_of
returns-in-Err-has_room c = let a = c.args in
    as_value_and_out_after (call-refused answer_of _ _ (after-tag _ a.self (length a.bin.now) (length a.out.now) (length a.bin.now - 16) c.in_default.ensures.0 c.in-Err-has_room.ensures)
    c.refused-in-Err-has_room.ensures)

pub open_into-requires : goal.open_into-requires
open_into-requires c =
    let tag = tagged c.args.self _ c.in_default.ensures.0 in
    let room = room_fits _ _ c.in_default-has_room.ensures.0 in
    (simp length-take (omega arith), simp (length-take, length-drop) (omega arith))

pub returns : goal.returns
unfolding open_of
returns c = let a = c.args in
    let f = c.open_into.ensures in
    let e = open-parts a.self a.out.now a.bin.now (tagged a.self _ c.in_default.ensures.0) (replicate (length a.out.now) 0) in
    as_value_and_out_after (call-taken answer_of (none-of _ _ c.in_default.ensures.0 c.in_default-has_room.ensures.0) _ _ _
    (f.value ∙ ap answer_of e) (f.out_after ∙ ap (λ (x : Outcome). x.bytes) e))
