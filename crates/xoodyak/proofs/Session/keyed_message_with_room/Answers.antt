-- No number that comes before 3 counts missing bytes.
use native.Mathlib.Omega.{arith}
use Rattle.xoodyak.specs.Numbers.{room_number}
use Rattle.xoodyak.proofs.Settle.{message-lacks}
use Rattle.xoodyak.proofs.Session.keyed_message_with_room.Goals as goal

pub returns-in_err-keyed_message : goal.returns-in_err-keyed_message
returns-in_err-keyed_message c = let a = c.args in
    let lacks = message-lacks (room_number a.room a.needed) a.room a.needed c.in_err-keyed_message.field-0.0 a.kind a.self c.in_err-keyed_message.ensures.0 in
    grind (arith, lacks)
