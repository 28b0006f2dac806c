-- No number that comes before 3 counts missing bytes.
use native.Mathlib.Omega.{arith}
use Rattle.xoodyak.specs.Numbers.{room_number}
use Rattle.xoodyak.proofs.Settle.{keyed-lacks}
use Rattle.xoodyak.proofs.Session.keyed_with_room.Goals as goal

pub returns-in_err-keyed : goal.returns-in_err-keyed
returns-in_err-keyed c = let a = c.args in
    let lacks = keyed-lacks (room_number a.room a.needed) a.room a.needed c.in_err-keyed.field-0.0 a.self c.in_err-keyed.ensures.0 in
    grind (arith, lacks)
