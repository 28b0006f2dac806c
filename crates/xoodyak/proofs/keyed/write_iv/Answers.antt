-- Key and t are copied one after the other, and the length of t fits a byte.
use native.Mathlib.Omega.{arith}
use Rattle.xoodyak.proofs.Turns.{iv-is}
use Rattle.xoodyak.proofs.keyed.write_iv.Goals as goal

pub returns : goal.returns
returns c =
    let a = c.args in
    let f = c.copy_from_slice in
    let g = c.copy_from_slice-2 in
    (omega arith, iv-is a.key.now a.t.now a.iv.now f.new.self g.new.self (omega arith) f.ensures.after g.ensures.after)
