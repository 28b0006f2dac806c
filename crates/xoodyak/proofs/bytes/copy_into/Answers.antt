-- After i turns dst is the front i bytes of src, then what dst held past them; a turn copies one byte more.
use mathlib.Core.Path.{◌∙◌}
use mathlib.Core.List.{append-nil}
use native.Mathlib.Numerals.{add-one}
use native.Mathlib.Omega.{arith}
use lib.ListN.{length-set, drop_of_length-le}
use lib.Seq.{take_all}
use Rattle.laws.proofs.Lists.{copy_step}
use Rattle.xoodyak.proofs.bytes.copy_into.Goals as goal

pub loop-i-preserved : goal.loop-i-preserved
loop-i-preserved c = (omega arith, rw (add-one, c.loop-i.invariant.1) (copy_step c.args.dst.now c.args.src.now c.loop-i.i (omega arith) (omega arith)), simp length-set (omega arith))

pub returns : goal.returns
returns c =
    c.loop-i.invariant.1 ∙ rw (take_all c.loop-i.i c.args.src.now (omega arith), drop_of_length-le c.args.dst.now {i = c.loop-i.i} (omega arith)) (append-nil c.args.src.now)
