-- Key and t are copied one after the other, and the length of t fits a byte.
use native.Mathlib.Omega.{arith}
use Rattle.xoodyak.proofs.Turns.{iv-is}
use Rattle.walkback.specs.Walk.{key_run}
use Rattle.walkback.proofs.steps.write_key.Goals as goal

pub returns : goal.returns
unfolding key_run
returns c = let a = c.args in (
  omega arith,
  iv-is a.key.now a.t.now a.run.now c.copy_from_slice.new.self c.copy_from_slice-2.new.self (omega arith) c.copy_from_slice.ensures.after c.copy_from_slice-2.ensures.after,
)
