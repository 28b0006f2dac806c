-- After i turns the front i bytes of src are added to dst; a turn adds one byte more.
use mathlib.Core.Path.{refl, sym}
use native.Mathlib.Numerals.{add-one}
use native.Mathlib.Omega.{arith}
use lib.ListN.{length-set}
use Rattle.laws.specs.Words.{◌⊕◌}
use Rattle.laws.proofs.Lists.{add_front-nil, add_front-step}
use Rattle.xoodyak.proofs.bytes.xor_into.Goals as goal

pub loop-i-init : goal.loop-i-init
loop-i-init c = (omega arith, sym (add_front-nil _), refl)

pub loop-i-preserved : goal.loop-i-preserved
unfolding ◌⊕◌
loop-i-preserved c =
    (omega arith, rw (add-one, c.loop-i.invariant.1) (add_front-step c.args.dst.now c.args.src.now _ c.loop-i-test.true), simp length-set (omega arith))
