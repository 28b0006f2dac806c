-- The fold of differences is zero exactly while all bytes passed are equal; a turn folds one byte more.
use mathlib.Core.Path.{refl}
use native.Mathlib.Omega.{arith}
use native.Mathlib.Numerals.{add-one}
use lib.ListN.{length}
use Rattle.std.proofs.lemmas.List.{length_push, take_all}
use Rattle.std.proofs.lemmas.Slice.Zip.{zip_turn, zip_end}
use Rattle.laws.specs.Words.{◌⊕◌}
use Rattle.xoodyak.specs.Calls.{same_bytes}
use Rattle.xoodyak.proofs.Same.{acc-step, same_step}
use Rattle.xoodyak.proofs.bytes.same_bytes.Goals as goal

pub loop-x-init : goal.loop-x-init
unfolding same_bytes
loop-x-init c = refl

pub loop-x-preserved : goal.loop-x-preserved
unfolding ◌⊕◌
loop-x-preserved c =
    let a = c.args.a.now in
    let b = c.args.b.now in
    let t = zip_turn a b c.loop-x.yielded c.into_iter-x-iterator.result c.loop-x.x-iterator c.next.new.self _ (cc) (cc) c.loop-x.yielded_by _ c.in-Some.is c.next.ensures.steps in
    rw (length_push, t.2 0, t.3 0, add-one, same_step a b (length c.loop-x.yielded) t.0 t.1, ← c.loop-x.invariant) (acc-step c.loop-x.acc _ _)

pub returns : goal.returns
returns c =
    let a = c.args.a.now in
    let b = c.args.b.now in
    let t = zip_end a b c.loop-x.yielded c.into_iter-x-iterator.result c.loop-x.x-iterator c.next.new.self _ (cc) (cc) c.loop-x.yielded_by c.in-None.is c.next.ensures.steps in
    rw (c.loop-x.invariant, take_all (length c.loop-x.yielded) a (omega arith), take_all (length c.loop-x.yielded) b (omega arith)) refl
