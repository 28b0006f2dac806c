-- Adding the run, the padding and the colour again takes them away.
use mathlib.Core.Path.{◌≡◌, refl, sym, ap, ◌∙◌}
use native.Mathlib.Numerals.{add-one}
use native.Mathlib.Omega.{arith}
use lib.Seq.{take_all}
use Rattle.laws.specs.Lists.{add_front}
use Rattle.laws.specs.Words.{◌⊕◌}
use Rattle.laws.proofs.Lists.{add_front-nil, add_front-step}
use Rattle.xoodyak.specs.Cyclist.{down_bytes}
use Rattle.walkback.specs.Steps.{undo, undoes}
use Rattle.walkback.proofs.steps.Undo.down.Goals as goal

pub loop-i-init : goal.loop-i-init
loop-i-init c = (sym (add_front-nil _), refl)

pub loop-i-preserved : goal.loop-i-preserved
unfolding ◌⊕◌
loop-i-preserved c =
    (rw (add-one, c.loop-i.invariant.0) (add_front-step c.args.self.now.st c.args.x.now c.loop-i.i (omega arith)), c.loop-i.invariant.1)

pub returns : goal.returns
unfolding undo undoes down_bytes ◌⊕◌
returns c =
    let x = c.args.x.now in
    let added : c.loop-i.self.st ≡ add_front c.args.self.now.st x = c.loop-i.invariant.0 ∙ ap (add_front c.args.self.now.st) (take_all c.loop-i.i x (omega arith)) in
    rw (c.down_colour.ensures, added, c.loop-i.invariant.1)
