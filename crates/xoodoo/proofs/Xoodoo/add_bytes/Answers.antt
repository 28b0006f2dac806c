-- After i turns the first i bytes of the run are added.
use mathlib.Core.Path.{◌≡◌, sym, ap, ◌∙◌}
use native.Mathlib.Omega.{arith}
use lib.ListN.{length}
use lib.Seq.{take_all}
use borrow.Author.Rules.{rules}
use borrow.Author.Tests.{le-leb, lt-leb}
use Rattle.laws.specs.Words.{◌⊕◌}
use Rattle.laws.specs.Lists.{add_front}
use Rattle.xoodoo.specs.Calls.{add_bytes_of}
use Rattle.xoodoo.proofs.Runs.{add-front-none, add-front-next}
use Rattle.xoodoo.proofs.Xoodoo.add_bytes.Goals as goal

pub returns-then-bytes-gt48 : goal.returns-then-bytes-gt48
unfolding add_bytes_of
returns-then-bytes-gt48 c = rw (lt-leb _ _ c.if-bytes-gt48.true) c.refused.ensures

pub loop-i-init : goal.loop-i-init
loop-i-init c = sym (add-front-none c.args.self.st)

pub loop-i-preserved : goal.loop-i-preserved
unfolding ◌⊕◌
loop-i-preserved c =
    let h : length c.args.self.st ≡ 48 = search rules in
    add-front-next c.args.self.st _ _ c.loop-i.i (omega arith) (search rules) c.loop-i.invariant

pub returns : goal.returns
unfolding add_bytes_of
returns c =
    let st = c.args.self.st in
    rw (le-leb _ _ c.if-bytes-gt48.false) (c.done.ensures
    ∙ ap (λ l. record { state = record { st = l }; number = 0 }) (c.loop-i.invariant ∙ ap (add_front st) (take_all c.loop-i.i _ (omega arith))))
