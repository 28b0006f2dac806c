-- The constants that the iterator still has, taken back from the state now, are all n taken back from the first state.
use mathlib.Core.Path.{◌≡◌, sym, ap, ◌∙◌}
use mathlib.Core.List.{[]}
use Prim.Native.Nat.{◌-◌}
use native.Mathlib.Omega.{arith}
use lib.ListN.{drop, length-drop}
use lib.Seq.{take_all}
use Rattle.std.proofs.lemmas.List.{nil_from_length}
use Rattle.std.specs.Iterator.Adapters.{rev_source}
use Rattle.std.specs.Slice.Iter.{iter_rest}
use Rattle.xoodoo.specs.Xoodoo.{unrounds, constants, last_of}
use Rattle.xoodoo.proofs.Walk.{unrounds-push}
use Rattle.xoodoo.proofs.unround.unrounds.Goals as goal

pub loop-key-preserved : goal.loop-key-preserved
loop-key-preserved c =
    let l = c.loop-key in
    let rest = iter_rest (rev_source c.next.new.self) in
    ap (unrounds rest) c.unround-t.ensures
    ∙ sym (unrounds-push rest c.in-Some.key.now l.t)
    ∙ ap (λ cs. unrounds cs l.t) (sym c.in-Some.ensures.steps)
    ∙ l.invariant

pub returns : goal.returns
unfolding last_of constants unrounds
returns c =
    let l = c.loop-key in
    let n = c.args.n in
    let end : iter_rest (rev_source l.key-iterator) ≡ [] = nil_from_length _ c.in-None.ensures.steps.0 in
    let all : iter_rest (rev_source c.into_iter-key-iterator.result) ≡ last_of n =
    ap (λ s. iter_rest (rev_source s)) c.into_iter-key-iterator.ensures.into_iter_gives
    ∙ ap iter_rest c.rev-key-items.ensures.source
    ∙ c.iter.ensures.rest
    ∙ take_all (12 - (12 - n)) (drop (12 - n) constants) (omega (arith, length-drop (12 - n) constants)) in
    sym (ap (λ cs. unrounds cs l.t) end) ∙ l.invariant ∙ ap (λ cs. unrounds cs c.args.s) all
