-- The pairs of constants that the iterator still has, taken back from the plain state now, are all six taken back from the first state.
use mathlib.Core.Path.{◌≡◌, sym, ap, ◌∙◌}
use mathlib.Core.List.{[]}
use Prim.Native.Nat.{◌<◌, ◌^◌}
use lib.ListN.{get_or}
use Rattle.std.proofs.Common.{rules}
use Rattle.std.proofs.lemmas.List.{nil_from_length}
use Rattle.std.specs.Iterator.Adapters.{rev_source}
use Rattle.std.specs.Slice.Iter.{iter_rest}
use Rattle.xoodoo.specs.Xoodoo.{unround, unrounds, constants}
use Rattle.xoodoo.specs.Frame.{not_one, not_two}
use Rattle.xoodoo.proofs.Planes.{Good}
use Rattle.xoodoo.proofs.Known.{known}
use Rattle.xoodoo.proofs.Inverse.{round-inverse}
use Rattle.xoodoo.proofs.Nots.{one, two, not_good, twice}
use Rattle.xoodoo.proofs.Walk.{paired, unrounds-push-pair}
use Rattle.xoodoo.proofs.unround.twelve_unrounds.Goals as goal

pub loop-a-preserved : goal.loop-a-preserved
loop-a-preserved c =
    let l = c.loop-a in
    let rest = iter_rest (rev_source c.next.new.self) in
    let a = get_or c.in-Some.field-0.now 0 0 in
    let b = get_or c.in-Some.field-0.now 1 0 in
    let a-lt : a < 2 ^ 32 = search rules in
    let b-lt : b < 2 ^ 32 = search rules in
    let g : Good (unround b (not_one l.t)) = (round-inverse b b-lt).keeps-back (not_good one l.invariant.good) in
    let h : Good (unround a (unround b (not_one l.t))) = (round-inverse a a-lt).keeps-back g in
    let now : c.unround_to_one-t.result ≡ not_one (unround a (unround b (not_one l.t))) =
    c.unround_to_one-t.ensures ∙ ap (λ t. not_one (unround a t)) (ap not_two c.unround_to_two.ensures ∙ twice two g) in
    record {
      good = rw now (not_good one h);
      left = ap (unrounds (paired rest)) (ap not_one now ∙ twice one h)
          ∙ sym (unrounds-push-pair rest c.in-Some.field-0.now (not_one l.t))
          ∙ ap (λ ps. unrounds (paired ps) (not_one l.t)) (sym c.in-Some.ensures.steps)
          ∙ l.invariant.left;
    }

pub returns : goal.returns
unfolding constants unrounds
returns c =
    let l = c.loop-a in
    let begun : Good c.args.s = known c.args.s _ c.well_formed.0 in
    let end : iter_rest (rev_source l.a-iterator) ≡ [] = nil_from_length _ c.in-None.ensures.steps.0 in
    let all : paired (iter_rest (rev_source c.into_iter-a-iterator.result)) ≡ constants =
    ap (λ s. paired (iter_rest (rev_source s))) c.into_iter-a-iterator.ensures.into_iter_gives
    ∙ ap (λ s. paired (iter_rest s)) c.rev-a-items.ensures.source
    ∙ ap paired (c.iter.ensures.rest ∙ c.as_chunks.ensures.front) in
    c.not_one.ensures
    ∙ sym (ap (λ ps. unrounds (paired ps) (not_one l.t)) end)
    ∙ l.invariant.left
    ∙ ap (λ cs. unrounds cs (not_one c.not_one-t.result)) all
    ∙ ap (unrounds constants) (ap not_one c.not_one-t.ensures ∙ twice one begun)
