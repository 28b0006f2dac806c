-- The rounds that are left, of the state now, are all n of the first state.
use mathlib.Core.Path.{◌≡◌, sym, ap, ◌∙◌}
use mathlib.Core.List.{List}
use Prim.Native.Nat.{ℕ, ◌+◌, ◌-◌}
use native.Mathlib.Omega.{arith}
use lib.ListN.{drop, length, length-drop}
use lib.Seq.{take_all}
use borrow.Rule.Slice.PartMut.{mid_of}
use Rattle.xoodoo.specs.Xoodoo.{rounds, constants, last_of}
use Rattle.xoodoo.proofs.Walk.{rounds-next, rounds-end}
use Rattle.xoodoo.proofs.round.rounds.Goals as goal

-- what the loop goes over
keys : ℕ → List ℕ
keys n = mid_of (12 - n) (12 - (12 - n)) constants

keys-last : (n : ℕ) → keys n ≡ last_of n
unfolding keys last_of constants
keys-last n = take_all (12 - (12 - n)) (drop (12 - n) constants) (omega (arith, length-drop (12 - n) constants))

pub loop-key-preserved : goal.loop-key-preserved
unfolding keys constants
loop-key-preserved c =
    let o = c.loop-key in
    ap (λ s. rounds (drop (o.key-index + 1) (keys c.args.n)) s) c.round-t.ensures
    ∙ sym (rounds-next (keys c.args.n) o.key-index o.t c.loop-key-test.true)
    ∙ o.invariant

pub returns : goal.returns
unfolding keys constants
returns c =
    let o = c.loop-key in
    let e : length (keys c.args.n) ≡ o.key-index = omega (arith, c.loop-key-test.false, o.auto.key-index-end) in
    sym (rounds-end (keys c.args.n) o.t)
    ∙ ap (λ k. rounds (drop k (keys c.args.n)) o.t) e
    ∙ o.invariant
    ∙ ap (λ l. rounds l c.args.s) (keys-last c.args.n)
