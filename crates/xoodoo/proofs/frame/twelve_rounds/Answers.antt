-- The rounds that are left, of the plain state now, are all twelve of the first state.
use mathlib.Core.Path.{◌≡◌, refl, sym, ap, ◌∙◌}
use mathlib.Core.List.{List, [], ◌∷◌}
use Prim.Native.Nat.{ℕ, zero, suc, ◌+◌, ◌*◌, ◌<◌}
use native.Mathlib.Omega.{arith}
use lib.ListN.{drop, get_or, length}
use Rattle.xoodoo.specs.Xoodoo.{rounds, constants}
use Rattle.xoodoo.specs.Frame.{not_one}
use Rattle.xoodoo.specs.declared.round.State.{State}
use Rattle.xoodoo.proofs.Planes.{Good}
use Rattle.xoodoo.proofs.Known.{known}
use Rattle.xoodoo.proofs.Inverse.{constant-lt}
use Rattle.xoodoo.proofs.Nots.{one, not_good, twice, quick-good}
use Rattle.xoodoo.proofs.Walk.{rounds-end}
use Rattle.xoodoo.proofs.frame.twelve_rounds.Goals as goal

-- the constants by fours
fours : List (List ℕ)
fours = (88 ∷ 56 ∷ 960 ∷ 208 ∷ []) ∷ (288 ∷ 20 ∷ 96 ∷ 44 ∷ []) ∷ (896 ∷ 240 ∷ 416 ∷ 18 ∷ []) ∷ []

quads : ℕ → List ℕ
quads i = get_or (get_or fours i []) 0 0 ∷ get_or (get_or fours i []) 1 0 ∷ get_or (get_or fours i []) 2 0 ∷ get_or (get_or fours i []) 3 0 ∷ []

four-more : (i : ℕ) (s : State) → i < 3 → Good s
    → Good (rounds (quads i) (not_one s))
    × (rounds (drop (i * 4) constants) (not_one s) ≡ rounds (drop ((i + 1) * 4) constants) (rounds (quads i) (not_one s)))
unfolding quads fours constants rounds
four-more zero s h g = (quick-good (constant-lt 0) (constant-lt 1) (constant-lt 2) (constant-lt 3) g, refl)
four-more (suc zero) s h g = (quick-good (constant-lt 4) (constant-lt 5) (constant-lt 6) (constant-lt 7) g, refl)
four-more (suc (suc zero)) s h g = (quick-good (constant-lt 8) (constant-lt 9) (constant-lt 10) (constant-lt 11) g, refl)
four-more (suc (suc (suc i))) s h g = absurd (omega arith)

pub loop-a-preserved : goal.loop-a-preserved
unfolding quads fours
loop-a-preserved c =
    let o = c.loop-a in
    let i = o.a-index in
    let l : length c.as_chunks.result.0.now ≡ 3 = c.as_chunks.ensures.front_len in
    let m = four-more i o.t (omega (arith, c.loop-a-test.true)) o.invariant.0 in
    let q : c.four_rounds-t.result ≡ not_one (rounds (quads i) (not_one o.t)) = c.four_rounds-t.ensures
    ∙ ap (λ (f : List (List ℕ)). not_one (rounds (get_or (get_or f i []) 0 0 ∷ get_or (get_or f i []) 1 0 ∷ get_or (get_or f i []) 2 0 ∷ get_or (get_or f i []) 3 0 ∷ []) (not_one o.t))) c.as_chunks.ensures.front in (
      rw q (not_good one m.0),
      ap (λ s. rounds (drop ((i + 1) * 4) constants) (not_one s)) q
          ∙ ap (rounds (drop ((i + 1) * 4) constants)) (twice one m.0)
          ∙ sym m.1
          ∙ o.invariant.1,
    )

pub returns : goal.returns
unfolding constants
returns c =
    let begun : Good c.args.s = known c.args.s _ c.well_formed.0 in
    let o = c.loop-a in
    let l : length c.as_chunks.result.0.now ≡ 3 = c.as_chunks.ensures.front_len in
    let e : 12 ≡ o.a-index * 4 = omega (arith, c.loop-a-test.false, o.auto.a-index-end) in
    c.not_one.ensures ∙ sym (rounds-end constants (not_one o.t)) ∙ ap (λ n. rounds (drop n constants) (not_one o.t)) e ∙ o.invariant.1
    ∙ ap (rounds constants) (ap not_one c.not_one-t.ensures ∙ twice one begun)
