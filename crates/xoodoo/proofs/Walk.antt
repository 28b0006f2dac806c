-- The rounds one constant at a time, as the loops take them: forwards from the i-th on, and backwards from the last of a list.
use mathlib.Core.Path.{◌≡◌, refl, sym, ap, ◌∙◌}
use mathlib.Core.List.{List, [], ◌∷◌}
use Prim.Native.Nat.{ℕ, ◌+◌, ◌<◌}
use native.Mathlib.Numerals.{add-one}
use lib.ListN.{length, drop, get_or}
use lib.Seq.{drop-cons, drop-length}
use Rattle.std.specs.List.{push}
use Rattle.xoodoo.specs.Xoodoo.{round, unround, rounds, unrounds}
use Rattle.xoodoo.specs.declared.round.State.{State}

-- from the i-th on: the i-th, and then the rest
next : (cs : List ℕ) (i : ℕ) → i < length cs → drop i cs ≡ get_or cs i 0 ∷ drop (i + 1) cs
next cs i h = drop-cons cs i 0 h ∙ ap (λ (n : ℕ). get_or cs i 0 ∷ drop n cs) (sym (add-one i))

pub rounds-next : (cs : List ℕ) (i : ℕ) (s : State) → i < length cs
    → rounds (drop i cs) s ≡ rounds (drop (i + 1) cs) (round (get_or cs i 0) s)
unfolding rounds
rounds-next cs i s h = ap (λ (l : List ℕ). rounds l s) (next cs i h)

pub rounds-end : (cs : List ℕ) (s : State) → rounds (drop (length cs) cs) s ≡ s
unfolding rounds
rounds-end cs s = ap (λ (l : List ℕ). rounds l s) (drop-length cs)

pub unrounds-push : (cs : List ℕ) (c : ℕ) (s : State) → unrounds (push cs c) s ≡ unrounds cs (unround c s)
unfolding unrounds
unrounds-push [] c s = refl
unrounds-push (d ∷ cs) c s = ap (unround d) (unrounds-push cs c s)

-- the constants of a list of pairs
abbrev pub paired : List (List ℕ) → List ℕ
paired [] = []
paired (p ∷ ps) = get_or p 0 0 ∷ get_or p 1 0 ∷ paired ps

pub unrounds-push-pair : (ps : List (List ℕ)) (p : List ℕ) (s : State)
    → unrounds (paired (push ps p)) s ≡ unrounds (paired ps) (unround (get_or p 0 0) (unround (get_or p 1 0) s))
unfolding unrounds
unrounds-push-pair [] p s = refl
unrounds-push-pair (q ∷ ps) p s = ap (λ t. unround (get_or q 0 0) (unround (get_or q 1 0) t)) (unrounds-push-pair ps p s)
