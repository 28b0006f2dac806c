-- One more byte of a run added at byte 0, as the loop of `add_bytes` takes it.
use mathlib.Core.Path.{◌≡◌, refl, sym, ap, ap₂, ◌∙◌}
use mathlib.Core.List.{List, [], ◌∷◌}
use Prim.Native.Nat.{ℕ, zero, suc, ◌+◌, ◌<◌}
use native.Mathlib.Nat.{le_of_suc-le-suc, not-suc-le-zero}
use native.Mathlib.Numerals.{add-one}
use lib.ListN.{length, get_or, take}
use Rattle.laws.specs.Words.{◌⊕◌}
use Rattle.laws.specs.Lists.{add_front, add_at}

pub add-front-none : (s : List ℕ) → add_front s [] ≡ s
add-front-none [] = refl
add-front-none (a ∷ s) = refl

add-front-suc : (s run : List ℕ) (i : ℕ) → i < length s → i < length run
    → add_at (add_front s (take i run)) i (get_or run i 0) ≡ add_front s (take (suc i) run)
add-front-suc [] run i h k = absurd (not-suc-le-zero h)
add-front-suc (a ∷ s) [] i h k = absurd (not-suc-le-zero k)
add-front-suc (a ∷ s) (b ∷ run) zero h k = ap (λ (l : List ℕ). (a ⊕ b) ∷ l) (sym (add-front-none s))
add-front-suc (a ∷ s) (b ∷ run) (suc i) h k = ap₂ ◌∷◌ refl (add-front-suc s run i (le_of_suc-le-suc h) (le_of_suc-le-suc k))

pub add-front-next : (s run t : List ℕ) (i : ℕ) → i < length s → i < length run → t ≡ add_front s (take i run)
    → add_at t i (get_or run i 0) ≡ add_front s (take (i + 1) run)
add-front-next s run t i h k e =
    ap (λ (u : List ℕ). add_at u i (get_or run i 0)) e ∙ add-front-suc s run i h k
    ∙ ap (λ (n : ℕ). add_front s (take n run)) (sym (add-one i))
