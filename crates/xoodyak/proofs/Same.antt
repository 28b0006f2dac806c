-- The fold of differences: it is zero exactly where all bytes are equal.
use mathlib.Core.Path.{◌≡◌, refl, sym, ap, ◌∙◌}
use mathlib.Core.Bool.{Bool, true, false}
use mathlib.Core.List.{List, [], ◌∷◌}
use Prim.Native.Nat.{ℕ, zero, suc, ◌<◌}
use native.Mathlib.Nat.{not-suc-le-zero, le_of_suc-le-suc}
use native.Mathlib.Omega.{arith}
use lib.Bits.{bit_or, or_zero_l, or_add_and, and_le_r}
use lib.Dec.{eqb}
use lib.ListN.{length, get_or, take}
use borrow.Author.Tests.{eqb-true, eqb-false, eq-eqb, ne_eqb}
use Rattle.laws.specs.Words.{◌⊕◌}
use Rattle.laws.proofs.Words.{⊕-back, ⊕-self, zero-⊕}
use Rattle.xoodyak.specs.Calls.{both, same_bytes}

both_true : (p : Bool) → both p true ≡ p
both_true true = refl
both_true false = refl

both-assoc : (p q r : Bool) → both p (both q r) ≡ both (both p q) r
both-assoc true q r = refl
both-assoc false q r = refl

pub same_step : (a b : List ℕ) (i : ℕ) → i < length a → i < length b
    → same_bytes (take (suc i) a) (take (suc i) b) ≡ both (same_bytes (take i a) (take i b)) (eqb (get_or a i 0) (get_or b i 0))
unfolding same_bytes
same_step [] b i h g = absurd (not-suc-le-zero h)
same_step (x ∷ a) [] i h g = absurd (not-suc-le-zero g)
same_step (x ∷ a) (y ∷ b) zero h g = both_true (eqb x y)
same_step (x ∷ a) (y ∷ b) (suc i) h g =
    ap (both (eqb x y)) (same_step a b i (le_of_suc-le-suc h) (le_of_suc-le-suc g)) ∙ both-assoc (eqb x y) _ _

xor_same : (x y : ℕ) (t : Bool) → eqb x y ≡ t → eqb (x ⊕ y) 0 ≡ t
xor_same x y true e = eq-eqb (x ⊕ y) 0 (ap (λ (w : ℕ). w ⊕ y) (eqb-true x y e) ∙ ⊕-self y)
xor_same x y false e = ne_eqb (x ⊕ y) 0 (λ z. eqb-false x y e (sym (⊕-back x y) ∙ ap (λ (w : ℕ). w ⊕ y) z ∙ zero-⊕ y))

pub acc-step : (acc x y : ℕ) → eqb (bit_or acc (x ⊕ y)) 0 ≡ both (eqb acc 0) (eqb x y)
acc-step zero x y = rw or_zero_l (xor_same x y (eqb x y) refl)
acc-step (suc n) x y =
    rw (ne_eqb (suc n) 0 (λ z. omega arith))
    (ne_eqb (bit_or (suc n) (x ⊕ y)) 0 (λ z. omega (arith, or_add_and (suc n) (x ⊕ y), and_le_r (suc n) (x ⊕ y))))
