-- Blocks, as a loop walks them: a turn takes the rate or what is left, from the front.
use mathlib.Core.Path.{◌≡◌, refl, sym, ap, ◌∙◌}
use mathlib.Core.List.{List, [], ◌∷◌}
use mathlib.Core.Bool.{Bool, true, false}
use Prim.Native.Nat.{ℕ, zero, suc, ◌+◌, ◌-◌, ◌/◌, ◌<◌, ◌≤◌, min, max}
use native.Mathlib.Nat.{not-suc-le-zero, le_refl, div-eq_of_lt, div-eq-sub-div}
use native.Mathlib.Omega.{arith}
use lib.Dec.{ltb}
use lib.ListN.{length, take, drop, length-drop}
use lib.Seq.{drop-drop}
use borrow.Author.Tests.{ltb-true, ltb-false}
use Rattle.laws.specs.Blocks.{cut, cuts, blocks, cut_sizes, sizes, block_count}
use Rattle.laws.proofs.Lists.{take_min, drop_min}

cut-nil : (f r : ℕ) → cut f r [] ≡ []
cut-nil zero r = refl
cut-nil (suc f) r = refl

-- any fuel that is enough
cut-fuel : (f g r : ℕ) (x : List ℕ) → 0 < r → length x ≤ f → length x ≤ g → cut f r x ≡ cut g r x
cut-fuel zero g r [] p h k = sym (cut-nil g r)
cut-fuel zero g r (a ∷ x) p h k = absurd (not-suc-le-zero h)
cut-fuel (suc f) g r [] p h k = sym (cut-nil g r)
cut-fuel (suc f) zero r (a ∷ x) p h k = absurd (not-suc-le-zero k)
cut-fuel (suc f) (suc g) r (a ∷ x) p h k =
    ap (λ (l : List (List ℕ)). take r (a ∷ x) ∷ l)
    (cut-fuel f g r (drop r (a ∷ x)) p (omega (arith, length-drop r (a ∷ x))) (omega (arith, length-drop r (a ∷ x))))

-- a turn takes k bytes, the rate or what is left
pub cuts-step : (r : ℕ) (x : List ℕ) (k : ℕ) → 0 < r → 0 < length x → k ≡ min r (length x) → cuts r x ≡ take k x ∷ cuts r (drop k x)
unfolding cuts
cuts-step r [] k p h e = absurd (not-suc-le-zero h)
cuts-step r (a ∷ x) k p h e =
    rw (e, take_min, drop_min)
    (ap (λ (l : List (List ℕ)). take r (a ∷ x) ∷ l)
    (cut-fuel (length x) (length (drop r (a ∷ x))) r (drop r (a ∷ x)) p (omega (arith, length-drop r (a ∷ x))) (le_refl _)))

pub cuts-nil : (r : ℕ) (x : List ℕ) → length x ≤ 0 → cuts r x ≡ []
unfolding cuts
cuts-nil r [] h = refl
cuts-nil r (a ∷ x) h = absurd (not-suc-le-zero h)

-- a turn of a loop goes from i to e
pub turn : (r i e : ℕ) (x : List ℕ) → 0 < r → i < length x → e ≡ i + min r (length x - i) → cuts r (drop i x) ≡ take (e - i) (drop i x) ∷ cuts r (drop e x)
turn r i e x p h q =
    let g : i + (e - i) ≡ e = omega arith in
    cuts-step r (drop i x) (e - i) p (rw length-drop (omega arith)) (rw length-drop (omega arith))
    ∙ ap (λ (l : List ℕ). take (e - i) (drop i x) ∷ cuts r l) (drop-drop (e - i) i x ∙ ap (λ (n : ℕ). drop n x) g)

-- past the end there is none
pub turned : (r i : ℕ) (x : List ℕ) → length x ≤ i → cuts r (drop i x) ≡ []
turned r i x h = cuts-nil r (drop i x) (rw length-drop (omega arith))

-- an input's first block, and the others
pub blocks_step : (r k : ℕ) (x : List ℕ) → 0 < r → k ≡ min r (length x) → blocks r x ≡ take k x ∷ cuts r (drop k x)
unfolding blocks cuts
blocks_step r zero [] p e = refl
blocks_step r (suc k) [] p e = refl
blocks_step r k (a ∷ x) p e = cuts-step r (a ∷ x) k p (omega arith) e

-- ---- the same for lengths alone
cut_sizes-zero : (f r : ℕ) → cut_sizes f r 0 ≡ []
cut_sizes-zero zero r = refl
cut_sizes-zero (suc f) r = refl

cut_sizes-fuel : (f g r n : ℕ) → 0 < r → n ≤ f → n ≤ g → cut_sizes f r n ≡ cut_sizes g r n
cut_sizes-fuel zero g r zero p h k = sym (cut_sizes-zero g r)
cut_sizes-fuel zero g r (suc n) p h k = absurd (not-suc-le-zero h)
cut_sizes-fuel (suc f) g r zero p h k = sym (cut_sizes-zero g r)
cut_sizes-fuel (suc f) zero r (suc n) p h k = absurd (not-suc-le-zero k)
cut_sizes-fuel (suc f) (suc g) r (suc n) p h k =
    ap (λ (l : List ℕ). min r (suc n) ∷ l) (cut_sizes-fuel f g r (suc n - r) p (omega arith) (omega arith))

pub sub-min : (r n : ℕ) → n - min r n ≡ n - r
sub-min r n = omega arith

pub sizes_step : (r n k : ℕ) → 0 < r → 0 < n → k ≡ min r n → sizes r n ≡ k ∷ sizes r (n - k)
unfolding sizes
sizes_step r zero k p h e = absurd (not-suc-le-zero h)
sizes_step r (suc n) k p h e =
    rw (e, sub-min)
    (ap (λ (l : List ℕ). min r (suc n) ∷ l) (cut_sizes-fuel n (suc n - r) r (suc n - r) p (omega arith) (le_refl _)))

pub sizes-zero : (r n : ℕ) → n ≤ 0 → sizes r n ≡ []
unfolding sizes
sizes-zero r zero h = refl
sizes-zero r (suc n) h = absurd (not-suc-le-zero h)

pub turn-sizes : (r i e n : ℕ) → 0 < r → i < n → e ≡ i + min r (n - i) → sizes r (n - i) ≡ (e - i) ∷ sizes r (n - e)
turn-sizes r i e n p h q =
    let g : (n - i) - (e - i) ≡ n - e = omega arith in
    sizes_step r (n - i) (e - i) p (omega arith) (omega arith) ∙ ap (λ (m : ℕ). (e - i) ∷ sizes r m) g

-- ---- how many runs there are
count-last : (r n : ℕ) → n < r → block_count r (suc n - r) ≡ n / r
unfolding block_count
count-last r n h = let z : suc n - r ≡ 0 = omega arith in rw z (sym (div-eq_of_lt h))

count-more : (r n : ℕ) → 0 < r → r ≤ n → block_count r (suc n - r) ≡ n / r
unfolding block_count
count-more r n p h = let z : suc n - r ≡ suc (n - r) = omega arith in
    let d : n / r ≡ (n - r) / r + 1 = div-eq-sub-div p h in
    rw z (omega arith)

pub count-step : (r n : ℕ) → 0 < r → block_count r (suc n - r) ≡ n / r
count-step r n p = split (ltb n r) refl where
  split : (b : Bool) → ltb n r ≡ b → block_count r (suc n - r) ≡ n / r
  split true e = count-last r n (ltb-true n r e)
  split false e = count-more r n p (ltb-false n r e)

cut-count : (f r : ℕ) (x : List ℕ) → 0 < r → length x ≤ f → length (cut f r x) ≡ block_count r (length x)
unfolding block_count
cut-count zero r [] p h = refl
cut-count zero r (a ∷ x) p h = absurd (not-suc-le-zero h)
cut-count (suc f) r [] p h = refl
cut-count (suc f) r (a ∷ x) p h = ap suc (cut-count f r (drop r (a ∷ x)) p (rw length-drop (omega arith)) ∙ rw length-drop (count-step r (length x) p))

pub cuts-count : (r : ℕ) (x : List ℕ) → 0 < r → length (cuts r x) ≡ block_count r (length x)
unfolding cuts
cuts-count r x p = cut-count (length x) r x p (le_refl _)

pub blocks-count : (r : ℕ) (x : List ℕ) → 0 < r → length (blocks r x) ≡ max 1 (block_count r (length x))
unfolding blocks block_count
blocks-count r [] p = refl
blocks-count r (a ∷ x) p = cuts-count r (a ∷ x) p ∙ omega arith

cut-sizes-count : (f r n : ℕ) → 0 < r → n ≤ f → length (cut_sizes f r n) ≡ block_count r n
unfolding block_count
cut-sizes-count zero r zero p h = refl
cut-sizes-count zero r (suc n) p h = absurd (not-suc-le-zero h)
cut-sizes-count (suc f) r zero p h = refl
cut-sizes-count (suc f) r (suc n) p h = ap suc (cut-sizes-count f r (suc n - r) p (omega arith) ∙ count-step r n p)

pub sizes-count : (r n : ℕ) → 0 < r → length (sizes r n) ≡ block_count r n
unfolding sizes
sizes-count r n p = cut-sizes-count n r n p (le_refl _)
