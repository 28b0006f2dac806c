-- Blocks, as a loop walks them from the end: a turn takes the last block, full or shorter.
use mathlib.Core.Path.{◌≡◌, sym, ap, ◌∙◌}
use mathlib.Core.List.{List, [], ◌∷◌, ◌++◌}
use Prim.Native.Nat.{ℕ, zero, suc, ◌+◌, ◌-◌, ◌*◌, ◌/◌, ◌%◌, ◌<◌, ◌≤◌}
use native.Mathlib.Nat.{zero-mul, suc-mul, div-add-mod', mod-lt, le_refl, sub-zero, zero-sub, suc-sub-suc}
use native.Mathlib.Omega.{arith}
use lib.ListN.{length, take, drop, length-drop}
use lib.Seq.{take_all, take-nil, take-take, drop-drop, length-take-le}
use Rattle.laws.specs.Blocks.{cuts}
use Rattle.laws.proofs.Blocks.{cuts-step, cuts-nil}

-- what lies from i on, of a front
pub drop-take : (i e : ℕ) (x : List ℕ) → drop i (take e x) ≡ take (e - i) (drop i x)
drop-take zero e x = rw sub-zero
drop-take (suc i) zero x = rw zero-sub
drop-take (suc i) (suc e) [] = sym (take-nil (suc e - suc i))
drop-take (suc i) (suc e) (a ∷ x) = rw suc-sub-suc (drop-take i e x)

-- the last block starts at the last multiple of the rate below the length
cuts-at : (q r : ℕ) (x : List ℕ) → 0 < r → q * r < length x → length x ≤ q * r + r
    → cuts r x ≡ cuts r (take (q * r) x) ++ (drop (q * r) x ∷ [])
cuts-at zero r x p h g =
    let z : 0 * r ≡ 0 = zero-mul r in
    let k : length x ≤ r = omega arith in
    rw z (cuts-step r x (length x) p (omega arith) (omega arith)
    ∙ rw (take_all (length x) x (le_refl _), cuts-nil r (drop (length x) x) (rw length-drop (omega arith)), cuts-nil r [] (omega arith)))
cuts-at (suc q) r x p h g =
    let s : suc q * r ≡ r + q * r = suc-mul q r ∙ (omega arith) in
    let l : length (drop r x) ≡ length x - r = length-drop r x in
    let n : length (take (r + q * r) x) ≡ r + q * r = length-take-le (r + q * r) x (omega arith) in
    let j : r + q * r - r ≡ q * r = omega arith in
    let t : cuts r (take (r + q * r) x) ≡ take r x ∷ cuts r (take (q * r) (drop r x)) =
    cuts-step r (take (r + q * r) x) r p (omega arith) (omega arith)
    ∙ rw (take-take r (r + q * r) x (omega arith), drop-take r (r + q * r) x)
    (ap (λ (k : ℕ). take r x ∷ cuts r (take k (drop r x))) j) in
    rw (s, t, ← drop-drop (q * r) r x)
    (cuts-step r x r p (omega arith) (omega arith)
    ∙ ap (λ (bs : List (List ℕ)). take r x ∷ bs) (cuts-at q r (drop r x) p (omega arith) (omega arith)))

-- a turn goes from the end e back to i, past the last block of what lies before e
pub turn-back : (r i e : ℕ) (x : List ℕ) → 0 < r → 0 < e → e ≤ length x → i ≡ e - ((e - 1) % r + 1)
    → cuts r (take e x) ≡ cuts r (take i x) ++ (take (e - i) (drop i x) ∷ [])
turn-back r i e x p h g q =
    let d : (e - 1) / r * r + (e - 1) % r ≡ e - 1 = div-add-mod' (e - 1) r in
    let m : (e - 1) % r < r = mod-lt (e - 1) p in
    let l : length (take e x) ≡ e = length-take-le e x g in
    let s : (e - 1) / r * r ≡ i = omega arith in
    let k : i ≤ e = omega arith in
    cuts-at ((e - 1) / r) r (take e x) p (omega arith) (omega arith)
    ∙ rw (s, take-take i e x k, drop-take i e x)
