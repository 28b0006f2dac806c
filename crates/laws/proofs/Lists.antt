-- Lists of bytes: what is added to a list, one byte after the other, and parts of a list that were lent and have come back.
use mathlib.Core.Path.{◌≡◌, refl, sym, ap, ap₂, ◌∙◌}
use mathlib.Core.List.{List, [], ◌∷◌, ◌++◌, append_assoc, append-nil}
use Prim.Native.Nat.{ℕ, zero, suc, ◌+◌, ◌-◌, ◌<◌, ◌≤◌, min}
use native.Mathlib.Nat.{le_of_suc-le-suc, not-suc-le-zero, zero-min, min-zero, suc-min-suc, le_refl}
use native.Mathlib.Omega.{arith}
use lib.ListN.{length, get_or, set, take, drop, length-drop, length-append, length-take, drop_of_length-le}
use lib.Seq.{take_all, drop-drop, length-take-le, take_at, drop_at}
use borrow.Rule.Slice.PartMut.{put_mid}
use Rattle.laws.specs.Words.{◌⊕◌}
use Rattle.laws.specs.Lists.{add_front}
use Rattle.laws.proofs.Words.{⊕-back}

-- ---- what is added at the front
pub add_front-nil : (s : List ℕ) → add_front s [] ≡ s
add_front-nil [] = refl
add_front-nil (a ∷ s) = refl

pub length-add_front : (s x : List ℕ) → length (add_front s x) ≡ length s
length-add_front [] x = refl
length-add_front (a ∷ s) [] = refl
length-add_front (a ∷ s) (b ∷ x) = ap suc (length-add_front s x)

-- one more byte of x
pub add_front-step : (s x : List ℕ) (i : ℕ) → i < length x
    → set (add_front s (take i x)) i (get_or (add_front s (take i x)) i 0 ⊕ get_or x i 0) ≡ add_front s (take (suc i) x)
add_front-step [] x i h = refl
add_front-step (a ∷ s) [] i h = absurd (not-suc-le-zero h)
add_front-step (a ∷ s) (b ∷ x) zero h = ap (λ (l : List ℕ). (a ⊕ b) ∷ l) (sym (add_front-nil s))
add_front-step (a ∷ s) (b ∷ x) (suc i) h = ap (λ (l : List ℕ). (a ⊕ b) ∷ l) (add_front-step s x i (le_of_suc-le-suc h))

-- only as much of x counts as s is long
pub add_front-take : (s x : List ℕ) → add_front s (take (length s) x) ≡ add_front s x
add_front-take [] x = refl
add_front-take (a ∷ s) [] = refl
add_front-take (a ∷ s) (b ∷ x) = ap (λ (l : List ℕ). (a ⊕ b) ∷ l) (add_front-take s x)

-- adding the same again takes it away
pub add_front-back : (s x : List ℕ) → add_front (add_front s x) x ≡ s
add_front-back [] x = refl
add_front-back (a ∷ s) [] = refl
add_front-back (a ∷ s) (b ∷ x) = ap₂ ◌∷◌ (⊕-back a b) (add_front-back s x)

-- ---- a copy, one byte more
pub copy_step : (d s : List ℕ) (i : ℕ) → i < length s → length s ≤ length d
    → set (take i s ++ drop i d) i (get_or s i 0) ≡ take (suc i) s ++ drop (suc i) d
copy_step d [] i h g = absurd (not-suc-le-zero h)
copy_step [] (b ∷ s) i h g = absurd (not-suc-le-zero g)
copy_step (a ∷ d) (b ∷ s) zero h g = refl
copy_step (a ∷ d) (b ∷ s) (suc i) h g = ap (λ (l : List ℕ). b ∷ l) (copy_step d s i (le_of_suc-le-suc h) (le_of_suc-le-suc g))

-- what a copy of a whole part leaves
pub whole : (a b : List ℕ) → length b ≤ length a → a ++ drop (length a) b ≡ a
whole a b h = rw (drop_of_length-le b h, append-nil)

-- ---- parts
pub take_min : (r : ℕ) (x : List ℕ) → take (min r (length x)) x ≡ take r x
take_min zero x = rw zero-min
take_min (suc r) [] = rw min-zero
take_min (suc r) (a ∷ x) = rw suc-min-suc (ap (λ (l : List ℕ). a ∷ l) (take_min r x))

pub drop_min : (r : ℕ) (x : List ℕ) → drop (min r (length x)) x ≡ drop r x
drop_min zero x = rw zero-min
drop_min (suc r) [] = rw min-zero
drop_min (suc r) (a ∷ x) = rw suc-min-suc (drop_min r x)

pub length-mid : (i e : ℕ) (x : List ℕ) → e ≤ length x → length (take (e - i) (drop i x)) ≡ e - i
length-mid i e x h = length-take-le (e - i) (drop i x) (rw length-drop (omega arith))

-- the bytes up to the end of a middle part that has come back
pub take-put-end : (i e : ℕ) (x y : List ℕ) → i ≤ e → e ≤ length x → length y ≡ e - i → take e (put_mid i (e - i) x y) ≡ take i x ++ y
take-put-end i e x y h g l =
    rw (← append_assoc) (take_at (take i x ++ y) _ e (simp (length-append, length-take) (omega arith)))

-- a tail that has come back, and a front before it
pub put-tail : (k : ℕ) (w y : List ℕ) → k ≤ length w → put_mid k (length w - k) w y ≡ take k w ++ y
put-tail k w y h =
    let g : length (drop k w) ≤ length w - k = rw length-drop (omega arith) in
    rw (drop_of_length-le (drop k w) g, append-nil)

pub put-front-tail : (k : ℕ) (f d y : List ℕ) → length f ≡ k → put_mid k (length (f ++ drop k d) - k) (f ++ drop k d) y ≡ f ++ y
put-front-tail k f d y e =
    put-tail k (f ++ drop k d) y (rw length-append (omega arith)) ∙ ap (λ (l : List ℕ). l ++ y) (take_at f (drop k d) k e)

-- the tail of a buffer whose front has come back
pub tail_of : (n : ℕ) (f o : List ℕ) → length f ≡ n → take (length (f ++ drop n o) - n) (drop n (f ++ drop n o)) ≡ drop n o
tail_of n f o e =
    take_all (length (f ++ drop n o) - n) (drop n (f ++ drop n o)) (rw length-drop (le_refl _)) ∙ drop_at f (drop n o) n e

-- a front f that has come back into w, and then a middle part y after it, where w had o past the front
pub front-mid : (n e : ℕ) (f w o y : List ℕ) → length f ≡ n → n ≤ e → drop n w ≡ drop n o → put_mid n (e - n) (f ++ drop n w) y ≡ f ++ (y ++ drop e o)
front-mid n e f w o y l h d =
    let g : n + (e - n) ≡ e = omega arith in
    rw (take_at f (drop n w) n l, drop_at f (drop n w) n l, d, drop-drop (e - n) n o, g)
