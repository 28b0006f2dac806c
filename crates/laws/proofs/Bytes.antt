-- Lists of bytes or of words: bounds on their elements, and runs of stores.
use mathlib.Core.Path.{◌≡◌, ap}
use mathlib.Core.List.{List, [], ◌∷◌, ◌++◌}
use Prim.Native.Nat.{ℕ, zero, suc, ◌+◌, ◌^◌, ◌<◌}
use native.Mathlib.Omega.{arith}
use lib.ListN.{length, get_or, drop}
use lib.Seq.{sets}
use mir.Val.{Val, bits}
use mir.Syntax.{Width}
use denote.Array.{each}
use denote.Plain.{UInt}
use denote.Shadow.{shadow}
use Rattle.laws.specs.Lists.{All}

pub all_get_d : (n : ℕ) (xs : List ℕ) → 0 < n → All n xs → (i : ℕ) → get_or xs i 0 < n
all_get_d n [] h a i = h
all_get_d n (x ∷ xs) h a zero = a.0
all_get_d n (x ∷ xs) h a (suc i) = all_get_d n xs h a.1 i

pub all_of : (n : ℕ) (xs : List ℕ) → ((i : ℕ) → get_or xs i 0 < n) → All n xs
all_of n [] h = tt
all_of n (x ∷ xs) h = (h 0, all_of n xs (λ i. h (suc i)))

pub all_append : (n : ℕ) (xs ys : List ℕ) → All n xs → All n ys → All n (xs ++ ys)
all_append n [] ys h k = k
all_append n (x ∷ xs) ys h k = (h.0, all_append n xs ys h.1 k)

pub all_drop : (n i : ℕ) (xs : List ℕ) → All n xs → All n (drop i xs)
all_drop n zero xs h = h
all_drop n (suc i) [] h = tt
all_drop n (suc i) (x ∷ xs) h = all_drop n i xs h.1

-- what an array or a slice of numbers of width w says of its elements
pub each_all : (w : Width) (xs : List ℕ) (us : List Val) → shadow (each ℕ (UInt w).own_val xs us) → All (2 ^ bits w) xs
each_all w [] [] p = tt
each_all w [] (u ∷ us) p = absurd p
each_all w (x ∷ xs) [] p = absurd p
each_all w (x ∷ xs) (u ∷ us) p = (p.0.1, each_all w xs us p.1)

-- a run of stores, and then a second
pub sets_then : (xs ys l : List ℕ) (i j : ℕ) → i + length xs ≡ j → sets l i (xs ++ ys) ≡ sets (sets l i xs) j ys
sets_then [] ys l i j e = let h : i ≡ j = omega arith in ap (λ (k : ℕ). sets l k ys) h
sets_then (x ∷ xs) ys l i j e = let h : suc i + length xs ≡ j = omega arith in sets_then xs ys _ (suc i) j h
