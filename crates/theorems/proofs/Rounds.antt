-- Xoodoo with a count of rounds: which constants, the way back for every count, and when a count is refused.
use mathlib.Core.Path.{◌≡◌, refl}
use mathlib.Core.Bool.{Bool, true, false}
use mathlib.Core.List.{List, ◌++◌}
use mathlib.Core.Logic.{◌↔◌}
use Prim.Native.Nat.{ℕ, ◌-◌, ◌≤◌, ◌<◌}
use native.Mathlib.Omega.{arith}
use lib.Dec.{leb}
use lib.ListN.{length, take, take-append-drop, length-drop}
use borrow.Author.Tests.{leb-false, le-leb, lt-leb}
use Rattle.laws.specs.Lists.{Bytes48}
use Rattle.xoodoo.specs.declared.Answer.{Answer}
use Rattle.xoodoo.specs.declared.Xoodoo.{Xoodoo}
use Rattle.xoodoo.specs.Xoodoo.{constants, last_of, xoodoo_rounds, inverse_rounds, xoodoo, inverse}
use Rattle.xoodoo.specs.Calls.{answer, rounds_of, unrounds_of}
use Rattle.xoodoo.proofs.Inverse as laws

-- the last n constants are n of them, and stand behind the others
pub last-constants : (n : ℕ) → n ≤ 12 → (length (last_of n) ≡ n) × (take (12 - n) constants ++ last_of n ≡ constants)
unfolding last_of constants
last-constants n h = (simp length-drop (omega arith), take-append-drop (12 - n) constants)

-- a count of 0 changes nothing
pub none : {b : List ℕ} → Bytes48 b → (xoodoo_rounds 0 b ≡ b) × (inverse_rounds 0 b ≡ b)
none h = (laws.xoodoo_rounds-none h, laws.inverse_rounds-none h)

-- a count of 12 is Xoodoo
pub twelve : (b : List ℕ) → (xoodoo_rounds 12 b ≡ xoodoo b) × (inverse_rounds 12 b ≡ inverse b)
unfolding xoodoo inverse
twelve b = (refl, refl)

-- every count takes 48 bytes to 48 bytes, and has a two-sided inverse on all such lists
pub count-keeps : (n : ℕ) {b : List ℕ} → Bytes48 b → Bytes48 (xoodoo_rounds n b) × Bytes48 (inverse_rounds n b)
count-keeps n {b} h = (laws.xoodoo_rounds-keeps n b, laws.inverse_rounds-keeps n b)

pub count-back : (n : ℕ) {b : List ℕ} → Bytes48 b → inverse_rounds n (xoodoo_rounds n b) ≡ b
count-back = laws.inverse_rounds-xoodoo_rounds

pub count-forth : (n : ℕ) {b : List ℕ} → Bytes48 b → xoodoo_rounds n (inverse_rounds n b) ≡ b
count-forth = laws.xoodoo_rounds-inverse_rounds

-- a call on x by the count n with answer a, which does f where it is taken: 11 exactly when n is above 12, and then nothing changes
pub record Counted (f : ℕ → List ℕ → List ℕ) (x : Xoodoo) (n : ℕ) (a : Answer) : Type 0 where
  pub eleven : (a.number ≡ 11) ↔ (12 < n)
  pub refused : 12 < n → a ≡ record { state = x; number = 11 }
  pub taken : n ≤ 12 → a ≡ record { state = record { st = f n x.st }; number = 0 }

counted : (f : ℕ → List ℕ → List ℕ) (x : Xoodoo) (n : ℕ) → Counted f x n (answer (leb n 12) 11 x (f n x.st))
counted f x n =
    record {
      eleven = (above (leb n 12) refl, λ h. rw (lt-leb n 12 h));
      refused = λ h. rw (lt-leb n 12 h);
      taken = λ h. rw (le-leb n 12 h);
    }
  where
    above : (t : Bool) → leb n 12 ≡ t → (answer t 11 x (f n x.st)).number ≡ 11 → 12 < n
    above true e h = absurd (omega arith)
    above false e h = leb-false n 12 e

pub rounds-counted : (x : Xoodoo) (n : ℕ) → Counted xoodoo_rounds x n (rounds_of x n)
unfolding rounds_of
rounds-counted = counted xoodoo_rounds

pub unrounds-counted : (x : Xoodoo) (n : ℕ) → Counted inverse_rounds x n (unrounds_of x n)
unfolding unrounds_of
unrounds-counted = counted inverse_rounds
