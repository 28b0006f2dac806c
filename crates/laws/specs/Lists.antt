-- Lists of bytes: their bounds, and what is added to them.
use Rattle.std.specs.Prelude.{◌≡◌, List, [], ◌∷◌, ℕ, ◌<◌, length, get_or, set}
use Rattle.laws.specs.Words.{◌⊕◌}

-- every element of the list is below n
abbrev pub All : ℕ → List ℕ → Type 0
All n [] = Unit {0}
All n (x ∷ xs) = (x < n) × All n xs

-- a list of 48 bytes
pub record Bytes48 (b : List ℕ) : Type 0 where
  pub size : length b ≡ 48
  pub bytes : All 256 b

-- s with x added at byte 0; what lies past the shorter of the two is as in s
abbrev pub add_front : List ℕ → List ℕ → List ℕ
add_front [] x = []
add_front (a ∷ s) [] = a ∷ s
add_front (a ∷ s) (b ∷ x) = (a ⊕ b) ∷ add_front s x

-- s with b added at byte i
abbrev pub add_at : List ℕ → ℕ → ℕ → List ℕ
add_at s i b = set s i (get_or s i 0 ⊕ b)
