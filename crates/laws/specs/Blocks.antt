-- Blocks: an input cut into full rates and a last shorter one.
use Rattle.std.specs.Prelude.{List, [], ◌∷◌, ℕ, zero, suc, ◌-◌, ◌/◌, min, length, take, drop}

-- full runs of r, and a last shorter one; the first argument is fuel, for which the length is enough
abbrev pub cut : ℕ → ℕ → List ℕ → List (List ℕ)
cut zero r x = []
cut (suc f) r [] = []
cut (suc f) r (a ∷ x) = take r (a ∷ x) ∷ cut f r (drop r (a ∷ x))

-- an empty input has none
unfoldable pub cuts : ℕ → List ℕ → List (List ℕ)
cuts r x = cut (length x) r x

-- an empty input has one empty block
unfoldable pub blocks : ℕ → List ℕ → List (List ℕ)
blocks r [] = [] ∷ []
blocks r (a ∷ x) = cuts r (a ∷ x)

abbrev pub cut_sizes : ℕ → ℕ → ℕ → List ℕ
cut_sizes zero r n = []
cut_sizes (suc f) r zero = []
cut_sizes (suc f) r (suc n) = min r (suc n) ∷ cut_sizes f r (suc n - r)

-- the lengths of the runs of n bytes; none where n is 0
unfoldable pub sizes : ℕ → ℕ → List ℕ
sizes r n = cut_sizes n r n

-- n divided by r, rounded up: how many runs there are
unfoldable pub block_count : ℕ → ℕ → ℕ
block_count r zero = 0
block_count r (suc n) = suc (n / r)
