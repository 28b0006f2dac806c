-- What is added to a list of bytes: in any order, taken away by adding it again, and bytes remain bytes.
use mathlib.Core.Path.{◌≡◌, refl, sym, ap, ◌∙◌}
use mathlib.Core.List.{List, [], ◌∷◌}
use Prim.Native.Nat.{ℕ, zero, suc, ◌<◌}
use lib.ListN.{length-set, take, drop}
use Rattle.laws.specs.Words.{◌⊕◌}
use Rattle.laws.specs.Lists.{All, Bytes48, add_front, add_at}
use Rattle.laws.proofs.Words.{⊕-assoc, ⊕-comm, ⊕-back, ⊕-lt}
use Rattle.laws.proofs.Lists.{add_front-nil, length-add_front}

⊕-swap : (a b c : ℕ) → (a ⊕ b) ⊕ c ≡ (a ⊕ c) ⊕ b
⊕-swap a b c = ⊕-assoc a b c ∙ ap (λ x. a ⊕ x) (⊕-comm b c) ∙ sym (⊕-assoc a c b)

pub add_at-back : (s : List ℕ) (i b : ℕ) → add_at (add_at s i b) i b ≡ s
add_at-back [] i b = refl
add_at-back (a ∷ s) zero b = ap (λ x. x ∷ s) (⊕-back a b)
add_at-back (a ∷ s) (suc i) b = ap (λ l. a ∷ l) (add_at-back s i b)

pub add_at-swap : (s : List ℕ) (i b j c : ℕ) → add_at (add_at s i b) j c ≡ add_at (add_at s j c) i b
add_at-swap [] i b j c = refl
add_at-swap (a ∷ s) zero b zero c = ap (λ x. x ∷ s) (⊕-swap a b c)
add_at-swap (a ∷ s) zero b (suc j) c = refl
add_at-swap (a ∷ s) (suc i) b zero c = refl
add_at-swap (a ∷ s) (suc i) b (suc j) c = ap (λ l. a ∷ l) (add_at-swap s i b j c)

pub add_at-front : (s x : List ℕ) (i b : ℕ) → add_front (add_at s i b) x ≡ add_at (add_front s x) i b
add_at-front [] x i b = refl
add_at-front (a ∷ s) [] i b = add_front-nil (add_at (a ∷ s) i b)
add_at-front (a ∷ s) (y ∷ x) zero b = ap (λ z. z ∷ add_front s x) (⊕-swap a b y)
add_at-front (a ∷ s) (y ∷ x) (suc i) b = ap (λ l. (a ⊕ y) ∷ l) (add_at-front s x i b)

-- ---- bounds
pub all-add_at : (s : List ℕ) (i b : ℕ) → All 256 s → b < 256 → All 256 (add_at s i b)
all-add_at [] i b h k = tt
all-add_at (a ∷ s) zero b h k = (⊕-lt 8 h.0 k, h.1)
all-add_at (a ∷ s) (suc i) b h k = (h.0, all-add_at s i b h.1 k)

pub all-add_front : (s x : List ℕ) → All 256 s → All 256 x → All 256 (add_front s x)
all-add_front [] x h k = tt
all-add_front (a ∷ s) [] h k = h
all-add_front (a ∷ s) (b ∷ x) h k = (⊕-lt 8 h.0 k.0, all-add_front s x h.1 k.1)

pub bytes-add_at : {s : List ℕ} (i b : ℕ) → Bytes48 s → b < 256 → Bytes48 (add_at s i b)
bytes-add_at {s} i b h k = record { size = length-set s i _ ∙ h.size; bytes = all-add_at s i b h.bytes k }

pub bytes-add_front : {s : List ℕ} (x : List ℕ) → Bytes48 s → All 256 x → Bytes48 (add_front s x)
bytes-add_front {s} x h k = record { size = length-add_front s x ∙ h.size; bytes = all-add_front s x h.bytes k }

-- ---- the blocks of a list of bytes are lists of bytes
pub all_take : (n k : ℕ) (x : List ℕ) → All n x → All n (take k x)
all_take n zero x h = tt
all_take n (suc k) [] h = tt
all_take n (suc k) (a ∷ x) h = (h.0, all_take n k x h.1)

pub all_drop : (n k : ℕ) (x : List ℕ) → All n x → All n (drop k x)
all_drop n zero x h = h
all_drop n (suc k) [] h = tt
all_drop n (suc k) (a ∷ x) h = all_drop n k x h.1
