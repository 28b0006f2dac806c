-- Xor, and, not of words: by their bits.
use mathlib.Core.Path.{◌≡◌, refl, sym, ap, ◌∙◌}
use Prim.Native.Nat.{ℕ, zero, suc, ◌+◌, ◌-◌, ◌*◌, ◌/◌, ◌%◌, ◌^◌, ◌<◌, min, max}
use native.Mathlib.Nat.{mod-lt, zero-lt-suc, pow-suc}
use native.Mathlib.Omega.{arith}
use lib.Arith.{bin_ind, digits_div, digits_mod, lt-one}
use lib.Bits.{bit_or, differ, and_step, or_step, xor_step, and_zero_r, and_comm, xor_comm, xor_self, xor_zero_l, xor_zero_r, xor_lt, and_lt, or_lt}
use Rattle.laws.specs.Words.{◌⊕◌, ◌⊙◌}

-- ---- digits
-- a digit is 0 or 1
digit-cases : (P : ℕ → Type 0) → P 0 → P 1 → (x : ℕ) → P (x % 2)
digit-cases P p0 p1 x = go (x % 2) (mod-lt x (zero-lt-suc 1))
  where
    go : (y : ℕ) → y < 2 → P y
    go zero h = p0
    go (suc zero) h = p1
    go (suc (suc y)) h = absurd (no y h)
      where
        no : (y : ℕ) → suc (suc y) < 2 → ⊥
        no y h = omega arith

-- a function of two digits that gives a digit at each of the four
digits-lt-two : (f : ℕ → ℕ → ℕ) → f 0 0 < 2 → f 0 1 < 2 → f 1 0 < 2 → f 1 1 < 2 → (x y : ℕ) → f (x % 2) (y % 2) < 2
digits-lt-two f h00 h01 h10 h11 x y =
    digit-cases (λ (a : ℕ). f a (y % 2) < 2) (digit-cases (λ (b : ℕ). f 0 b < 2) h00 h01 y)
    (digit-cases (λ (b : ℕ). f 1 b < 2) h10 h11 y) x

differ-lt : (x y : ℕ) → differ (x % 2) (y % 2) < 2
differ-lt = digits-lt-two differ (omega arith) (omega arith) (omega arith) (omega arith)

min-lt : (x y : ℕ) → min (x % 2) (y % 2) < 2
min-lt = digits-lt-two min (omega arith) (omega arith) (omega arith) (omega arith)

⊕-step : (a b : ℕ) → a ⊕ b ≡ (a / 2 ⊕ b / 2) * 2 + differ (a % 2) (b % 2)
unfolding ◌⊕◌
⊕-step = xor_step

⊙-step : (a b : ℕ) → a ⊙ b ≡ (a / 2 ⊙ b / 2) * 2 + min (a % 2) (b % 2)
unfolding ◌⊙◌
⊙-step = and_step

⊕-half : (a b : ℕ) → (a ⊕ b) / 2 ≡ a / 2 ⊕ b / 2
⊕-half a b = rw (⊕-step a b) (digits_div (a / 2 ⊕ b / 2) (differ-lt a b))

⊕-odd : (a b : ℕ) → (a ⊕ b) % 2 ≡ differ (a % 2) (b % 2)
⊕-odd a b = rw (⊕-step a b) (digits_mod (a / 2 ⊕ b / 2) (differ-lt a b))

⊙-half : (a b : ℕ) → (a ⊙ b) / 2 ≡ a / 2 ⊙ b / 2
⊙-half a b = rw (⊙-step a b) (digits_div (a / 2 ⊙ b / 2) (min-lt a b))

⊙-odd : (a b : ℕ) → (a ⊙ b) % 2 ≡ min (a % 2) (b % 2)
⊙-odd a b = rw (⊙-step a b) (digits_mod (a / 2 ⊙ b / 2) (min-lt a b))

max-lt : (x y : ℕ) → max (x % 2) (y % 2) < 2
max-lt = digits-lt-two max (omega arith) (omega arith) (omega arith) (omega arith)

or-half : (a b : ℕ) → bit_or a b / 2 ≡ bit_or (a / 2) (b / 2)
or-half a b = rw (or_step a b) (digits_div (bit_or (a / 2) (b / 2)) (max-lt a b))

or-odd : (a b : ℕ) → bit_or a b % 2 ≡ max (a % 2) (b % 2)
or-odd a b = rw (or_step a b) (digits_mod (bit_or (a / 2) (b / 2)) (max-lt a b))

-- ---- bits
-- the digit of w at place i
pub bit : ℕ → ℕ → ℕ
bit zero w = w % 2
bit (suc i) w = bit i (w / 2)

pub bit-⊕ : (i a b : ℕ) → bit i (a ⊕ b) ≡ differ (bit i a) (bit i b)
unfolding bit
bit-⊕ zero a b = ⊕-odd a b
bit-⊕ (suc i) a b = rw ⊕-half (bit-⊕ i (a / 2) (b / 2))

pub bit-⊙ : (i a b : ℕ) → bit i (a ⊙ b) ≡ min (bit i a) (bit i b)
unfolding bit
bit-⊙ zero a b = ⊙-odd a b
bit-⊙ (suc i) a b = rw ⊙-half (bit-⊙ i (a / 2) (b / 2))

pub bit-cases : (P : ℕ → Type 0) → P 0 → P 1 → (i x : ℕ) → P (bit i x)
unfolding bit
bit-cases P p0 p1 zero x = digit-cases P p0 p1 x
bit-cases P p0 p1 (suc i) x = bit-cases P p0 p1 i (x / 2)

bit-zero : (i : ℕ) → bit i 0 ≡ 0
unfolding bit
bit-zero zero = refl
bit-zero (suc i) = bit-zero i

zero-ext : (b : ℕ) → ((i : ℕ) → bit i b ≡ 0) → 0 ≡ b
unfolding bit
zero-ext =
    bin_ind (λ (b : ℕ). ((i : ℕ) → bit i b ≡ 0) → 0 ≡ b) (λ h. refl)
    (λ n ih h. let e : 0 ≡ n / 2 = ih (λ i. h (suc i)) in let o : n % 2 ≡ 0 = h 0 in omega arith)

-- two numbers are equal when their bits are
pub bit-ext : (a b : ℕ) → ((i : ℕ) → bit i a ≡ bit i b) → a ≡ b
unfolding bit
bit-ext =
    bin_ind (λ (a : ℕ). (b : ℕ) → ((i : ℕ) → bit i a ≡ bit i b) → a ≡ b)
    (λ b h. zero-ext b (λ i. sym (h i) ∙ bit-zero i))
    (λ n ih b h. let e : n / 2 ≡ b / 2 = ih (b / 2) (λ i. h (suc i)) in let o : n % 2 ≡ b % 2 = h 0 in omega arith)

-- two functions of three bits that agree in the eight cases
abbrev pub Same3 : (f g : ℕ → ℕ → ℕ → ℕ) → Type 0
Same3 f g =
    (f 0 0 0 ≡ g 0 0 0) × (f 0 0 1 ≡ g 0 0 1) × (f 0 1 0 ≡ g 0 1 0) × (f 0 1 1 ≡ g 0 1 1)
    × (f 1 0 0 ≡ g 1 0 0) × (f 1 0 1 ≡ g 1 0 1) × (f 1 1 0 ≡ g 1 1 0) × (f 1 1 1 ≡ g 1 1 1)

-- so do they at a place of any three words
pub bits3 : (f g : ℕ → ℕ → ℕ → ℕ) → Same3 f g
    → (i a b c : ℕ) → f (bit i a) (bit i b) (bit i c) ≡ g (bit i a) (bit i b) (bit i c)
bits3 f g s i a b c =
    bit-cases (λ (x : ℕ). f x (bit i b) (bit i c) ≡ g x (bit i b) (bit i c))
    (bit-cases (λ (y : ℕ). f 0 y (bit i c) ≡ g 0 y (bit i c))
    (bit-cases (λ (z : ℕ). f 0 0 z ≡ g 0 0 z) s.0 s.1 i c)
    (bit-cases (λ (z : ℕ). f 0 1 z ≡ g 0 1 z) s.2 s.3 i c) i b)
    (bit-cases (λ (y : ℕ). f 1 y (bit i c) ≡ g 1 y (bit i c))
    (bit-cases (λ (z : ℕ). f 1 0 z ≡ g 1 0 z) s.4 s.5 i c)
    (bit-cases (λ (z : ℕ). f 1 1 z ≡ g 1 1 z) s.6 s.7 i c) i b) i a

-- ---- xor
pub ⊕-assoc : (a b c : ℕ) → (a ⊕ b) ⊕ c ≡ a ⊕ (b ⊕ c)
⊕-assoc a b c =
    bit-ext _ _ (λ i. simp bit-⊕
    (bits3 (λ x y z. differ (differ x y) z) (λ x y z. differ x (differ y z)) (refl, refl, refl, refl, refl, refl, refl, refl) i a b c))

pub ⊕-comm : (a b : ℕ) → a ⊕ b ≡ b ⊕ a
unfolding ◌⊕◌
⊕-comm = xor_comm

pub ⊕-self : (a : ℕ) → a ⊕ a ≡ 0
unfolding ◌⊕◌
⊕-self = xor_self

pub ⊕-zero : (a : ℕ) → a ⊕ 0 ≡ a
unfolding ◌⊕◌
⊕-zero = xor_zero_r

pub zero-⊕ : (a : ℕ) → 0 ⊕ a ≡ a
unfolding ◌⊕◌
zero-⊕ = xor_zero_l

pub ⊕-left-comm : (a b c : ℕ) → a ⊕ (b ⊕ c) ≡ b ⊕ (a ⊕ c)
⊕-left-comm a b c = sym (⊕-assoc a b c) ∙ ap (λ (x : ℕ). x ⊕ c) (⊕-comm a b) ∙ ⊕-assoc b a c

pub ⊕-cancel : (a b : ℕ) → a ⊕ (a ⊕ b) ≡ b
⊕-cancel a b = sym (⊕-assoc a a b) ∙ ap (λ (x : ℕ). x ⊕ b) (⊕-self a) ∙ zero-⊕ b

-- what was added is taken off by adding it again
pub ⊕-back : (a b : ℕ) → (a ⊕ b) ⊕ b ≡ a
⊕-back a b = ⊕-assoc a b b ∙ ap (λ (x : ℕ). a ⊕ x) (⊕-self b) ∙ ⊕-zero a

-- sorts a sum and strikes out pairs
pub ruleset xor-sum = (⊕-assoc, ⊕-comm, ⊕-left-comm, ⊕-self, ⊕-zero, zero-⊕, ⊕-cancel)

-- ---- bounds
pub ⊕-lt : (k : ℕ) {a b : ℕ} → a < 2 ^ k → b < 2 ^ k → a ⊕ b < 2 ^ k
unfolding ◌⊕◌
⊕-lt k ha hb = xor_lt k _ _ ha hb

pub ⊙-lt : (k : ℕ) {a b : ℕ} → a < 2 ^ k → b < 2 ^ k → a ⊙ b < 2 ^ k
unfolding ◌⊙◌
⊙-lt k ha hb = and_lt k _ _ ha hb

-- ---- not
⊙-zero : (a : ℕ) → a ⊙ 0 ≡ 0
unfolding ◌⊙◌
⊙-zero = and_zero_r

half-ext : (a b : ℕ) → a / 2 ≡ b / 2 → a % 2 ≡ b % 2 → a ≡ b
half-ext a b p q = omega arith

half_lt : (k a : ℕ) → a < 2 ^ suc k → a / 2 < 2 ^ k
half_lt k a h = omega (arith, rw pow-suc at h)

not-half : (k a : ℕ) → a < 2 ^ suc k → (2 ^ suc k - 1 - a) / 2 ≡ 2 ^ k - 1 - a / 2
not-half k a h = rw pow-suc (go (2 ^ k) a (rw pow-suc at h))
  where
    go : (p a : ℕ) → a < p * 2 → (p * 2 - 1 - a) / 2 ≡ p - 1 - a / 2
    go p a h = omega arith

not-odd : (k a : ℕ) → a < 2 ^ suc k → (2 ^ suc k - 1 - a) % 2 ≡ 1 - a % 2
not-odd k a h = rw pow-suc (go (2 ^ k) a (rw pow-suc at h))
  where
    go : (p a : ℕ) → a < p * 2 → (p * 2 - 1 - a) % 2 ≡ 1 - a % 2
    go p a h = omega arith

odd-not-and : (a b : ℕ) → min (1 - a % 2) (b % 2) ≡ differ (b % 2) (min (a % 2) (b % 2))
odd-not-and a b =
    digit-cases (λ (x : ℕ). min (1 - x) (b % 2) ≡ differ (b % 2) (min x (b % 2)))
    (digit-cases (λ (y : ℕ). min 1 y ≡ differ y (min 0 y)) refl refl b)
    (digit-cases (λ (y : ℕ). min 0 y ≡ differ y (min 1 y)) refl refl b) a

-- among the words of k bits, (not a) and b is b less what a has of it
pub not-and : (k a b : ℕ) → a < 2 ^ k → b < 2 ^ k → (2 ^ k - 1 - a) ⊙ b ≡ b ⊕ (a ⊙ b)
not-and zero a b ha hb = rw (lt-one hb, ⊙-zero, ⊙-zero) (sym (⊕-zero 0))
not-and (suc k) a b ha hb =
    half-ext _ _
    (rw (⊙-half, not-half k a ha, ⊕-half, ⊙-half) (not-and k (a / 2) (b / 2) (half_lt k a ha) (half_lt k b hb)))
    (rw (⊙-odd, not-odd k a ha, ⊕-odd, ⊙-odd) (odd-not-and a b))

-- a sum's not is that of one of its parts, with the other added
odd-not-sum : (a b : ℕ) → 1 - differ (a % 2) (b % 2) ≡ differ (1 - a % 2) (b % 2)
odd-not-sum a b =
    digit-cases (λ (x : ℕ). 1 - differ x (b % 2) ≡ differ (1 - x) (b % 2))
    (digit-cases (λ (y : ℕ). 1 - differ 0 y ≡ differ 1 y) refl refl b)
    (digit-cases (λ (y : ℕ). 1 - differ 1 y ≡ differ 0 y) refl refl b) a

pub not-sum : (k a b : ℕ) → a < 2 ^ k → b < 2 ^ k → 2 ^ k - 1 - (a ⊕ b) ≡ (2 ^ k - 1 - a) ⊕ b
not-sum zero a b ha hb = rw (lt-one ha, lt-one hb, ⊕-zero) refl
not-sum (suc k) a b ha hb =
    half-ext _ _
    (rw (not-half k (a ⊕ b) (⊕-lt (suc k) ha hb), ⊕-half, ⊕-half, not-half k a ha) (not-sum k (a / 2) (b / 2) (half_lt k a ha) (half_lt k b hb)))
    (rw (not-odd k (a ⊕ b) (⊕-lt (suc k) ha hb), ⊕-odd, ⊕-odd, not-odd k a ha) (odd-not-sum a b))

-- what neither has is what the two together have not
odd-not-or : (a b : ℕ) → min (1 - a % 2) (1 - b % 2) ≡ 1 - max (a % 2) (b % 2)
odd-not-or a b =
    digit-cases (λ (x : ℕ). min (1 - x) (1 - b % 2) ≡ 1 - max x (b % 2))
    (digit-cases (λ (y : ℕ). min 1 (1 - y) ≡ 1 - max 0 y) refl refl b)
    (digit-cases (λ (y : ℕ). min 0 (1 - y) ≡ 1 - max 1 y) refl refl b) a

pub not-or : (k a b : ℕ) → a < 2 ^ k → b < 2 ^ k → (2 ^ k - 1 - a) ⊙ (2 ^ k - 1 - b) ≡ 2 ^ k - 1 - bit_or a b
not-or zero a b ha hb = rw (lt-one ha, lt-one hb) (⊙-zero 0)
not-or (suc k) a b ha hb =
    half-ext _ _
    (rw (⊙-half, not-half k a ha, not-half k b hb, not-half k (bit_or a b) (or_lt (suc k) a b ha hb), or-half) (not-or k (a / 2) (b / 2) (half_lt k a ha) (half_lt k b hb)))
    (rw (⊙-odd, not-odd k a ha, not-odd k b hb, not-odd k (bit_or a b) (or_lt (suc k) a b ha hb), or-odd) (odd-not-or a b))

pub ⊙-comm : (a b : ℕ) → a ⊙ b ≡ b ⊙ a
unfolding ◌⊙◌
⊙-comm = and_comm
