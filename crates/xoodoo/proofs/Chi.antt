-- One word of chi: its bound, that chi undoes itself, that it may be done in place, that a rotation passes through it, and what it is
-- of complemented words.
use mathlib.Core.Path.{◌≡◌, refl, sym, ap, ◌∙◌}
use Prim.Native.Nat.{ℕ, ◌^◌, ◌<◌, min}
use native.Mathlib.Omega.{arith}
use lib.Bits.{bit_or, differ, or_lt}
use lib.Pow.{ones_sub-lt}
use Rattle.laws.specs.Words.{◌⊕◌, ◌⊙◌, not32}
use Rattle.laws.proofs.Words.{⊕-lt, ⊕-comm, ⊙-lt, ⊙-comm, not-and, not-sum, not-or, bit-⊕, bit-⊙, bit-ext, bits3}
use Rattle.laws.proofs.Rotation.{rot, rot-⊕, rot-⊙, rot-lt}
use Rattle.xoodoo.specs.Xoodoo.{gain}

pub gain-lt : {a c : ℕ} (b : ℕ) → a < 2 ^ 32 → c < 2 ^ 32 → gain a b c < 2 ^ 32
unfolding gain not32
gain-lt b ha hc = ⊕-lt 32 ha (⊙-lt 32 (ones_sub-lt 32 b) hc)

-- the same without not: no bounds are needed from here on
gain' : ℕ → ℕ → ℕ → ℕ
gain' a b c = a ⊕ (c ⊕ (b ⊙ c))

gain-is : (a b c : ℕ) → b < 2 ^ 32 → c < 2 ^ 32 → gain a b c ≡ gain' a b c
unfolding gain gain' not32
gain-is a b c hb hc = ap (λ (x : ℕ). a ⊕ x) (not-and 32 b c hb hc)

-- and on a bit
gain1 : ℕ → ℕ → ℕ → ℕ
gain1 a b c = differ a (differ c (min b c))

-- an identity of the three words of a column, by its eight cases on bits
gain'-back : (a b c : ℕ) → gain' (gain' a b c) (gain' b c a) (gain' c a b) ≡ a
unfolding gain' gain1
gain'-back a b c =
    bit-ext _ _ (λ i. simp (bit-⊕, bit-⊙)
    (bits3 (λ x y z. gain1 (gain1 x y z) (gain1 y z x) (gain1 z x y)) (λ x y z. x)
    (refl, refl, refl, refl, refl, refl, refl, refl) i a b c))

pub gain-back : (a b c : ℕ) → a < 2 ^ 32 → b < 2 ^ 32 → c < 2 ^ 32 → gain (gain a b c) (gain b c a) (gain c a b) ≡ a
gain-back a b c ha hb hc =
    gain-is _ _ _ (gain-lt c hb ha) (gain-lt a hc hb)
    ∙ rw (gain-is a b c hb hc, gain-is b c a hc ha, gain-is c a b ha hb) (gain'-back a b c)

-- ---- in place, a word is read after another was changed: the result is the same
gain'-second : (a b c : ℕ) → gain' b c (gain' a b c) ≡ gain' b c a
unfolding gain' gain1
gain'-second a b c =
    bit-ext _ _ (λ i. simp (bit-⊕, bit-⊙)
    (bits3 (λ x y z. gain1 y z (gain1 x y z)) (λ x y z. gain1 y z x)
    (refl, refl, refl, refl, refl, refl, refl, refl) i a b c))

gain'-third : (a b c : ℕ) → gain' c (gain' a b c) (gain' b c a) ≡ gain' c a b
unfolding gain' gain1
gain'-third a b c =
    bit-ext _ _ (λ i. simp (bit-⊕, bit-⊙)
    (bits3 (λ x y z. gain1 z (gain1 x y z) (gain1 y z x)) (λ x y z. gain1 z x y)
    (refl, refl, refl, refl, refl, refl, refl, refl) i a b c))

pub gain-second : (a b c : ℕ) → a < 2 ^ 32 → b < 2 ^ 32 → c < 2 ^ 32 → gain b c (gain a b c) ≡ gain b c a
gain-second a b c ha hb hc =
    gain-is b c _ hc (gain-lt b ha hc) ∙ rw (gain-is a b c hb hc) (gain'-second a b c)
    ∙ sym (gain-is b c a hc ha)

pub gain-third : (a b c : ℕ) → a < 2 ^ 32 → b < 2 ^ 32 → c < 2 ^ 32 → gain c (gain a b c) (gain b c a) ≡ gain c a b
gain-third a b c ha hb hc =
    gain-is c _ _ (gain-lt b ha hc) (gain-lt c hb ha) ∙ rw (gain-is a b c hb hc, gain-is b c a hc ha) (gain'-third a b c)
    ∙ sym (gain-is c a b ha hb)

-- ---- rotated
pub rot-gain : (k a b c : ℕ) → b < 2 ^ 32 → c < 2 ^ 32 → gain (rot k a) (rot k b) (rot k c) ≡ rot k (gain a b c)
unfolding gain'
rot-gain k a b c hb hc =
    gain-is _ _ _ (rot-lt k hb) (rot-lt k hc)
    ∙ sym (ap (rot k) (gain-is a b c hb hc) ∙ rw (rot-⊕, rot-⊕, rot-⊙ k b c hb hc))

-- ---- complemented
pub not-lt : (w : ℕ) → not32 w < 2 ^ 32
unfolding not32
not-lt w = ones_sub-lt 32 w

not-not : {w : ℕ} → w < 2 ^ 32 → not32 (not32 w) ≡ w
unfolding not32
not-not h = omega arith

pub not-added : {a b : ℕ} → a < 2 ^ 32 → b < 2 ^ 32 → not32 (a ⊕ b) ≡ not32 a ⊕ b
unfolding not32
not-added {a} {b} ha hb = not-sum 32 a b ha hb

not-both : {a b : ℕ} → a < 2 ^ 32 → b < 2 ^ 32 → not32 a ⊙ not32 b ≡ not32 (bit_or a b)
unfolding not32
not-both {a} {b} ha hb = not-or 32 a b ha hb

-- a not on the first word passes through
pub gain-not : {a c : ℕ} (b : ℕ) → a < 2 ^ 32 → c < 2 ^ 32 → gain a b c ≡ not32 (gain (not32 a) b c)
unfolding gain
gain-not {a} {c} b ha hc =
    sym (not-added (not-lt a) (⊙-lt 32 (not-lt b) hc) ∙ ap (λ (w : ℕ). w ⊕ not32 b ⊙ c) (not-not ha))

-- one on the second makes it an and
pub gain-and : {b : ℕ} (a c : ℕ) → b < 2 ^ 32 → a ⊕ b ⊙ c ≡ gain a (not32 b) c
unfolding gain
gain-and a c hb = ap (λ (w : ℕ). a ⊕ w ⊙ c) (sym (not-not hb))

-- one on the third makes it an or, itself complemented
pub gain-or : {a b c : ℕ} → a < 2 ^ 32 → b < 2 ^ 32 → c < 2 ^ 32 → a ⊕ bit_or b c ≡ not32 (gain a b (not32 c))
unfolding gain
gain-or {a} {b} {c} ha hb hc =
    let o = bit_or b c in
    let ho : o < 2 ^ 32 = or_lt 32 b c hb hc in
    sym
    (ap (λ (w : ℕ). not32 (a ⊕ w)) (not-both hb hc) ∙ ap not32 (⊕-comm a (not32 o))
    ∙ not-added (not-lt o) ha ∙ ap (λ (w : ℕ). w ⊕ a) (not-not ho) ∙ ⊕-comm o a)

pub gain-or-not : {a b c : ℕ} → a < 2 ^ 32 → b < 2 ^ 32 → c < 2 ^ 32 → a ⊕ bit_or b c ≡ gain (not32 a) b (not32 c)
unfolding gain
gain-or-not {a} {b} {c} ha hb hc = gain-or ha hb hc ∙ not-added ha (⊙-lt 32 (not-lt b) (not-lt c))

-- on the second and the third they change places
pub gain-swap : {b : ℕ} (a c : ℕ) → b < 2 ^ 32 → gain a c b ≡ gain a (not32 b) (not32 c)
unfolding gain
gain-swap {b} a c hb = ap (λ (w : ℕ). a ⊕ w) (⊙-comm (not32 c) b ∙ ap (λ (w : ℕ). w ⊙ not32 c) (sym (not-not hb)))
