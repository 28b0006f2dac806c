-- Rotation to the left in 32 bits. `rotl` is the code's form, `rot` is a rotation by one done k times: it composes by addition
-- and passes through ⊕ at any two numbers. The two agree on words of 32 bits.
use mathlib.Core.Path.{◌≡◌, refl, sym, ap, ap₂, ◌∙◌, subst}
use Prim.Native.Nat.{ℕ, zero, suc, ◌+◌, ◌-◌, ◌*◌, ◌/◌, ◌%◌, ◌^◌, ◌≤◌, ◌<◌}
use native.Mathlib.Nat.{mod-lt, zero-lt-suc, pow-suc, mul-mod_left, add-suc, add-zero}
use native.Mathlib.Numerals.{one-add, add-one}
use native.Mathlib.Omega.{arith}
use lib.Arith.{digits_lt, digits_div, digits_mod}
use lib.Pow.{pow_pos, pow-add, shl-shr, shr_lt, shr-shr, mod-pow-add}
use lib.Bits.{bit_or, bit_xor, and_block, or_shifted, xor_block, xor_mod, xor_shr, xor_shifted}
use Rattle.laws.specs.Words.{◌⊕◌, ◌⊙◌, not32, rotl}
use Rattle.laws.proofs.Words.{xor-sum, ⊕-lt, ⊙-lt}

-- the j low digits come first, and then the k high ones
part : ℕ → ℕ → ℕ → ℕ
part j k w = (w % 2 ^ j) * 2 ^ k + w / 2 ^ j

shl-mod : (w j k : ℕ) → (w * 2 ^ k) % 2 ^ (j + k) ≡ (w % 2 ^ j) * 2 ^ k
shl-mod w j k = mod-pow-add (w * 2 ^ k) j k ∙ rw (shl-shr w k, mul-mod_left w (2 ^ k), add-zero)

rotl-part : (j k w : ℕ) → j + k ≡ 32 → w < 2 ^ 32 → rotl k w ≡ part j k w
unfolding rotl part
rotl-part j k w e h =
    let d : 32 - k ≡ j = omega arith in
    let f : k + j ≡ 32 = omega arith in
    ap₂ (λ (n m : ℕ). bit_or ((w * 2 ^ k) % 2 ^ n) (w / 2 ^ m)) (sym e) d
    ∙ ap (λ (x : ℕ). bit_or x (w / 2 ^ j)) (shl-mod w j k)
    ∙ or_shifted (w % 2 ^ j) k (w / 2 ^ j) (shr_lt k j (subst (λ (n : ℕ). w < 2 ^ n) (sym f) h))

-- by one place
turn : ℕ → ℕ
turn w = (w % 2 ^ 31) * 2 ⊕ w / 2 ^ 31

-- by k places
pub rot : ℕ → ℕ → ℕ
rot zero w = w
rot (suc k) w = turn (rot k w)

-- ---- through sums, and one after the other
double-⊕ : (a b : ℕ) → (a ⊕ b) * 2 ≡ a * 2 ⊕ b * 2
unfolding ◌⊕◌
double-⊕ a b =
    sym (add-zero (bit_xor a b * 2)) ∙ sym (xor_block 1 a b 0 0 (zero-lt-suc 1) (zero-lt-suc 1))
    ∙ ap₂ bit_xor (add-zero (a * 2)) (add-zero (b * 2))

mod-⊕ : (a b : ℕ) → (a ⊕ b) % 2 ^ 31 ≡ a % 2 ^ 31 ⊕ b % 2 ^ 31
unfolding ◌⊕◌
mod-⊕ a b = xor_mod a b 31

div-⊕ : (a b : ℕ) → (a ⊕ b) / 2 ^ 31 ≡ a / 2 ^ 31 ⊕ b / 2 ^ 31
unfolding ◌⊕◌
div-⊕ a b = xor_shr a b 31

turn-⊕ : (a b : ℕ) → turn (a ⊕ b) ≡ turn a ⊕ turn b
unfolding turn
turn-⊕ a b = rw (mod-⊕ a b, div-⊕ a b, double-⊕) (simp xor-sum)

pub rot-⊕ : (k a b : ℕ) → rot k (a ⊕ b) ≡ rot k a ⊕ rot k b
unfolding rot
rot-⊕ zero a b = refl
rot-⊕ (suc k) a b = ap turn (rot-⊕ k a b) ∙ turn-⊕ (rot k a) (rot k b)

pub rot-rot : (j k w : ℕ) → rot j (rot k w) ≡ rot (k + j) w
unfolding rot
rot-rot zero k w = rw add-zero
rot-rot (suc j) k w = rw add-suc (ap turn (rot-rot j k w))

pub rot_zero : (w : ℕ) → rot 0 w ≡ w
unfolding rot
rot_zero w = refl

turn-lt : (w : ℕ) → w < 2 ^ 32 → turn w < 2 ^ 32
unfolding turn
turn-lt w h =
    let m : w % 2 ^ 31 < 2 ^ 31 = mod-lt w (pow_pos 31) in
    ⊕-lt 32 {a = (w % 2 ^ 31) * 2} {b = w / 2 ^ 31} (omega arith) (omega arith)

pub rot-lt : (k : ℕ) {w : ℕ} → w < 2 ^ 32 → rot k w < 2 ^ 32
unfolding rot
rot-lt zero h = h
rot-lt (suc k) {w} h = turn-lt (rot k w) (rot-lt k h)

-- all ones stay all ones
turn-ones : turn (not32 0) ≡ not32 0
unfolding turn not32 ◌⊕◌
turn-ones = refl

pub rot-ones : (k : ℕ) → rot k (not32 0) ≡ not32 0
unfolding rot
rot-ones zero = refl
rot-ones (suc k) = ap turn (rot-ones k) ∙ turn-ones

-- ---- the two forms agree
-- the top digit of a word of 32 moves to the bottom
turn-digits : (b x : ℕ) → b < 2 → x < 2 ^ 31 → turn (b * 2 ^ 31 + x) ≡ x * 2 + b
unfolding turn ◌⊕◌
turn-digits b x hb hx =
    ap₂ (λ (n m : ℕ). bit_xor (n * 2) m) (digits_mod b hx) (digits_div b hx) ∙ xor_shifted x 1 b hb

-- ---- through and, of words of 32 bits: the top digit and the others apart
block-⊙ : (k a b r s : ℕ) → r < 2 ^ k → s < 2 ^ k → (a * 2 ^ k + r) ⊙ (b * 2 ^ k + s) ≡ (a ⊙ b) * 2 ^ k + (r ⊙ s)
unfolding ◌⊙◌
block-⊙ = and_block

turn-blocks : (a b x y : ℕ) → a < 2 → b < 2 → x < 2 ^ 31 → y < 2 ^ 31
    → turn ((a * 2 ^ 31 + x) ⊙ (b * 2 ^ 31 + y)) ≡ turn (a * 2 ^ 31 + x) ⊙ turn (b * 2 ^ 31 + y)
turn-blocks a b x y ha hb hx hy =
    ap turn (block-⊙ 31 a b x y hx hy) ∙ turn-digits (a ⊙ b) (x ⊙ y) (⊙-lt 1 ha hb) (⊙-lt 31 hx hy)
    ∙ sym (ap₂ ◌⊙◌ (turn-digits a x ha hx) (turn-digits b y hb hy) ∙ block-⊙ 1 x y a b ha hb)

turn-⊙ : (a b : ℕ) → a < 2 ^ 32 → b < 2 ^ 32 → turn (a ⊙ b) ≡ turn a ⊙ turn b
turn-⊙ a b ha hb =
    let da : a / 2 ^ 31 * 2 ^ 31 + a % 2 ^ 31 ≡ a = omega arith in
    let db : b / 2 ^ 31 * 2 ^ 31 + b % 2 ^ 31 ≡ b = omega arith in
    ap₂ (λ (x y : ℕ). turn (x ⊙ y)) (sym da) (sym db)
    ∙ turn-blocks (a / 2 ^ 31) (b / 2 ^ 31) (a % 2 ^ 31) (b % 2 ^ 31) (omega arith) (omega arith) (mod-lt a (pow_pos 31)) (mod-lt b (pow_pos 31))
    ∙ ap₂ (λ (x y : ℕ). turn x ⊙ turn y) da db

pub rot-⊙ : (k a b : ℕ) → a < 2 ^ 32 → b < 2 ^ 32 → rot k (a ⊙ b) ≡ rot k a ⊙ rot k b
unfolding rot
rot-⊙ zero a b ha hb = refl
rot-⊙ (suc k) a b ha hb = ap turn (rot-⊙ k a b ha hb) ∙ turn-⊙ (rot k a) (rot k b) (rot-lt k ha) (rot-lt k hb)

-- ---- by k places, digit by digit
turn-core : (P K q l : ℕ) → P * K ≡ 2 ^ 31 → l < P → q / 2 < K → turn (((q % 2) * P + l) * K + q / 2) ≡ l * (K * 2) + q
turn-core P K q l e hl hq =
    let s : ((q % 2) * P + l) * K + q / 2 ≡ (q % 2) * (P * K) + (l * K + q / 2) = omega arith in
    let b : l * K + q / 2 < P * K = digits_lt hl hq in
    ap turn (s ∙ ap (λ (n : ℕ). (q % 2) * n + (l * K + q / 2)) e)
    ∙ turn-digits (q % 2) (l * K + q / 2) (mod-lt q (zero-lt-suc 1)) (subst (λ (n : ℕ). l * K + q / 2 < n) e b)
    ∙ omega arith

turn-part : (j k w : ℕ) → j + suc k ≡ 32 → w < 2 ^ 32 → turn (part (suc j) k w) ≡ part j (suc k) w
unfolding part
turn-part j k w e h =
    let f : j + k ≡ 31 = omega (arith, add-suc j k) in
    let g : suc k + j ≡ 32 = omega (arith, add-suc j k) in
    let m : w % 2 ^ suc j ≡ (w / 2 ^ j % 2) * 2 ^ j + w % 2 ^ j =
    subst (λ (n : ℕ). w % 2 ^ n ≡ (w / 2 ^ j % 2) * 2 ^ j + w % 2 ^ j) (one-add j) (mod-pow-add w 1 j) in
    let d : w / 2 ^ suc j ≡ w / 2 ^ j / 2 = sym (subst (λ (n : ℕ). w / 2 ^ j / 2 ≡ w / 2 ^ n) (add-one j) (shr-shr w j 1)) in
    let hi : w / 2 ^ j < 2 ^ suc k = shr_lt (suc k) j (subst (λ (n : ℕ). w < 2 ^ n) (sym g) h) in
    let half : w / 2 ^ j / 2 < 2 ^ k = omega (arith, rw pow-suc at hi) in
    rw (m, d, pow-suc 2 k)
    (turn-core (2 ^ j) (2 ^ k) (w / 2 ^ j) (w % 2 ^ j) (sym (pow-add 2 j k) ∙ ap (λ (n : ℕ). 2 ^ n) f) (mod-lt w (pow_pos j)) half)

part-zero : (w : ℕ) → w < 2 ^ 32 → w ≡ part 32 0 w
unfolding part
part-zero w h = omega arith

part-all : (w : ℕ) → part 0 32 w ≡ w
unfolding part
part-all w = omega arith

rot-part : (j k w : ℕ) → j + k ≡ 32 → w < 2 ^ 32 → rot k w ≡ part j k w
unfolding rot
rot-part j zero w e h = let f : j ≡ 32 = omega arith in rw f (part-zero w h)
rot-part j (suc k) w e h = ap turn (rot-part (suc j) k w (omega (arith, add-suc j k)) h) ∙ turn-part j k w e h

pub rotl-is : (k w : ℕ) → k ≤ 32 → w < 2 ^ 32 → rotl k w ≡ rot k w
rotl-is k w l h = let e : 32 - k + k ≡ 32 = omega arith in rotl-part (32 - k) k w e h ∙ sym (rot-part (32 - k) k w e h)

pub rotl-lt : {w : ℕ} (k : ℕ) → k ≤ 32 → w < 2 ^ 32 → rotl k w < 2 ^ 32
rotl-lt {w} k l h = rw (rotl-is k w l h) (rot-lt k h)

-- ---- only the number modulo 32 matters
rot-32 : (w : ℕ) → w < 2 ^ 32 → rot 32 w ≡ w
rot-32 w h = rot-part 0 32 w refl h ∙ part-all w

rot-turns : (n w : ℕ) → w < 2 ^ 32 → rot (n * 32) w ≡ w
unfolding rot
rot-turns zero w h = refl
rot-turns (suc n) w h =
    ap (λ (m : ℕ). rot m w) go ∙ sym (rot-rot 32 (n * 32) w) ∙ ap (rot 32) (rot-turns n w h) ∙ rot-32 w h
  where
    go : suc n * 32 ≡ n * 32 + 32
    go = omega arith

pub rot-mod : (k w : ℕ) → w < 2 ^ 32 → rot k w ≡ rot (k % 32) w
rot-mod k w h =
    ap (λ (m : ℕ). rot m w) go ∙ sym (rot-rot (k % 32) (k / 32 * 32) w) ∙ ap (rot (k % 32)) (rot-turns (k / 32) w h)
  where
    go : k ≡ k / 32 * 32 + k % 32
    go = omega arith

-- a rotation is undone by what is left to 32
pub rotl-back : (j k w : ℕ) → k + j ≡ 32 → w < 2 ^ 32 → rotl j (rotl k w) ≡ w
rotl-back j k w e h =
    let hj : j ≤ 32 = omega arith in
    let hk : k ≤ 32 = omega arith in
    rotl-is j _ hj (rotl-lt k hk h) ∙ ap (rot j) (rotl-is k w hk h) ∙ rot-rot j k w ∙ ap (λ (n : ℕ). rot n w) e ∙ rot-32 w h
