-- The bytes of words: what is added to the words is added to their bytes.
use mathlib.Core.Path.{◌≡◌, refl, ap, ap₂, ◌∙◌}
use mathlib.Core.List.{List, [], ◌∷◌, ◌++◌}
use Prim.Native.Nat.{ℕ, zero, suc, ◌*◌, ◌/◌, ◌^◌, ◌<◌}
use native.Mathlib.Omega.{arith}
use lib.Bits.{xor_mod, xor_shr}
use Rattle.laws.specs.Words.{◌⊕◌}
use Rattle.laws.specs.Lists.{add_front, add_at}
use Rattle.laws.proofs.Words.{⊕-zero}
use Rattle.xoodoo.specs.Xoodoo.{byte_of, word_bytes}
use Rattle.xoodoo.specs.declared.round.Plane.{Plane}
use Rattle.xoodoo.specs.declared.round.State.{State}

byte-⊕ : (v w k : ℕ) → byte_of (v ⊕ w) k ≡ byte_of v k ⊕ byte_of w k
unfolding byte_of ◌⊕◌
byte-⊕ v w k = rw (xor_shr v w k) (xor_mod (v / 2 ^ k) (w / 2 ^ k) 8)

pub word-⊕ : (v w : ℕ) → word_bytes (v ⊕ w) ≡ add_front (word_bytes v) (word_bytes w)
unfolding word_bytes
word-⊕ v w = ap₂ ◌∷◌ (byte-⊕ v w 0) (ap₂ ◌∷◌ (byte-⊕ v w 8) (ap₂ ◌∷◌ (byte-⊕ v w 16) (ap₂ ◌∷◌ (byte-⊕ v w 24) refl)))

-- the bytes of a list of words
unfoldable pub words_bytes : List ℕ → List ℕ
words_bytes [] = []
words_bytes (w ∷ ws) = word_bytes w ++ words_bytes ws

-- the words of a plane, and the twelve of a state
unfoldable pub row : Plane → List ℕ
row p = p.x0 ∷ p.x1 ∷ p.x2 ∷ p.x3 ∷ []

unfoldable pub twelve : State → List ℕ
twelve s = row s.p0 ++ row s.p1 ++ row s.p2

pub words-⊕ : (vs ws : List ℕ) → words_bytes (add_front vs ws) ≡ add_front (words_bytes vs) (words_bytes ws)
unfolding words_bytes word_bytes
words-⊕ [] ws = refl
words-⊕ (v ∷ vs) [] = refl
words-⊕ (v ∷ vs) (w ∷ ws) = ap₂ ◌++◌ (word-⊕ v w) (words-⊕ vs ws)

-- ---- a byte is added to one byte of a word
stays : (v w k : ℕ) → byte_of w k ≡ 0 → byte_of (v ⊕ w) k ≡ byte_of v k
stays v w k e = byte-⊕ v w k ∙ rw e (⊕-zero (byte_of v k))

gets : (v w k b : ℕ) → byte_of w k ≡ b → byte_of (v ⊕ w) k ≡ byte_of v k ⊕ b
gets v w k b e = byte-⊕ v w k ∙ rw e

-- the lowest
low_byte : (v b : ℕ) → b < 256 → word_bytes (v ⊕ b) ≡ add_at (word_bytes v) 0 b
unfolding word_bytes byte_of
low_byte v b h =
    ap₂ ◌∷◌ (gets v b 0 b (omega arith))
    (ap₂ ◌∷◌ (stays v b 8 (omega arith)) (ap₂ ◌∷◌ (stays v b 16 (omega arith)) (ap₂ ◌∷◌ (stays v b 24 (omega arith)) refl)))

-- where the bytes of word i begin
unfoldable pub place : ℕ → ℕ
place zero = 0
place (suc i) = suc (suc (suc (suc (place i))))

-- a 1 is added to word i of a list
pub one-at : (ws : List ℕ) (i : ℕ) → words_bytes (add_at ws i 1) ≡ add_at (words_bytes ws) (place i) 1
unfolding words_bytes word_bytes place
one-at [] i = refl
one-at (w ∷ ws) zero = ap (λ l. l ++ words_bytes ws) (low_byte w 1 (omega arith))
one-at (w ∷ ws) (suc i) = ap (λ l. word_bytes w ++ l) (one-at ws i)

-- the highest
pub high_byte : (v b : ℕ) → b < 256 → word_bytes (v ⊕ b * 2 ^ 24) ≡ add_at (word_bytes v) 3 b
unfolding word_bytes byte_of
high_byte v b h =
    let w : ℕ = b * 2 ^ 24 in
    ap₂ ◌∷◌ (stays v w 0 (omega arith))
    (ap₂ ◌∷◌ (stays v w 8 (omega arith)) (ap₂ ◌∷◌ (stays v w 16 (omega arith)) (ap₂ ◌∷◌ (gets v w 24 b (omega arith)) refl)))
