-- Blocks as words, by their bytes: read from a run of bytes, and written over one.
use mathlib.Core.Path.{◌≡◌, refl, sym, ap, ◌∙◌}
use mathlib.Core.List.{List, [], ◌∷◌, append-nil}
use Prim.Native.Nat.{ℕ, ◌+◌, ◌*◌, ◌/◌, ◌%◌, ◌^◌, ◌≤◌, ◌<◌}
use native.Mathlib.Omega.{arith}
use lib.Dec.{lit≤}
use lib.ListN.{length, take, drop, replicate, drop_of_length-le}
use lib.Seq.{take_all, sets, sets-eq}
use Rattle.xoodoo.specs.Xoodoo.{word_of, word_at, byte_of, word_bytes, plane_bytes}
use Rattle.xoodoo.specs.Words.{six_bytes, eleven_bytes}
use Rattle.xoodoo.specs.declared.round.Plane.{Plane}
use Rattle.xoodoo.specs.declared.words.Six.{Six}
use Rattle.xoodoo.specs.declared.words.Eleven.{Eleven}
use Rattle.xoodoo.proofs.Bytes.{join, word-at-back, stored-plane, plane-size}

-- ---- words that are read
-- the sum that makes a word of four bytes
pub word-of : {a b c d : ℕ} → a < 256 → b < 256 → c < 256 → d < 256 → word_bytes (a + b * 0x100 + c * 0x10000 + d * 0x1000000) ≡ a ∷ b ∷ c ∷ d ∷ []
unfolding word_at word_of
word-of {a} {b} {c} {d} ha hb hc hd = word-at-back (a ∷ b ∷ c ∷ d ∷ []) 0 (ha, (hb, (hc, (hd, tt)))) (lit≤ tt)

-- the four bytes of w are those of b from i on
abbrev pub At : List ℕ → ℕ → ℕ → Type 0
At b i w = word_bytes w ≡ take 4 (drop i b)

pub plane-of : (b : List ℕ) (i : ℕ) (p : Plane) → At b i p.x0 → At b (i + 4) p.x1 → At b (i + 8) p.x2 → At b (i + 12) p.x3
    → plane_bytes p ≡ take 16 (drop i b)
unfolding plane_bytes
plane-of b i p e0 e1 e2 e3 = rw (e0, e1, e2, e3, join b i 4 (i + 4) 4 refl, join b i 8 (i + 8) 4 refl, join b i 12 (i + 12) 4 refl)

pub six-of : (b : List ℕ) (s : Six) → length b ≡ 24 → At b 0 s.x0 → At b 4 s.x1 → At b 8 s.x2 → At b 12 s.x3 → At b 16 s.x4 → At b 20 s.x5
    → six_bytes s ≡ b
unfolding six_bytes
six-of b s l e0 e1 e2 e3 e4 e5 =
    rw (e0, e1, e2, e3, e4, e5, join b 0 4 4 4 refl, join b 0 8 8 4 refl, join b 0 12 12 4 refl, join b 0 16 16 4 refl, join b 0 20 20 4 refl)
    (take_all 24 b (omega arith))

pub eleven-of : (b : List ℕ) (s : Eleven) → length b ≡ 44 → plane_bytes s.p0 ≡ take 16 (drop 0 b) → plane_bytes s.p1 ≡ take 16 (drop 16 b)
    → At b 32 s.x0 → At b 36 s.x1 → At b 40 s.x2 → eleven_bytes s ≡ b
unfolding eleven_bytes
eleven-of b s l e0 e1 e2 e3 e4 =
    rw (e0, e1, e2, e3, e4, join b 0 16 16 16 refl, join b 0 32 32 4 refl, join b 0 36 36 4 refl, join b 0 40 40 4 refl)
    (take_all 44 b (omega arith))

-- ---- words that are written
-- the four bytes, as the code makes them
pub bytes_of : (w : ℕ) → word_bytes w ≡ w % 256 ∷ w / 2 ^ 8 % 256 ∷ w / 2 ^ 16 % 256 ∷ w / 2 ^ 24 % 256 ∷ []
unfolding word_bytes byte_of
bytes_of w = let e : w / 2 ^ 0 % 2 ^ 8 ≡ w % 256 = omega arith in ap (λ b. b ∷ w / 2 ^ 8 % 2 ^ 8 ∷ w / 2 ^ 16 % 2 ^ 8 ∷ w / 2 ^ 24 % 2 ^ 8 ∷ []) e

-- over a whole run
pub sets-all : (vs l : List ℕ) → length vs ≡ length l → sets l 0 vs ≡ vs
sets-all vs l e =
    let h : length l ≤ 0 + length vs = omega arith in sets-eq vs l 0 (omega arith) ∙ rw (drop_of_length-le l h) (append-nil vs)

pub put-plane : (b : List ℕ) (p : Plane) → length b ≡ 16 →
    sets (sets (sets (sets b 0 (word_bytes p.x0)) 4 (word_bytes p.x1)) 8 (word_bytes p.x2)) 12 (word_bytes p.x3) ≡ plane_bytes p
put-plane b p l = stored-plane b 0 p ∙ sets-all (plane_bytes p) b (plane-size p ∙ sym l)

pub put_six : (b : List ℕ) (s : Six) → length b ≡ 24 →
    sets (sets (sets (sets (sets (sets b 0 (word_bytes s.x0)) 4 (word_bytes s.x1)) 8 (word_bytes s.x2)) 12 (word_bytes s.x3)) 16 (word_bytes s.x4)) 20 (word_bytes s.x5)
    ≡ six_bytes s
unfolding six_bytes word_bytes
put_six b s l = sets-all (six_bytes s) b (sym l)

pub put-eleven : (b : List ℕ) (s : Eleven) → length b ≡ 44 →
    sets (sets (sets (sets (sets b 0 (plane_bytes s.p0)) 16 (plane_bytes s.p1)) 32 (word_bytes s.x0)) 36 (word_bytes s.x1)) 40 (word_bytes s.x2)
    ≡ eleven_bytes s
unfolding eleven_bytes plane_bytes word_bytes
put-eleven b s l = sets-all (eleven_bytes s) b (sym l)

-- ---- the block of which only the first byte is not 0
pub one-bytes : plane_bytes (record { x0 = 1; x1 = 0; x2 = 0; x3 = 0 }) ≡ 1 ∷ replicate 15 0
unfolding plane_bytes word_bytes byte_of
one-bytes = refl
