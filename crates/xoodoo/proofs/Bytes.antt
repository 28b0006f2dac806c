-- 48 bytes and a state of words are in bijection.
use mathlib.Core.Path.{◌≡◌, refl, sym, ap, ap₂, ◌∙◌}
use mathlib.Core.List.{List, [], ◌∷◌, ◌++◌, append-nil, append_assoc}
use Prim.Native.Nat.{ℕ, ◌+◌, ◌-◌, ◌/◌, ◌%◌, ◌^◌, ◌≤◌, ◌<◌}
use native.Mathlib.Nat.{add-zero}
use native.Mathlib.Omega.{arith}
use lib.ListN.{length, get_or, take, drop, length-append, length-drop, drop_of_length-le}
use lib.Seq.{take_all, take-add, drop-drop, get_or-drop, sets, sets-eq}
use borrow.Rule.Slice.PartMut.{put_mid, Post-is}
use Rattle.laws.specs.Lists.{All, Bytes48}
use Rattle.laws.proofs.Bytes.{all_get_d, all_of, all_append, sets_then}
use Rattle.xoodoo.specs.Xoodoo.{word_of, word_at, plane_at, from_bytes, byte_of, word_bytes, plane_bytes, to_bytes}
use Rattle.xoodoo.specs.declared.round.Plane.{Plane}
use Rattle.xoodoo.specs.declared.round.State.{State}
use Rattle.xoodoo.proofs.Planes.{plane≡, state≡, Words, Good}

-- ---- a word and its four bytes
word_back : {w : ℕ} → w < 2 ^ 32 → word_of (byte_of w 0) (byte_of w 8) (byte_of w 16) (byte_of w 24) ≡ w
unfolding word_of byte_of
word_back {w} h = let t : w / 2 ^ 24 % 2 ^ 8 ≡ w / 2 ^ 24 = omega arith in rw t (omega arith)

word_lt : {a b c d : ℕ} → a < 256 → b < 256 → c < 256 → d < 256 → word_of a b c d < 2 ^ 32
unfolding word_of
word_lt ha hb hc hd = omega arith

module _ (a b c d : ℕ) (ha : a < 256) (hb : b < 256) (hc : c < 256) (hd : d < 256) where
  byte0 : byte_of (word_of a b c d) 0 ≡ a
  unfolding word_of byte_of
  byte0 = omega arith

  byte1 : byte_of (word_of a b c d) 8 ≡ b
  unfolding word_of byte_of
  byte1 = omega arith

  byte2 : byte_of (word_of a b c d) 16 ≡ c
  unfolding word_of byte_of
  byte2 = omega arith

  byte3 : byte_of (word_of a b c d) 24 ≡ d
  unfolding word_of byte_of
  byte3 = omega arith

  bytes_back : word_bytes (word_of a b c d) ≡ a ∷ b ∷ c ∷ d ∷ []
  unfolding word_bytes
  bytes_back = ap₂ ◌∷◌ byte0 (ap₂ ◌∷◌ byte1 (ap₂ ◌∷◌ byte2 (ap₂ ◌∷◌ byte3 refl)))

-- ---- the bytes of a state
byte-of-lt : (w k : ℕ) → byte_of w k < 256
unfolding byte_of
byte-of-lt w k = omega arith

pub word-bytes : (w : ℕ) → All 256 (word_bytes w)
unfolding word_bytes
word-bytes w = (byte-of-lt w 0, (byte-of-lt w 8, (byte-of-lt w 16, (byte-of-lt w 24, tt))))

pub plane-bytes : (p : Plane) → All 256 (plane_bytes p)
unfolding plane_bytes
plane-bytes p =
    let w0 = word_bytes p.x0 in
    let w1 = word_bytes p.x1 in
    let w2 = word_bytes p.x2 in
    all_append 256 (w0 ++ w1 ++ w2) _
    (all_append 256 (w0 ++ w1) w2 (all_append 256 w0 w1 (word-bytes p.x0) (word-bytes p.x1)) (word-bytes p.x2))
    (word-bytes p.x3)

to-size : (s : State) → length (to_bytes s) ≡ 48
unfolding to_bytes plane_bytes word_bytes
to-size s = refl

pub to-bytes : (s : State) → Bytes48 (to_bytes s)
unfolding to_bytes
to-bytes s =
    let b0 = plane_bytes s.p0 in
    let b1 = plane_bytes s.p1 in
    record {
      size = to-size s;
      bytes = all_append 256 (b0 ++ b1) _ (all_append 256 b0 b1 (plane-bytes s.p0) (plane-bytes s.p1)) (plane-bytes s.p2);
    }

pub from-to : {s : State} → Good s → from_bytes (to_bytes s) ≡ s
unfolding from_bytes to_bytes plane_at plane_bytes word_at word_bytes
from-to g = state≡ (plane g.g0) (plane g.g1) (plane g.g2)
  where
    plane : {p : Plane} → Words p → plane_at (plane_bytes p) 0 ≡ p
    plane h = plane≡ (word_back h.w0) (word_back h.w1) (word_back h.w2) (word_back h.w3)

-- ---- the words of a list of bytes
module _ (b : List ℕ) (h : All 256 b) where
  byte-lt : (i : ℕ) → get_or b i 0 < 256
  byte-lt = all_get_d 256 b (omega arith) h

  word-at-lt : (i : ℕ) → word_at b i < 2 ^ 32
  unfolding word_at
  word-at-lt i = word_lt (byte-lt i) (byte-lt (i + 1)) (byte-lt (i + 2)) (byte-lt (i + 3))

  plane-at-words : (i : ℕ) → Words (plane_at b i)
  unfolding plane_at
  plane-at-words i = record { w0 = word-at-lt i; w1 = word-at-lt (i + 4); w2 = word-at-lt (i + 8); w3 = word-at-lt (i + 12) }

-- what a function is told of 48 bytes that it is lent
pub lent-bytes : {b : List ℕ} → length b ≡ 48 → ((i : ℕ) → get_or b i 0 < 256) → Bytes48 b
lent-bytes {b} n h = record { size = n; bytes = all_of 256 b h }

pub from-good : {b : List ℕ} → Bytes48 b → Good (from_bytes b)
unfolding from_bytes
from-good {b} h =
    let w : (i : ℕ) → Words (plane_at b i) = plane-at-words b h.bytes in record { g0 = w 0; g1 = w 16; g2 = w 32 }

-- the first four of a list
pub four : (l : List ℕ) → 4 ≤ length l → take 4 l ≡ get_or l 0 0 ∷ get_or l 1 0 ∷ get_or l 2 0 ∷ get_or l 3 0 ∷ []
four [] h = absurd (omega arith)
four (a ∷ []) h = absurd (omega arith)
four (a ∷ b ∷ []) h = absurd (omega arith)
four (a ∷ b ∷ c ∷ []) h = absurd (omega arith)
four (a ∷ b ∷ c ∷ d ∷ l) h = refl

-- two runs, one after the other
pub join : (b : List ℕ) (i n j m : ℕ) → i + n ≡ j → take n (drop i b) ++ take m (drop j b) ≡ take (n + m) (drop i b)
join b i n j m e =
    ap (λ (l : List ℕ). take n (drop i b) ++ take m l) (ap (λ (k : ℕ). drop k b) (sym e) ∙ sym (drop-drop n i b))
    ∙ sym (take-add n m (drop i b))

pub word-at-back : (b : List ℕ) (i : ℕ) → All 256 b → i + 4 ≤ length b → word_bytes (word_at b i) ≡ take 4 (drop i b)
unfolding word_at
word-at-back b i h l =
    let lt : (k : ℕ) → get_or b k 0 < 256 = byte-lt b h in
    let n : 4 ≤ length (drop i b) = omega (arith, length-drop i b) in
    bytes_back _ _ _ _ (lt i) (lt (i + 1)) (lt (i + 2)) (lt (i + 3)) ∙ sym (four (drop i b) n ∙ simp (get_or-drop, add-zero))

plane-at-back : (b : List ℕ) (i : ℕ) → All 256 b → i + 16 ≤ length b → plane_bytes (plane_at b i) ≡ take 16 (drop i b)
unfolding plane_at plane_bytes
plane-at-back b i h l =
    rw (
      word-at-back b i h (omega arith),
      word-at-back b (i + 4) h (omega arith),
      word-at-back b (i + 8) h (omega arith),
      word-at-back b (i + 12) h (omega arith),
      join b i 4 (i + 4) 4 refl,
      join b i 8 (i + 8) 4 refl,
      join b i 12 (i + 12) 4 refl,
    )

pub to-from : {b : List ℕ} → Bytes48 b → to_bytes (from_bytes b) ≡ b
unfolding to_bytes from_bytes
to-from {b} h =
    let p : (i : ℕ) → i + 16 ≤ length b → plane_bytes (plane_at b i) ≡ take 16 (drop i b) = λ i. plane-at-back b i h.bytes in
    let n : length b ≡ 48 = h.size in
    rw (p 0 (omega arith), p 16 (omega arith), p 32 (omega arith), join b 0 16 16 16 refl, join b 0 32 32 16 refl)
    (take_all 48 b (omega arith))

-- ---- the bytes written word by word, and plane by plane
-- a run that is copied over another is stored byte by byte
pub put-sets : (b vs : List ℕ) (i e : ℕ) → e ≡ i + length vs → e ≤ length b → put_mid i (e - i) b vs ≡ sets b i vs
put-sets b vs i e q h = rw (Post-is i e b (omega arith), sets-eq vs b i (omega arith), append_assoc, q) refl

pub word_size : (w : ℕ) → length (word_bytes w) ≡ 4
unfolding word_bytes
word_size w = refl

pub stored-plane : (b : List ℕ) (i : ℕ) (p : Plane) →
    sets (sets (sets (sets b i (word_bytes p.x0)) (i + 4) (word_bytes p.x1)) (i + 8) (word_bytes p.x2)) (i + 12) (word_bytes p.x3)
    ≡ sets b i (plane_bytes p)
unfolding plane_bytes
stored-plane b i p =
    let w0 = word_bytes p.x0 in
    let w1 = word_bytes p.x1 in
    let w2 = word_bytes p.x2 in
    let w3 = word_bytes p.x3 in
    sym
    (sets_then (w0 ++ w1 ++ w2) w3 b i (i + 12) (simp (length-append, word_size))
    ∙ ap (λ (l : List ℕ). sets l (i + 12) w3) (sets_then (w0 ++ w1) w2 b i (i + 8) (simp (length-append, word_size))
    ∙ ap (λ (l : List ℕ). sets l (i + 8) w2) (sets_then w0 w1 b i (i + 4) (simp word_size))))

pub plane-size : (p : Plane) → length (plane_bytes p) ≡ 16
unfolding plane_bytes word_bytes
plane-size p = refl

pub stored : (b : List ℕ) (s : State) → length b ≡ 48
    → sets (sets (sets b 0 (plane_bytes s.p0)) 16 (plane_bytes s.p1)) 32 (plane_bytes s.p2) ≡ to_bytes s
unfolding to_bytes
stored b s l =
    let w0 = plane_bytes s.p0 in
    let w1 = plane_bytes s.p1 in
    let w2 = plane_bytes s.p2 in
    let n : length (w0 ++ w1 ++ w2) ≡ 48 = to-size s in
    let k : length b ≤ 0 + length (w0 ++ w1 ++ w2) = omega arith in
    let h : drop (0 + length (w0 ++ w1 ++ w2)) b ≡ [] = drop_of_length-le b k in
    sym
    (sets_then (w0 ++ w1) w2 b 0 32 (simp (length-append, plane-size))
    ∙ ap (λ (k : List ℕ). sets k 32 w2) (sets_then w0 w1 b 0 16 (simp plane-size)))
    ∙ sets-eq (w0 ++ w1 ++ w2) b 0 (omega arith)
    ∙ rw (h, append-nil)
