-- A full block met as words, by its bytes; and Up and Down with the colour 00, which is no colour.
use mathlib.Core.Path.{◌≡◌, refl, sym, ap, ap₂, ◌∙◌}
use mathlib.Core.List.{List, [], ◌∷◌, append_assoc}
use Prim.Native.Nat.{ℕ, zero, suc, ◌+◌, ◌-◌, ◌≤◌}
use native.Mathlib.Omega.{arith}
use native.Mathlib.Nat.{le_of_suc-le-suc, not-suc-le-zero}
use lib.ListN.{length, take, replicate}
use lib.Seq.{sets, sets-eq}
use borrow.Rule.Slice.PartMut.{put_mid, Post-is}
use Rattle.laws.specs.Words.{◌⊕◌, ◌⊙◌}
use Rattle.laws.specs.Lists.{add_front, add_at}
use Rattle.laws.proofs.Words.{⊕-comm, ⊕-zero}
use Rattle.laws.proofs.Lists.{add_front-nil}
use Rattle.xoodoo.specs.Xoodoo.{plane_bytes, xoodoo}
use Rattle.xoodoo.proofs.BlockBytes.{one-bytes}
use Rattle.xoodyak.specs.declared.cyclist.Mode.{Mode}
use Rattle.xoodyak.specs.declared.cyclist.Mode.TheVariants.{Hash, Keyed}
use Rattle.xoodyak.specs.declared.cyclist.Phase.{Phase}
use Rattle.xoodyak.specs.declared.cyclist.Phase.TheVariants.{Up, Down}
use Rattle.xoodyak.specs.declared.cyclist.Duplex.{Duplex}
use Rattle.xoodyak.specs.Cyclist.{up, up_bytes, up_colour, down, down_bytes, down_colour, next}

-- ---- a run that is copied over another is stored byte by byte
pub put-sets : (b vs : List ℕ) (i e : ℕ) → e ≡ i + length vs → e ≤ length b → put_mid i (e - i) b vs ≡ sets b i vs
put-sets b vs i e q h = rw (Post-is i e b (omega arith), sets-eq vs b i (omega arith), append_assoc, q) refl

-- ---- what is added
-- the sum's front, whichever is added to the other
take-add_front : (s x : List ℕ) → length x ≤ length s → take (length x) (add_front s x) ≡ add_front x s
take-add_front s [] h = refl
take-add_front [] (b ∷ x) h = absurd (not-suc-le-zero h)
take-add_front (a ∷ s) (b ∷ x) h = ap₂ ◌∷◌ (⊕-comm a b) (take-add_front s x (le_of_suc-le-suc h))

-- a block m of k bytes met in words: v is s, the state after Up, u gains the block's words x, and f is the front of u
module _ {m x s v u : List ℕ} {k : ℕ} (l : length m ≡ k) (ex : x ≡ m) (ev : v ≡ s) (eu : u ≡ add_front v x) where
  module _ {f : List ℕ} (n : length v ≡ 48) (h : k ≤ 48) (ef : f ≡ take k u) where
    pub met-out : {y : List ℕ} → y ≡ f → y ≡ add_front m s
    met-out ey = rw (ey, ef, eu, ex, ev, ← l) (take-add_front s m (rw (l, ← ev, n) h))

    -- what is met is the plaintext, and goes into Down
    pub decrypted-end : {w r : List ℕ} → w ≡ add_front v f → r ≡ add_at w k 1 → r ≡ add_at (add_front s (add_front m s)) k 1
    decrypted-end ew er = rw (er, ew, met-out refl, ev)

add_at-zero : (s : List ℕ) (i : ℕ) → add_at s i 0 ≡ s
add_at-zero [] i = refl
add_at-zero (a ∷ s) zero = ap (λ x. x ∷ s) (⊕-zero a)
add_at-zero (a ∷ s) (suc i) = ap (λ l. a ∷ l) (add_at-zero s i)

-- a full block of which only the first byte is not 0
add_front-zeros : (s : List ℕ) (n : ℕ) → add_front s (replicate n 0) ≡ s
add_front-zeros s zero = add_front-nil s
add_front-zeros [] (suc n) = refl
add_front-zeros (a ∷ s) (suc n) = ap₂ ◌∷◌ (⊕-zero a) (add_front-zeros s n)

one-front : (s : List ℕ) → add_front s (1 ∷ replicate 15 0) ≡ add_at s 0 1
one-front [] = refl
one-front (a ∷ s) = ap (λ l. (a ⊕ 1) ∷ l) (add_front-zeros s 15)

pub one-first : (s : List ℕ) → add_front s (plane_bytes (record { x0 = 1; x1 = 0; x2 = 0; x3 = 0 })) ≡ add_at s 0 1
one-first s = ap (add_front s) one-bytes ∙ one-front s

-- ---- Up and Down with 00, in either mode
up-zero : (m : Mode) (s : List ℕ) → up_colour m 0 s ≡ s
up-zero Hash s = refl
up-zero Keyed s = add_at-zero s 47

pub down-zero : (m : Mode) → down_colour m 0 ≡ 0
unfolding ◌⊙◌
down-zero Hash = refl
down-zero Keyed = refl

-- a duplex whose bytes are held in words
abbrev pub held : Phase → Mode → List ℕ → Duplex
held p m s = record { st = s; mode = m; phase = p }

pub up_is : (m : Mode) (s : List ℕ) → up (held Down m s) 0 ≡ held Up m (xoodoo s)
unfolding up up_bytes
up_is m s = rw (up-zero m s)

pub down_is : (m : Mode) (s x : List ℕ) → down (held Up m s) x 0 ≡ held Down m (add_at (add_front s x) (length x) 1)
unfolding down down_bytes
down_is m s x = rw (down-zero m) (ap (held Down m) (add_at-zero (add_at (add_front s x) (length x) 1) 47))

-- Up and Down of one block
pub down-up : (m : Mode) (s x t : List ℕ) → t ≡ add_at (add_front (xoodoo s) x) (length x) 1 → down (up (held Down m s) 0) x 0 ≡ held Down m t
down-up m s x t e = rw (up_is m s) (down_is m (xoodoo s) x ∙ ap (held Down m) (sym e))

-- the colour of the first Up, added before it
pub up-coloured : (d : Duplex) (s : List ℕ) (cu : ℕ) → s ≡ up_colour d.mode cu d.st → up (held Down d.mode s) 0 ≡ up d cu
unfolding up up_bytes
up-coloured d s cu e = rw (up-zero d.mode s, e)

pub next-is : (m : Mode) (s : List ℕ) → next (held Up m s) ≡ held Up m (xoodoo (add_at s 0 1))
unfolding next
next-is m s = rw (down_is m s [], add_front-nil s) (up_is m (add_at s 0 1))
