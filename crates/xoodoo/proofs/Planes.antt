-- The algebra of planes: sums, shifts by columns, rotations, and what theta adds as one family closed under doubling.
use mathlib.Core.Path.{◌≡◌, refl, ap}
use Prim.Native.Nat.{ℕ, zero, suc, ◌+◌, ◌%◌, ◌^◌, ◌≤◌, ◌<◌}
use native.Mathlib.Nat.{add-zero, add-suc}
use native.Mathlib.Omega.{arith}
use Rattle.laws.specs.Words.{rotl}
use Rattle.laws.proofs.Words.{⊕-assoc, ⊕-comm, ⊕-self, ⊕-zero, zero-⊕, ⊕-left-comm, ⊕-cancel, ⊕-lt}
use Rattle.laws.proofs.Rotation.{rot, rot-⊕, rot-rot, rot_zero, rot-lt, rot-mod, rotl-is, rotl-lt, rotl-back}
use Rattle.xoodoo.specs.Xoodoo.{each, ◌⊞◌, up, ups}
use Rattle.xoodoo.specs.declared.round.Plane.{Plane}
use Rattle.xoodoo.specs.declared.round.State.{State}

-- ---- equal by parts, and bounds by parts
pub plane≡ : {p q : Plane} → p.x0 ≡ q.x0 → p.x1 ≡ q.x1 → p.x2 ≡ q.x2 → p.x3 ≡ q.x3 → p ≡ q
plane≡ a b c d = λ i. record { x0 = a i; x1 = b i; x2 = c i; x3 = d i }

pub state≡ : {s t : State} → s.p0 ≡ t.p0 → s.p1 ≡ t.p1 → s.p2 ≡ t.p2 → s ≡ t
state≡ a b c = λ i. record { p0 = a i; p1 = b i; p2 = c i }

-- every word of the plane is below 2 ^ 32
pub record Words (p : Plane) : Type 0 where
  pub w0 : p.x0 < 2 ^ 32
  pub w1 : p.x1 < 2 ^ 32
  pub w2 : p.x2 < 2 ^ 32
  pub w3 : p.x3 < 2 ^ 32

-- every word of the state is
pub record Good (s : State) : Type 0 where
  pub g0 : Words s.p0
  pub g1 : Words s.p1
  pub g2 : Words s.p2

-- ---- sums
unfoldable pub none : Plane
none = record { x0 = 0; x1 = 0; x2 = 0; x3 = 0 }

pub ⊞-assoc : (p q r : Plane) → (p ⊞ q) ⊞ r ≡ p ⊞ (q ⊞ r)
unfolding ◌⊞◌
⊞-assoc p q r = plane≡ (⊕-assoc _ _ _) (⊕-assoc _ _ _) (⊕-assoc _ _ _) (⊕-assoc _ _ _)

pub ⊞-comm : (p q : Plane) → p ⊞ q ≡ q ⊞ p
unfolding ◌⊞◌
⊞-comm p q = plane≡ (⊕-comm _ _) (⊕-comm _ _) (⊕-comm _ _) (⊕-comm _ _)

pub ⊞-left-comm : (p q r : Plane) → p ⊞ (q ⊞ r) ≡ q ⊞ (p ⊞ r)
unfolding ◌⊞◌
⊞-left-comm p q r = plane≡ (⊕-left-comm _ _ _) (⊕-left-comm _ _ _) (⊕-left-comm _ _ _) (⊕-left-comm _ _ _)

pub ⊞-cancel : (p q : Plane) → p ⊞ (p ⊞ q) ≡ q
unfolding ◌⊞◌
⊞-cancel p q = plane≡ (⊕-cancel _ _) (⊕-cancel _ _) (⊕-cancel _ _) (⊕-cancel _ _)

pub ⊞-self : (p : Plane) → p ⊞ p ≡ none
unfolding ◌⊞◌ none
⊞-self p = plane≡ (⊕-self _) (⊕-self _) (⊕-self _) (⊕-self _)

pub ⊞-none : (p : Plane) → p ⊞ none ≡ p
unfolding ◌⊞◌ none
⊞-none p = plane≡ (⊕-zero _) (⊕-zero _) (⊕-zero _) (⊕-zero _)

pub none-⊞ : (p : Plane) → none ⊞ p ≡ p
unfolding ◌⊞◌ none
none-⊞ p = plane≡ (zero-⊕ _) (zero-⊕ _) (zero-⊕ _) (zero-⊕ _)

-- sorts a sum of planes and strikes out pairs
pub ruleset plane-sum = (⊞-assoc, ⊞-comm, ⊞-left-comm, ⊞-self, ⊞-none, none-⊞, ⊞-cancel)

pub ⊞-words : {p q : Plane} → Words p → Words q → Words (p ⊞ q)
unfolding ◌⊞◌
⊞-words h k =
    record {
      w0 = ⊕-lt 32 h.w0 k.w0;
      w1 = ⊕-lt 32 h.w1 k.w1;
      w2 = ⊕-lt 32 h.w2 k.w2;
      w3 = ⊕-lt 32 h.w3 k.w3;
    }

-- ---- shifts by columns
pub up-words : {p : Plane} → Words p → Words (up p)
unfolding up
up-words h = record { w0 = h.w3; w1 = h.w0; w2 = h.w1; w3 = h.w2 }

ups-words : (m : ℕ) {p : Plane} → Words p → Words (ups m p)
unfolding ups
ups-words zero h = h
ups-words (suc m) h = up-words (ups-words m h)

ups-⊞ : (m : ℕ) (p q : Plane) → ups m (p ⊞ q) ≡ ups m p ⊞ ups m q
unfolding ups up ◌⊞◌
ups-⊞ zero p q = refl
ups-⊞ (suc m) p q = ap up (ups-⊞ m p q)

ups-ups : (m n : ℕ) (p : Plane) → ups m (ups n p) ≡ ups (n + m) p
unfolding ups
ups-ups zero n p = rw add-zero
ups-ups (suc m) n p = rw add-suc (ap up (ups-ups m n p))

-- ---- rotations of each word
unfoldable pub rots : ℕ → Plane → Plane
rots k p = each (rot k) p

pub rots-words : (k : ℕ) {p : Plane} → Words p → Words (rots k p)
unfolding rots
rots-words k h = record { w0 = rot-lt k h.w0; w1 = rot-lt k h.w1; w2 = rot-lt k h.w2; w3 = rot-lt k h.w3 }

pub rots-⊞ : (k : ℕ) (p q : Plane) → rots k (p ⊞ q) ≡ rots k p ⊞ rots k q
unfolding rots ◌⊞◌
rots-⊞ k p q = plane≡ (rot-⊕ k _ _) (rot-⊕ k _ _) (rot-⊕ k _ _) (rot-⊕ k _ _)

pub rots-rots : (j k : ℕ) (p : Plane) → rots j (rots k p) ≡ rots (k + j) p
unfolding rots
rots-rots j k p = plane≡ (rot-rot j k _) (rot-rot j k _) (rot-rot j k _) (rot-rot j k _)

pub rots-ups : (k m : ℕ) (p : Plane) → rots k (ups m p) ≡ ups m (rots k p)
unfolding ups rots up
rots-ups k zero p = refl
rots-ups k (suc m) p = ap up (rots-ups k m p)

-- only the number modulo 32 matters
pub rots-mod : (k : ℕ) {p : Plane} → Words p → rots k p ≡ rots (k % 32) p
unfolding rots
rots-mod k h = plane≡ (rot-mod k _ h.w0) (rot-mod k _ h.w1) (rot-mod k _ h.w2) (rot-mod k _ h.w3)

pub rots-zero : (p : Plane) → rots 0 p ≡ p
unfolding rots
rots-zero p = plane≡ (rot_zero _) (rot_zero _) (rot_zero _) (rot_zero _)

-- the definition's rotations
pub rotls-is : (k : ℕ) {p : Plane} → k ≤ 32 → Words p → each (rotl k) p ≡ rots k p
unfolding rots
rotls-is k l h = plane≡ (rotl-is k _ l h.w0) (rotl-is k _ l h.w1) (rotl-is k _ l h.w2) (rotl-is k _ l h.w3)

pub rotls-words : (k : ℕ) {p : Plane} → k ≤ 32 → Words p → Words (each (rotl k) p)
rotls-words k l h = record { w0 = rotl-lt k l h.w0; w1 = rotl-lt k l h.w1; w2 = rotl-lt k l h.w2; w3 = rotl-lt k l h.w3 }

pub rotls-back : (j k : ℕ) {p : Plane} → k + j ≡ 32 → Words p → each (rotl j) (each (rotl k) p) ≡ p
rotls-back j k e h = plane≡ (rotl-back j k _ e h.w0) (rotl-back j k _ e h.w1) (rotl-back j k _ e h.w2) (rotl-back j k _ e h.w3)

-- ---- the rotations by i and by j added, m columns up
pub mix : ℕ → ℕ → ℕ → Plane → Plane
mix m i j p = ups m (rots i p ⊞ rots j p)

pub mix-words : (m i j : ℕ) {p : Plane} → Words p → Words (mix m i j p)
unfolding mix
mix-words m i j h = ups-words m (⊞-words (rots-words i h) (rots-words j h))

pub mix-⊞ : (m i j : ℕ) (p q : Plane) → mix m i j (p ⊞ q) ≡ mix m i j p ⊞ mix m i j q
unfolding mix
mix-⊞ m i j p q = simp (rots-⊞, ups-⊞, plane-sum)

-- in characteristic two, twice the same doubles the three numbers
pub mix-mix : (m i j : ℕ) (p : Plane) → mix m i j (mix m i j p) ≡ mix (m + m) (i + i) (j + j) p
unfolding mix
mix-mix m i j p =
    simp (rots-⊞, ups-⊞, rots-ups, rots-rots, ups-ups) (rw (go i j) (simp plane-sum))
  where
    go : (i j : ℕ) → i + j ≡ j + i
    go i j = omega arith

pub mix-swap : (m i j n k l : ℕ) (p : Plane) → mix m i j (mix n k l p) ≡ mix n k l (mix m i j p)
unfolding mix
mix-swap m i j n k l p =
    simp (rots-⊞, ups-⊞, rots-ups, rots-rots, ups-ups) (rw (go m n, go i k, go i l, go j k, go j l) (simp plane-sum))
  where
    go : (a b : ℕ) → a + b ≡ b + a
    go a b = omega arith

-- the rotations as the definition has them
pub mix-is : (m i j : ℕ) {p : Plane} → i ≤ 32 → j ≤ 32 → Words p → ups m (each (rotl i) p ⊞ each (rotl j) p) ≡ mix m i j p
unfolding mix
mix-is m i j hi hj h = rw (rotls-is i hi h, rotls-is j hj h)

-- 1, 5 and 14 times 4, 8, 16 and 32: columns are counted modulo 4, and rotations modulo 32
pub mix-4 : {p : Plane} → Words p → mix 4 20 56 p ≡ mix 0 20 24 p
unfolding mix ups up
mix-4 h = rw (rots-mod 56 h)

pub mix-8 : {p : Plane} → Words p → mix 8 40 112 p ≡ mix 0 8 16 p
unfolding mix ups up
mix-8 h = rw (rots-mod 40 h, rots-mod 112 h)

pub mix-16 : {p : Plane} → Words p → mix 16 80 224 p ≡ rots 16 p ⊞ p
unfolding mix ups up
mix-16 {p} h = rw (rots-mod 80 h, rots-mod 224 h, rots-zero p)

pub mix-32 : {p : Plane} → Words p → mix 32 160 448 p ≡ none
unfolding mix ups up
mix-32 {p} h = rw (rots-mod 160 h, rots-mod 448 h) (⊞-self (rots 0 p))
