-- Complemented planes. To complement is to add all ones, which no rotation and no shift changes: so it passes through every step but
-- chi, and through chi as its words say. After a pair of rounds the same planes are complemented as before it.
use mathlib.Core.Path.{◌≡◌, refl, sym, ap, ◌∙◌}
use mathlib.Core.List.{[], ◌∷◌}
use Prim.Native.Nat.{ℕ, ◌^◌, ◌≤◌, ◌<◌}
use native.Mathlib.Omega.{arith}
use Rattle.laws.specs.Words.{◌⊕◌, ◌⊙◌, not32, rotl}
use Rattle.laws.specs.Lists.{All}
use Rattle.laws.proofs.Words.{⊕-comm, zero-⊕, xor-sum}
use Rattle.laws.proofs.Rotation.{rot-ones, rotl-lt}
use Rattle.xoodoo.specs.Xoodoo.{each, ◌⊞◌, up, parity, effect, add_planes, theta, untheta, rho_west, unrho_west, iota, gain, gains, chi, rho_east, unrho_east, round, unround, rounds}
use Rattle.xoodoo.specs.Frame.{turned, not_one, not_two, gains_and, gains_or}
use Rattle.xoodoo.specs.declared.round.Plane.{Plane}
use Rattle.xoodoo.specs.declared.round.State.{State}
use Rattle.xoodoo.proofs.Planes.{plane≡, state≡, Words, Good, none, ⊞-none, ⊞-self, plane-sum, ⊞-words, rots, rots-⊞, rotls-is, rotls-words}
use Rattle.xoodoo.proofs.Chi.{not-lt, not-added, gain-not, gain-and, gain-or, gain-or-not, gain-swap}
use Rattle.xoodoo.proofs.Theta.{parity-words}
use Rattle.xoodoo.proofs.Inverse.{Inverse, theta-inverse, rho_west-inverse, iota-inverse, chi-inverse, rho_east-inverse, round-inverse, rounds-inverse}
use Rattle.xoodoo.proofs.Turned.{four-turns}

-- ---- planes that rotations and shifts leave as they are
record Still (x : Plane) : Type 0 where
  turns : (k : ℕ) → rots k x ≡ x
  shifts : up x ≡ x
  words : Words x

rotls-still : (k : ℕ) {p x : Plane} → k ≤ 32 → Words p → Still x → each (rotl k) (p ⊞ x) ≡ each (rotl k) p ⊞ x
rotls-still k {p} {x} l h t =
    rotls-is k l (⊞-words h t.words) ∙ rots-⊞ k p x ∙ ap (λ (q : Plane). rots k p ⊞ q) (t.turns k)
    ∙ sym (ap (λ (q : Plane). q ⊞ x) (rotls-is k l h))

up-still : (p : Plane) {x : Plane} → Still x → up (p ⊞ x) ≡ up p ⊞ x
unfolding up ◌⊞◌
up-still p t = ap (λ (q : Plane). up p ⊞ q) t.shifts

sum-still : {x y : Plane} → Still x → Still y → Still (x ⊞ y)
sum-still {x} {y} s t =
    record {
      turns = λ k. rots-⊞ k x y ∙ ap (λ (q : Plane). q ⊞ rots k y) (s.turns k) ∙ ap (λ (q : Plane). x ⊞ q) (t.turns k);
      shifts = up-still x t ∙ ap (λ (q : Plane). q ⊞ y) s.shifts;
      words = ⊞-words s.words t.words;
    }

effect-still : {p x : Plane} → Words p → Still x → effect (p ⊞ x) ≡ effect p
unfolding effect
effect-still h t = ap up (rw (rotls-still 5 (omega arith) h t, rotls-still 14 (omega arith) h t) (simp plane-sum))

-- ---- two such planes, added to planes 0 and 1
mask : Plane → Plane → State → State
mask x y s = record { p0 = s.p0 ⊞ x; p1 = s.p1 ⊞ y; p2 = s.p2 }

sum-of-sums : (a b c x y : Plane) → ((a ⊞ x) ⊞ (b ⊞ y)) ⊞ c ≡ ((a ⊞ b) ⊞ c) ⊞ (x ⊞ y)
sum-of-sums a b c x y = simp plane-sum

mask-mask : (x y : Plane) (s : State) → mask x y (mask x y s) ≡ s
unfolding mask
mask-mask x y s = state≡ (simp plane-sum) (simp plane-sum) refl

module _ {x y : Plane} (hx : Still x) (hy : Still y) where
  mask-good : {s : State} → Good s → Good (mask x y s)
  unfolding mask
  mask-good g = record { g0 = ⊞-words g.g0 hx.words; g1 = ⊞-words g.g1 hy.words; g2 = g.g2 }

  parity-mask : (s : State) → parity (mask x y s) ≡ parity s ⊞ (x ⊞ y)
  unfolding parity mask
  parity-mask s = sum-of-sums s.p0 s.p1 s.p2 x y

  add_planes-mask : (e : Plane) (s : State) → add_planes e (mask x y s) ≡ mask x y (add_planes e s)
  unfolding add_planes mask
  add_planes-mask e s = state≡ (simp plane-sum) (simp plane-sum) refl

  theta-mask : (s : State) → Good s → theta (mask x y s) ≡ mask x y (theta s)
  unfolding theta
  theta-mask s g =
      ap (λ (e : Plane). add_planes e (mask x y s)) (ap effect (parity-mask s) ∙ effect-still (parity-words g) (sum-still hx hy))
      ∙ add_planes-mask (effect (parity s)) s

  rho_west-mask : (s : State) → Good s → rho_west (mask x y s) ≡ mask x y (rho_west s)
  unfolding rho_west mask
  rho_west-mask s g = state≡ refl (up-still s.p1 hy) refl

  iota-mask : (c : ℕ) (s : State) → iota c (mask x y s) ≡ mask x y (iota c s)
  unfolding iota mask ◌⊞◌
  iota-mask c s = state≡ (plane≡ (simp xor-sum) refl refl refl) refl refl

  rho_east-mask : (s : State) → Good s → rho_east (mask x y s) ≡ mask x y (rho_east s)
  unfolding rho_east mask
  rho_east-mask s g = state≡ refl (rotls-still 1 (omega arith) g.g1 hy) refl

  turned-mask : (s : State) → Good s → turned 24 (mask x y s) ≡ mask x y (turned 24 s)
  unfolding turned mask
  turned-mask s g = state≡ (rotls-still 24 (omega arith) g.g0 hx) (rotls-still 24 (omega arith) g.g1 hy) refl

  -- what passes through a step passes through what undoes it
  mask-back : {f b : State → State} → Inverse f b → ((s : State) → Good s → f (mask x y s) ≡ mask x y (f s)) → (s : State) → Good s
      → b (mask x y s) ≡ mask x y (b s)
  mask-back {f} {b} I h s g =
      ap (λ (t : State). b (mask x y t)) (sym (I.forth s g)) ∙ ap b (sym (h (b s) (I.keeps-back g)))
      ∙ I.back (mask x y (b s)) (mask-good (I.keeps-back g))

  -- a round up to its chi, and after it
  into-chi : (c : ℕ) (s : State) → Good s → mask x y (iota c (rho_west (theta s))) ≡ iota c (rho_west (theta (mask x y s)))
  into-chi c s g =
      sym
      (ap (λ (t : State). iota c (rho_west t)) (theta-mask s g) ∙ ap (iota c) (rho_west-mask (theta s) (theta-inverse.keeps g))
      ∙ iota-mask c (rho_west (theta s)))

  out-of-chi : (s : State) → Good s → turned 24 (rho_east (mask x y s)) ≡ mask x y (turned 24 (rho_east s))
  out-of-chi s g = ap (turned 24) (rho_east-mask s g) ∙ turned-mask (rho_east s) (rho_east-inverse.keeps g)

  -- and the same backwards
  into-chi-back : (s : State) → Good s → mask x y (unrho_east s) ≡ unrho_east (mask x y s)
  into-chi-back s g = sym (mask-back rho_east-inverse rho_east-mask s g)

  out-of-chi-back : (c : ℕ) (s : State) → c < 2 ^ 32 → Good s → untheta (unrho_west (iota c (mask x y s))) ≡ mask x y (untheta (unrho_west (iota c s)))
  out-of-chi-back c s hc g =
      let g1 : Good (iota c s) = (iota-inverse c hc).keeps g in
      ap (λ (t : State). untheta (unrho_west t)) (iota-mask c s)
      ∙ ap untheta (mask-back rho_west-inverse rho_west-mask (iota c s) g1)
      ∙ mask-back theta-inverse theta-mask (unrho_west (iota c s)) (rho_west-inverse.keeps-back g1)

-- ---- all ones
ones : Plane
ones = record { x0 = not32 0; x1 = not32 0; x2 = not32 0; x3 = not32 0 }

none-still : Still none
unfolding none up
none-still =
    record {
      turns = λ k. sym (ap (rots k) (⊞-none none)) ∙ rots-⊞ k none none ∙ ⊞-self (rots k none);
      shifts = refl;
      words = record { w0 = omega arith; w1 = omega arith; w2 = omega arith; w3 = omega arith };
    }

ones-still : Still ones
unfolding ones rots up
ones-still =
    record {
      turns = λ k. plane≡ (rot-ones k) (rot-ones k) (rot-ones k) (rot-ones k);
      shifts = refl;
      words = record { w0 = not-lt 0; w1 = not-lt 0; w2 = not-lt 0; w3 = not-lt 0 };
    }

not_is : {w : ℕ} → w < 2 ^ 32 → not32 w ≡ w ⊕ not32 0
not_is {w} h = ap not32 (sym (zero-⊕ w)) ∙ not-added (omega arith) h ∙ ⊕-comm (not32 0) w

nots-is : {p : Plane} → Words p → each not32 p ≡ p ⊞ ones
unfolding ones ◌⊞◌
nots-is h = plane≡ (not_is h.w0) (not_is h.w1) (not_is h.w2) (not_is h.w3)

-- ---- what complements planes
pub record Complements (n : State → State) : Type 0 where
  x : Plane
  y : Plane
  hx : Still x
  hy : Still y
  is : {s : State} → Good s → n s ≡ mask x y s

pub one : Complements not_one
unfolding not_one mask
one = record { x = ones; y = none; hx = ones-still; hy = none-still; is = λ {s} g. state≡ (nots-is g.g0) (sym (⊞-none s.p1)) refl }

pub two : Complements not_two
unfolding not_two mask
two = record { x = ones; y = ones; hx = ones-still; hy = ones-still; is = λ g. state≡ (nots-is g.g0) (nots-is g.g1) refl }

module _ {n : State → State} (N : Complements n) where
  pub not_good : {s : State} → Good s → Good (n s)
  not_good g = rw (N.is g) (mask-good N.hx N.hy g)

  pub twice : {s : State} → Good s → n (n s) ≡ s
  twice {s} g = N.is (not_good g) ∙ ap (mask N.x N.y) (N.is g) ∙ mask-mask N.x N.y s

turned-good : {s : State} → Good s → Good (turned 24 s)
unfolding turned
turned-good g = record { g0 = rotls-words 24 (omega arith) g.g0; g1 = rotls-words 24 (omega arith) g.g1; g2 = rotls-words 24 (omega arith) g.g2 }

into-good : {c : ℕ} {s : State} → c < 2 ^ 32 → Good s → Good (iota c (rho_west (theta s)))
into-good hc g = (iota-inverse _ hc).keeps (rho_west-inverse.keeps (theta-inverse.keeps g))

round-good : {c : ℕ} {s : State} → c < 2 ^ 32 → Good s → Good (turned 24 (round c s))
round-good hc g = turned-good ((round-inverse _ hc).keeps g)

-- a round whose chi takes one complement for another
module _ {n m : State → State} (N : Complements n) (M : Complements m) where
  pub round-nots : {c : ℕ} {s : State} → c < 2 ^ 32 → Good s
      → turned 24 (rho_east (m (chi (n (iota c (rho_west (theta s))))))) ≡ m (turned 24 (round c (n s)))
  unfolding round
  round-nots {c} {s} hc g =
      let z = chi (iota c (rho_west (theta (n s)))) in
      let gz : Good z = chi-inverse.keeps (into-good hc (not_good N g)) in
      let e : n (iota c (rho_west (theta s))) ≡ iota c (rho_west (theta (n s))) =
      N.is (into-good hc g) ∙ into-chi N.hx N.hy c s g ∙ ap (λ (t : State). iota c (rho_west (theta t))) (sym (N.is g)) in
      ap (λ (t : State). turned 24 (rho_east (m (chi t)))) e
      ∙ ap (λ (t : State). turned 24 (rho_east t)) (M.is gz)
      ∙ out-of-chi M.hx M.hy z gz
      ∙ sym (M.is (turned-good (rho_east-inverse.keeps gz)))

  pub unround-nots : {c : ℕ} {s : State} → c < 2 ^ 32 → Good s
      → untheta (unrho_west (iota c (m (chi (n (unrho_east s)))))) ≡ m (unround c (n s))
  unfolding unround
  unround-nots {c} {s} hc g =
      let z = chi (unrho_east (n s)) in
      let gz : Good z = chi-inverse.keeps (rho_east-inverse.keeps-back (not_good N g)) in
      let e : n (unrho_east s) ≡ unrho_east (n s) =
      N.is (rho_east-inverse.keeps-back g) ∙ into-chi-back N.hx N.hy s g ∙ ap unrho_east (sym (N.is g)) in
      ap (λ (t : State). untheta (unrho_west (iota c (m (chi t))))) e
      ∙ ap (λ (t : State). untheta (unrho_west (iota c t))) (M.is gz)
      ∙ out-of-chi-back M.hx M.hy c z hc gz
      ∙ sym (M.is (theta-inverse.keeps-back (rho_west-inverse.keeps-back ((iota-inverse c hc).keeps gz))))

-- ---- chi, word by word
pub chi-two : {s : State} → Good s
    → record { p0 = gains s.p0 s.p1 s.p2; p1 = gains_or s.p1 s.p2 s.p0; p2 = gains_and s.p2 s.p0 s.p1 } ≡ not_two (chi (not_one s))
unfolding not_one not_two chi gains gains_or gains_and
chi-two g =
    let a = g.g0 in
    let b = g.g1 in
    let c = g.g2 in
    state≡
    (plane≡ (gain-not _ a.w0 c.w0) (gain-not _ a.w1 c.w1) (gain-not _ a.w2 c.w2) (gain-not _ a.w3 c.w3))
    (plane≡ (gain-or b.w0 c.w0 a.w0) (gain-or b.w1 c.w1 a.w1) (gain-or b.w2 c.w2 a.w2) (gain-or b.w3 c.w3 a.w3))
    (plane≡ (gain-and _ _ a.w0) (gain-and _ _ a.w1) (gain-and _ _ a.w2) (gain-and _ _ a.w3))

pub chi-one : {s : State} → Good s
    → record { p0 = gains_and s.p0 s.p1 s.p2; p1 = gains_or s.p1 s.p2 s.p0; p2 = gains s.p2 s.p1 s.p0 } ≡ not_one (chi (not_two s))
unfolding not_one not_two chi gains gains_or gains_and
chi-one {s} g =
    let a = g.g0 in
    let b = g.g1 in
    let c = g.g2 in
    state≡
    (plane≡ (both a.w0 b.w0 c.w0) (both a.w1 b.w1 c.w1) (both a.w2 b.w2 c.w2) (both a.w3 b.w3 c.w3))
    (plane≡ (gain-or-not b.w0 c.w0 a.w0) (gain-or-not b.w1 c.w1 a.w1) (gain-or-not b.w2 c.w2 a.w2) (gain-or-not b.w3 c.w3 a.w3))
    (plane≡ (gain-swap _ _ a.w0) (gain-swap _ _ a.w1) (gain-swap _ _ a.w2) (gain-swap _ _ a.w3))
  where
    both : {a b c : ℕ} → a < 2 ^ 32 → b < 2 ^ 32 → c < 2 ^ 32 → a ⊕ b ⊙ c ≡ not32 (gain (not32 a) (not32 b) c)
    both {a} {b} {c} ha hb hc = gain-and a c hb ∙ gain-not (not32 b) ha hc

-- ---- the quick rounds
-- four of them
pub four-quick : {a b c d : ℕ} {s : State} → a < 2 ^ 32 → b < 2 ^ 32 → c < 2 ^ 32 → d < 2 ^ 32 → Good s
    → not_one (turned 24 (round (rotl 8 d) (not_two (not_two (turned 24 (round (rotl 16 c) (not_one (not_one (turned 24 (round (rotl 24 b) (not_two (not_two (turned 24 (round a (not_one s)))))))))))))))
    ≡ not_one (rounds (a ∷ b ∷ c ∷ d ∷ []) (not_one s))
four-quick {a} {b} {c} {d} {s} ha hb hc hd g =
    let o : Good (not_one s) = not_good one g in
    let g1 = round-good ha o in
    let g2 = round-good (rotl-lt 24 (omega arith) hb) g1 in
    let g3 = round-good (rotl-lt 16 (omega arith) hc) g2 in
    ap not_one
    (rw (twice two g1, twice one g2, twice two g3) (four-turns ha hb hc hd o))

-- what they leave is a state of words
pub quick-good : {a b c d : ℕ} {s : State} → a < 2 ^ 32 → b < 2 ^ 32 → c < 2 ^ 32 → d < 2 ^ 32 → Good s → Good (rounds (a ∷ b ∷ c ∷ d ∷ []) (not_one s))
quick-good {a} {b} {c} {d} ha hb hc hd g =
    let h : All (2 ^ 32) (a ∷ b ∷ c ∷ d ∷ []) = (ha, (hb, (hc, (hd, tt)))) in (rounds-inverse _ h).keeps (not_good one g)
