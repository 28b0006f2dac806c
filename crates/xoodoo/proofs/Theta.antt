-- Theta acts on the parity, which it takes from P to P ⊞ E; five steps take the parity back, so they undo theta.
use mathlib.Core.Path.{◌≡◌, sym, ap, ◌∙◌}
use Prim.Native.Nat.{ℕ, ◌+◌, ◌≤◌}
use native.Mathlib.Omega.{arith}
use Rattle.laws.specs.Words.{rotl}
use Rattle.xoodoo.specs.Xoodoo.{each, ◌⊞◌, ups, parity, effect, add_planes, theta, spread, step, unparity, untheta}
use Rattle.xoodoo.specs.declared.round.Plane.{Plane}
use Rattle.xoodoo.specs.declared.round.State.{State}
use Rattle.xoodoo.proofs.Planes.{state≡, Words, Good, plane-sum, ⊞-assoc, ⊞-self, ⊞-none, ⊞-cancel, ⊞-words, rots, rots-words, rots-⊞, rots-rots, rots-mod, rots-zero, rotls-is, mix, mix-words, mix-⊞, mix-mix, mix-swap, mix-is, mix-4, mix-8, mix-16, mix-32}

-- ---- a state whose parity becomes f of what it was
pub by : (Plane → Plane) → State → State
by f s = add_planes (parity s ⊞ f (parity s)) s

pub parity-words : {s : State} → Good s → Words (parity s)
unfolding parity
parity-words g = ⊞-words (⊞-words g.g0 g.g1) g.g2

by-good : (f : Plane → Plane) {s : State} → Words (f (parity s)) → Good s → Good (by f s)
unfolding by add_planes
by-good f {s} h g =
    let e : Words (parity s ⊞ f (parity s)) = ⊞-words (parity-words g) h in
    record { g0 = ⊞-words g.g0 e; g1 = ⊞-words g.g1 e; g2 = ⊞-words g.g2 e }

parity-add : (e : Plane) (s : State) → parity (add_planes e s) ≡ parity s ⊞ e
unfolding parity add_planes
parity-add e s = simp plane-sum

add-add : (d e : Plane) (s : State) → add_planes d (add_planes e s) ≡ add_planes (e ⊞ d) s
unfolding add_planes
add-add d e s = state≡ (⊞-assoc s.p0 e d) (⊞-assoc s.p1 e d) (⊞-assoc s.p2 e d)

pub by-by : (f g : Plane → Plane) (s : State) → by f (by g s) ≡ by (λ p. f (g p)) s
unfolding by
by-by f g s =
    let P : Plane = parity s in
    let Q : parity (add_planes (P ⊞ g P) s) ≡ g P = parity-add (P ⊞ g P) s ∙ ⊞-cancel P (g P) in
    ap (λ (q : Plane). add_planes (q ⊞ f q) (add_planes (P ⊞ g P) s)) Q ∙ add-add (g P ⊞ f (g P)) (P ⊞ g P) s
    ∙ ap (λ (e : Plane). add_planes e s) (simp plane-sum)

-- where the parity stays, the state does
pub by-same : (f : Plane → Plane) (s : State) → f (parity s) ≡ parity s → by f s ≡ s
unfolding by add_planes
by-same f s e = rw (e, ⊞-self) (state≡ (⊞-none s.p0) (⊞-none s.p1) (⊞-none s.p2))

-- ---- a step: twice the same is one step twice as far, and two steps may be swapped
pub more : ℕ → ℕ → ℕ → Plane → Plane
more m i j p = p ⊞ mix m i j p

more-words : (m i j : ℕ) {p : Plane} → Words p → Words (more m i j p)
unfolding more
more-words m i j h = ⊞-words h (mix-words m i j h)

pub more-more : (m i j : ℕ) (p : Plane) → more m i j (more m i j p) ≡ more (m + m) (i + i) (j + j) p
unfolding more
more-more m i j p = rw (mix-⊞, mix-mix) (simp plane-sum)

more-swap : (m i j n k l : ℕ) (p : Plane) → more m i j (more n k l p) ≡ more n k l (more m i j p)
unfolding more
more-swap m i j n k l p = simp mix-⊞ (rw (mix-swap m i j n k l p) (simp plane-sum))

pub more-32 : {p : Plane} → Words p → more 32 160 448 p ≡ p
unfolding more
more-32 {p} h = rw (mix-32 h) (⊞-none p)

pub theta-is : (s : State) → Good s → theta s ≡ by (more 1 5 14) s
unfolding theta effect by more ups
theta-is s g =
    ap (λ (e : Plane). add_planes e s)
    (mix-is 1 5 14 (omega arith) (omega arith) (parity-words g) ∙ sym (⊞-cancel (parity s) (mix 1 5 14 (parity s))))

pub theta-good : {s : State} → Good s → Good (theta s)
theta-good {s} g = rw (theta-is s g) (by-good (more 1 5 14) (more-words 1 5 14 (parity-words g)) g)

-- ---- the five steps
step_is : (m i j : ℕ) {p : Plane} → i ≤ 32 → j ≤ 32 → Words p → step m i j p ≡ more m i j p
unfolding step spread more
step_is m i j {p} hi hj h = ap (λ (q : Plane). p ⊞ q) (mix-is m i j hi hj h)

is-1 : {p : Plane} → Words p → step 1 5 14 p ≡ more 1 5 14 p
is-1 h = step_is 1 5 14 (omega arith) (omega arith) h

is-2 : {p : Plane} → Words p → step 2 10 28 p ≡ more 2 10 28 p
is-2 h = step_is 2 10 28 (omega arith) (omega arith) h

is-4 : {p : Plane} → Words p → step 0 20 24 p ≡ more 4 20 56 p
unfolding more
is-4 {p} h = step_is 0 20 24 (omega arith) (omega arith) h ∙ ap (λ (q : Plane). p ⊞ q) (sym (mix-4 h))

is-8 : {p : Plane} → Words p → step 0 8 16 p ≡ more 8 40 112 p
unfolding more
is-8 {p} h = step_is 0 8 16 (omega arith) (omega arith) h ∙ ap (λ (q : Plane). p ⊞ q) (sym (mix-8 h))

is-16 : {p : Plane} → Words p → each (rotl 16) p ≡ more 16 80 224 p
unfolding more
is-16 {p} h = rotls-is 16 (omega arith) h ∙ sym (rw (mix-16 h) (simp plane-sum))

module _ {p : Plane} (h : Words p) where
  w1 : Words (more 1 5 14 p)
  w1 = more-words 1 5 14 h

  w3 : Words (more 2 10 28 (more 1 5 14 p))
  w3 = more-words 2 10 28 w1

  w7 : Words (more 4 20 56 (more 2 10 28 (more 1 5 14 p)))
  w7 = more-words 4 20 56 w3

  w15 : Words (more 8 40 112 (more 4 20 56 (more 2 10 28 (more 1 5 14 p))))
  w15 = more-words 8 40 112 w7

  unparity-is : unparity p ≡ more 16 80 224 (more 8 40 112 (more 4 20 56 (more 2 10 28 (more 1 5 14 p))))
  unfolding unparity
  unparity-is = rw (is-1 h, is-2 w1, is-4 w3, is-8 w7) (is-16 w15)

  unparity-words : Words (unparity p)
  unparity-words = rw unparity-is (more-words 16 80 224 w15)

  -- with one more of the first, all five double up to 32
  all-32 : more 16 80 224 (more 8 40 112 (more 4 20 56 (more 2 10 28 (more 1 5 14 (more 1 5 14 p))))) ≡ p
  all-32 =
      rw (more-more 1 5 14 p, more-more 2 10 28 p, more-more 4 20 56 p, more-more 8 40 112 p, more-more 16 80 224 p)
      (more-32 h)

unparity-more : {p : Plane} → Words p → unparity (more 1 5 14 p) ≡ p
unparity-more h = unparity-is (more-words 1 5 14 h) ∙ all-32 h

more-unparity : {p : Plane} → Words p → more 1 5 14 (unparity p) ≡ p
more-unparity h =
    rw (
      unparity-is h,
      more-swap 1 5 14 16 80 224,
      more-swap 1 5 14 8 40 112,
      more-swap 1 5 14 4 20 56,
      more-swap 1 5 14 2 10 28,
    )
    (all-32 h)

-- ---- the last three steps at once
step_words : (m i j : ℕ) {p : Plane} → i ≤ 32 → j ≤ 32 → Words p → Words (step m i j p)
step_words m i j hi hj h = rw (step_is m i j hi hj h) (more-words m i j h)

-- a step in its own column
still : (i j : ℕ) {p : Plane} → i ≤ 32 → j ≤ 32 → Words p → step 0 i j p ≡ p ⊞ (rots i p ⊞ rots j p)
unfolding step spread ups
still i j hi hj h = rw (rotls-is i hi h, rotls-is j hj h)

-- of the nine rotations that they add, by 16, 36, 40, 24, 44, 48, 32, 52 and 56, two pairs are alike modulo 32
nine : {p : Plane} → Words p → (q : Plane) → q ≡ p ⊞ (rots 20 p ⊞ rots 24 p)
    → rots 16 (q ⊞ (rots 8 q ⊞ rots 16 q)) ≡ (p ⊞ rots 4 p) ⊞ rots 8 (p ⊞ rots 4 p) ⊞ rots 20 p
nine {p} h q e =
    let e4 : rots 36 p ≡ rots 4 p = rots-mod 36 h in
    let e8 : rots 40 p ≡ rots 8 p = rots-mod 40 h in
    let e12 : rots 44 p ≡ rots 12 p = rots-mod 44 h in
    let e16 : rots 48 p ≡ rots 16 p = rots-mod 48 h in
    let e0 : rots 32 p ≡ p = rots-mod 32 h ∙ rots-zero p in
    let e20 : rots 52 p ≡ rots 20 p = rots-mod 52 h in
    let e24 : rots 56 p ≡ rots 24 p = rots-mod 56 h in
    let s : rots 16 p ⊞ (rots 4 p ⊞ rots 8 p) ⊞ (rots 24 p ⊞ (rots 12 p ⊞ rots 16 p) ⊞ (p ⊞ (rots 20 p ⊞ rots 24 p)))
    ≡ p ⊞ rots 4 p ⊞ (rots 8 p ⊞ rots 12 p) ⊞ rots 20 p =
    simp plane-sum in
    rw e (simp (rots-⊞, rots-rots) (rw (e4, e8, e12, e16, e0, e20, e24) s))

-- rotations by 0, 4, 8, 12 and 20, added in three sums
abbrev pub five : Plane → Plane
five p = (p ⊞ each (rotl 4) p) ⊞ each (rotl 8) (p ⊞ each (rotl 4) p) ⊞ each (rotl 20) p

last-three : {p : Plane} → Words p → each (rotl 16) (step 0 8 16 (step 0 20 24 p)) ≡ five p
last-three {p} h =
    let q : Plane = step 0 20 24 p in
    let e : q ≡ p ⊞ (rots 20 p ⊞ rots 24 p) = still 20 24 (omega arith) (omega arith) h in
    let w : Words q = step_words 0 20 24 (omega arith) (omega arith) h in
    let v : Words (p ⊞ rots 4 p) = ⊞-words h (rots-words 4 h) in
    rotls-is 16 (omega arith) (step_words 0 8 16 (omega arith) (omega arith) w)
    ∙ ap (rots 16) (still 8 16 (omega arith) (omega arith) w)
    ∙ nine h q e
    ∙ sym (rw (rotls-is 4 (omega arith) h, rotls-is 8 (omega arith) v, rotls-is 20 (omega arith) h))

pub unparity-five : {p : Plane} → Words p → unparity p ≡ five (step 2 10 28 (step 1 5 14 p))
unfolding unparity
unparity-five h =
    last-three (step_words 2 10 28 (omega arith) (omega arith) (step_words 1 5 14 (omega arith) (omega arith) h))

-- ---- the inverse
pub untheta-good : {s : State} → Good s → Good (untheta s)
unfolding untheta by
untheta-good g = by-good unparity (unparity-words (parity-words g)) g

pub untheta-theta : (s : State) → Good s → untheta (theta s) ≡ s
unfolding untheta by
untheta-theta s g =
    ap untheta (theta-is s g) ∙ by-by unparity (more 1 5 14) s
    ∙ by-same (λ p. unparity (more 1 5 14 p)) s (unparity-more (parity-words g))

pub theta-untheta : (s : State) → Good s → theta (untheta s) ≡ s
unfolding untheta by
theta-untheta s g =
    theta-is (untheta s) (untheta-good g) ∙ by-by (more 1 5 14) unparity s
    ∙ by-same (λ p. more 1 5 14 (unparity p)) s (more-unparity (parity-words g))
