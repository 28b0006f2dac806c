-- A round of rotated words, with its constant rotated alike, is the round's words rotated. So a round may leave its words rotated
-- by 24 more each time: after four rounds that is by 96, which changes nothing.
use mathlib.Core.Path.{◌≡◌, refl, sym, ap, ◌∙◌}
use mathlib.Core.List.{[], ◌∷◌}
use Prim.Native.Nat.{ℕ, ◌+◌, ◌%◌, ◌^◌, ◌≤◌, ◌<◌}
use native.Mathlib.Omega.{arith}
use Rattle.laws.specs.Words.{rotl}
use Rattle.laws.proofs.Rotation.{rot, rot-⊕, rotl-is}
use Rattle.xoodoo.specs.Xoodoo.{each, up, parity, effect, add_planes, theta, rho_west, iota, gains, chi, rho_east, round, rounds}
use Rattle.xoodoo.specs.Frame.{turned}
use Rattle.xoodoo.specs.declared.round.Plane.{Plane}
use Rattle.xoodoo.specs.declared.round.State.{State}
use Rattle.xoodoo.proofs.Planes.{plane≡, state≡, Words, Good, rots, rots-words, rots-⊞, rots-rots, rots-mod, rots-zero, up-words, rotls-is, rotls-words, rotls-back}
use Rattle.xoodoo.proofs.Chi.{rot-gain}
use Rattle.xoodoo.proofs.Theta.{parity-words}
use Rattle.xoodoo.proofs.Inverse.{theta-inverse, rho_west-inverse, iota-inverse, chi-inverse, round-inverse}

-- every word rotated by k
frame : ℕ → State → State
frame k s = record { p0 = rots k s.p0; p1 = rots k s.p1; p2 = rots k s.p2 }

turned-is : (k : ℕ) {s : State} → k ≤ 32 → Good s → turned k s ≡ frame k s
unfolding turned frame
turned-is k l g = state≡ (rotls-is k l g.g0) (rotls-is k l g.g1) (rotls-is k l g.g2)

frame-good : (k : ℕ) {s : State} → Good s → Good (frame k s)
unfolding frame
frame-good k g = record { g0 = rots-words k g.g0; g1 = rots-words k g.g1; g2 = rots-words k g.g2 }

frame-frame : (j k : ℕ) (s : State) → frame j (frame k s) ≡ frame (k + j) s
unfolding frame
frame-frame j k s = state≡ (rots-rots j k s.p0) (rots-rots j k s.p1) (rots-rots j k s.p2)

frame-mod : (k : ℕ) {s : State} → Good s → frame k s ≡ frame (k % 32) s
unfolding frame
frame-mod k g = state≡ (rots-mod k g.g0) (rots-mod k g.g1) (rots-mod k g.g2)

frame-zero : (s : State) → frame 0 s ≡ s
unfolding frame
frame-zero s = state≡ (rots-zero s.p0) (rots-zero s.p1) (rots-zero s.p2)

-- ---- through each step
-- two rotations in either order
rotls-rots : (j k : ℕ) {p : Plane} → j ≤ 32 → Words p → each (rotl j) (rots k p) ≡ rots k (each (rotl j) p)
rotls-rots j k {p} l h =
    rotls-is j l (rots-words k h) ∙ rots-rots j k p ∙ ap (λ (n : ℕ). rots n p) go ∙ sym (ap (rots k) (rotls-is j l h) ∙ rots-rots k j p)
  where
    go : k + j ≡ j + k
    go = omega arith

up-rots : (k : ℕ) (p : Plane) → up (rots k p) ≡ rots k (up p)
unfolding rots up
up-rots k p = refl

parity-frame : (k : ℕ) (s : State) → parity (frame k s) ≡ rots k (parity s)
unfolding parity frame
parity-frame k s = sym (rw (rots-⊞, rots-⊞))

effect-rots : (k : ℕ) {p : Plane} → Words p → effect (rots k p) ≡ rots k (effect p)
unfolding effect
effect-rots k {p} h =
    ap up (rw (rotls-rots 5 k (omega arith) h, rotls-rots 14 k (omega arith) h) (sym (rots-⊞ k _ _))) ∙ up-rots k _

add_planes-frame : (k : ℕ) (e : Plane) (s : State) → add_planes (rots k e) (frame k s) ≡ frame k (add_planes e s)
unfolding add_planes frame
add_planes-frame k e s = sym (state≡ (rots-⊞ k s.p0 e) (rots-⊞ k s.p1 e) (rots-⊞ k s.p2 e))

theta-frame : (k : ℕ) (s : State) → Good s → theta (frame k s) ≡ frame k (theta s)
unfolding theta
theta-frame k s g =
    ap (λ (e : Plane). add_planes e (frame k s)) (ap effect (parity-frame k s) ∙ effect-rots k (parity-words g))
    ∙ add_planes-frame k (effect (parity s)) s

rho_west-frame : (k : ℕ) (s : State) → Good s → rho_west (frame k s) ≡ frame k (rho_west s)
unfolding rho_west frame rots up
rho_west-frame k s g = state≡ refl refl (rotls-rots 11 k (omega arith) g.g2)

iota-frame : (k c : ℕ) (s : State) → iota (rot k c) (frame k s) ≡ frame k (iota c s)
unfolding iota frame rots
iota-frame k c s = state≡ (plane≡ (sym (rot-⊕ k s.p0.x0 c)) refl refl refl) refl refl

gains-rots : (k : ℕ) (p : Plane) {q r : Plane} → Words q → Words r → gains (rots k p) (rots k q) (rots k r) ≡ rots k (gains p q r)
unfolding gains rots
gains-rots k p h l =
    plane≡ (rot-gain k _ _ _ h.w0 l.w0) (rot-gain k _ _ _ h.w1 l.w1)
    (rot-gain k _ _ _ h.w2 l.w2) (rot-gain k _ _ _ h.w3 l.w3)

chi-frame : (k : ℕ) (s : State) → Good s → chi (frame k s) ≡ frame k (chi s)
unfolding chi frame
chi-frame k s g = state≡ (gains-rots k s.p0 g.g1 g.g2) (gains-rots k s.p1 g.g2 g.g0) (gains-rots k s.p2 g.g0 g.g1)

rho_east-frame : (k : ℕ) (s : State) → Good s → rho_east (frame k s) ≡ frame k (rho_east s)
unfolding rho_east frame rots up
rho_east-frame k s g =
    state≡ refl (rotls-rots 1 k (omega arith) g.g1) (rotls-rots 8 k (omega arith) (up-words (up-words g.g2)))

round-frame : (k c : ℕ) (s : State) → c < 2 ^ 32 → Good s → round (rot k c) (frame k s) ≡ frame k (round c s)
unfolding round
round-frame k c s hc g =
    let g1 : Good (theta s) = theta-inverse.keeps g in
    let g2 : Good (rho_west (theta s)) = rho_west-inverse.keeps g1 in
    let g3 : Good (iota c (rho_west (theta s))) = (iota-inverse c hc).keeps g2 in
    let g4 : Good (chi (iota c (rho_west (theta s)))) = chi-inverse.keeps g3 in
    ap (λ (t : State). rho_east (chi (iota (rot k c) (rho_west t)))) (theta-frame k s g)
    ∙ ap (λ (t : State). rho_east (chi (iota (rot k c) t))) (rho_west-frame k _ g1)
    ∙ ap (λ (t : State). rho_east (chi t)) (iota-frame k c _)
    ∙ ap rho_east (chi-frame k _ g3)
    ∙ rho_east-frame k _ g4

-- ---- the last step, left rotated by 24: plane 2 is where it was
pub rho_east-turned : {s : State} → Good s
    → record { p0 = each (rotl 24) s.p0; p1 = each (rotl 25) s.p1; p2 = up (up s.p2) } ≡ turned 24 (rho_east s)
unfolding turned rho_east up
rho_east-turned {s} g = state≡ refl (sym (more g.g1)) (sym (rotls-back 24 8 refl (up-words (up-words g.g2))))
  where
    more : {p : Plane} → Words p → each (rotl 24) (each (rotl 1) p) ≡ each (rotl 25) p
    more {p} h =
        rotls-is 24 (omega arith) (rotls-words 1 (omega arith) h) ∙ ap (rots 24) (rotls-is 1 (omega arith) h)
        ∙ rots-rots 24 1 p ∙ sym (rotls-is 25 (omega arith) h)

-- ---- four rounds
-- one more, in the frame of k
turn : (k c : ℕ) {s : State} → k ≤ 32 → c < 2 ^ 32 → Good s → turned 24 (round (rotl k c) (frame k s)) ≡ frame ((k + 24) % 32) (round c s)
turn k c {s} l hc g =
    let r : Good (round c s) = (round-inverse c hc).keeps g in
    ap (turned 24) (ap (λ (d : ℕ). round d (frame k s)) (rotl-is k c l hc) ∙ round-frame k c s hc g)
    ∙ turned-is 24 (omega arith) (frame-good k r) ∙ frame-frame 24 k (round c s) ∙ frame-mod (k + 24) r

pub four-turns : {a b c d : ℕ} {s : State} → a < 2 ^ 32 → b < 2 ^ 32 → c < 2 ^ 32 → d < 2 ^ 32 → Good s
    → turned 24 (round (rotl 8 d) (turned 24 (round (rotl 16 c) (turned 24 (round (rotl 24 b) (turned 24 (round a s)))))))
    ≡ rounds (a ∷ b ∷ c ∷ d ∷ []) s
unfolding rounds
four-turns {a} {b} {c} {d} {s} ha hb hc hd g =
    let g1 : Good (round a s) = (round-inverse a ha).keeps g in
    let g2 : Good (round b (round a s)) = (round-inverse b hb).keeps g1 in
    let g3 : Good (round c (round b (round a s))) = (round-inverse c hc).keeps g2 in
    ap (λ (t : State). turned 24 (round (rotl 8 d) (turned 24 (round (rotl 16 c) (turned 24 (round (rotl 24 b) t))))))
    (turned-is 24 (omega arith) g1)
    ∙ ap (λ (t : State). turned 24 (round (rotl 8 d) (turned 24 (round (rotl 16 c) t)))) (turn 24 b (omega arith) hb g1)
    ∙ ap (λ (t : State). turned 24 (round (rotl 8 d) t)) (turn 16 c (omega arith) hc g2)
    ∙ turn 8 d (omega arith) hd g3
    ∙ frame-zero _
