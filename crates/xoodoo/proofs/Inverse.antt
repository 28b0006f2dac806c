-- Each step, each round and the permutation has a two-sided inverse.
use mathlib.Core.Path.{◌≡◌, refl, ap, ◌∙◌}
use mathlib.Core.List.{List, [], ◌∷◌}
use Prim.Native.Nat.{ℕ, ◌-◌, ◌^◌, ◌<◌}
use native.Mathlib.Omega.{arith}
use lib.ListN.{length, get_or}
use Rattle.laws.specs.Lists.{All, Bytes48}
use Rattle.laws.proofs.Words.{⊕-lt, ⊕-back}
use Rattle.laws.proofs.Bytes.{all_drop, all_get_d}
use Rattle.xoodoo.specs.Xoodoo.{up, theta, untheta, rho_west, unrho_west, iota, gains, chi, rho_east, unrho_east, round, unround, rounds, unrounds, constants, last_of, from_bytes, to_bytes, xoodoo_rounds, inverse_rounds, xoodoo, inverse}
use Rattle.xoodoo.specs.declared.round.Plane.{Plane}
use Rattle.xoodoo.specs.declared.round.State.{State}
use Rattle.xoodoo.proofs.Planes.{plane≡, state≡, Words, Good, up-words, rotls-words, rotls-back}
use Rattle.xoodoo.proofs.Chi.{gain-lt, gain-back}
use Rattle.xoodoo.proofs.Theta.{theta-good, untheta-good, untheta-theta, theta-untheta}
use Rattle.xoodoo.proofs.Bytes.{to-bytes, from-good, from-to, to-from}

-- b undoes f and f undoes b on states of 32-bit words, and both keep them such
pub record Inverse (f b : State → State) : Type 0 where
  pub back : (s : State) → Good s → b (f s) ≡ s
  pub forth : (s : State) → Good s → f (b s) ≡ s
  pub keeps : {s : State} → Good s → Good (f s)
  pub keeps-back : {s : State} → Good s → Good (b s)

-- nothing, and one after the other
id-inverse : Inverse (λ s. s) (λ s. s)
id-inverse = record { back = λ s g. refl; forth = λ s g. refl; keeps = λ g. g; keeps-back = λ g. g }

then : {f b f' b' : State → State} → Inverse f b → Inverse f' b' → Inverse (λ s. f' (f s)) (λ s. b (b' s))
then {f} {b} {f'} {b'} h k =
    record {
      back = λ s g. ap b (k.back (f s) (h.keeps g)) ∙ h.back s g;
      forth = λ s g. ap f' (h.forth (b' s) (k.keeps-back g)) ∙ k.forth s g;
      keeps = λ g. k.keeps (h.keeps g);
      keeps-back = λ g. h.keeps-back (k.keeps-back g);
    }

-- ---- the steps
pub theta-inverse : Inverse theta untheta
theta-inverse = record { back = untheta-theta; forth = theta-untheta; keeps = theta-good; keeps-back = untheta-good }

pub rho_west-inverse : Inverse rho_west unrho_west
unfolding rho_west unrho_west up
rho_west-inverse =
    record {
      back = λ s g. state≡ refl refl (rotls-back 21 11 refl g.g2);
      forth = λ s g. state≡ refl refl (rotls-back 11 21 refl g.g2);
      keeps = λ g. record { g0 = g.g0; g1 = up-words g.g1; g2 = rotls-words 11 (omega arith) g.g2 };
      keeps-back = λ g. record { g0 = g.g0; g1 = up-words (up-words (up-words g.g1)); g2 = rotls-words 21 (omega arith) g.g2 };
    }

pub rho_east-inverse : Inverse rho_east unrho_east
unfolding rho_east unrho_east up
rho_east-inverse =
    record {
      back = λ s g. state≡ refl (rotls-back 31 1 refl g.g1) (rotls-back 24 8 refl g.g2);
      forth = λ s g. state≡ refl (rotls-back 1 31 refl g.g1) (rotls-back 8 24 refl g.g2);
      keeps = λ g. record { g0 = g.g0; g1 = rotls-words 1 (omega arith) g.g1; g2 = rotls-words 8 (omega arith) (twice g.g2) };
      keeps-back = λ g. record { g0 = g.g0; g1 = rotls-words 31 (omega arith) g.g1; g2 = rotls-words 24 (omega arith) (twice g.g2) };
    }
  where
    twice : {p : Plane} → Words p → Words (up (up p))
    twice h = up-words (up-words h)

pub iota-inverse : (c : ℕ) → c < 2 ^ 32 → Inverse (iota c) (iota c)
unfolding iota
iota-inverse c hc = record { back = undo; forth = undo; keeps = keep; keeps-back = keep }
  where
    keep : {s : State} → Good s → Good (iota c s)
    keep g =
        record {
          g0 = record { w0 = ⊕-lt 32 g.g0.w0 hc; w1 = g.g0.w1; w2 = g.g0.w2; w3 = g.g0.w3 };
          g1 = g.g1;
          g2 = g.g2;
        }

    undo : (s : State) → Good s → iota c (iota c s) ≡ s
    undo s g = state≡ (plane≡ (⊕-back s.p0.x0 c) refl refl refl) refl refl

gains-words : {p q r : Plane} → Words p → Words q → Words r → Words (gains p q r)
unfolding gains
gains-words h k l =
    record {
      w0 = gain-lt _ h.w0 l.w0;
      w1 = gain-lt _ h.w1 l.w1;
      w2 = gain-lt _ h.w2 l.w2;
      w3 = gain-lt _ h.w3 l.w3;
    }

gains-back : {p q r : Plane} → Words p → Words q → Words r → gains (gains p q r) (gains q r p) (gains r p q) ≡ p
unfolding gains
gains-back h k l =
    plane≡ (gain-back _ _ _ h.w0 k.w0 l.w0) (gain-back _ _ _ h.w1 k.w1 l.w1)
    (gain-back _ _ _ h.w2 k.w2 l.w2) (gain-back _ _ _ h.w3 k.w3 l.w3)

pub chi-inverse : Inverse chi chi
unfolding chi
chi-inverse = record { back = undo; forth = undo; keeps = keep; keeps-back = keep }
  where
    keep : {s : State} → Good s → Good (chi s)
    keep g =
        record {
          g0 = gains-words g.g0 g.g1 g.g2;
          g1 = gains-words g.g1 g.g2 g.g0;
          g2 = gains-words g.g2 g.g0 g.g1;
        }

    undo : (s : State) → Good s → chi (chi s) ≡ s
    undo s g = state≡ (gains-back g.g0 g.g1 g.g2) (gains-back g.g1 g.g2 g.g0) (gains-back g.g2 g.g0 g.g1)

-- ---- the rounds
pub round-inverse : (c : ℕ) → c < 2 ^ 32 → Inverse (round c) (unround c)
unfolding round unround
round-inverse c hc = then theta-inverse (then rho_west-inverse (then (iota-inverse c hc) (then chi-inverse rho_east-inverse)))

pub rounds-inverse : (cs : List ℕ) → All (2 ^ 32) cs → Inverse (rounds cs) (unrounds cs)
unfolding rounds unrounds
rounds-inverse [] h = id-inverse
rounds-inverse (c ∷ cs) h = then (round-inverse c h.0) (rounds-inverse cs h.1)

constants-all : All (2 ^ 32) constants
unfolding constants
constants-all = omega arith

pub constant-lt : (i : ℕ) → get_or constants i 0 < 2 ^ 32
constant-lt i = all_get_d (2 ^ 32) constants (omega arith) constants-all i

last-inverse : (n : ℕ) → Inverse (rounds (last_of n)) (unrounds (last_of n))
unfolding last_of
last-inverse n = rounds-inverse (last_of n) (all_drop (2 ^ 32) (12 - n) constants constants-all)

-- ---- on bytes
-- what is inverse on states is so on 48 bytes
pub on-bytes : {f b : State → State} → Inverse f b → {l : List ℕ} → Bytes48 l → to_bytes (b (from_bytes (to_bytes (f (from_bytes l))))) ≡ l
on-bytes {f} {b} I {l} h =
    ap (λ (s : State). to_bytes (b s)) (from-to (I.keeps (from-good h))) ∙ ap to_bytes (I.back (from_bytes l) (from-good h)) ∙ to-from h

pub swap : {f b : State → State} → Inverse f b → Inverse b f
swap I = record { back = I.forth; forth = I.back; keeps = I.keeps-back; keeps-back = I.keeps }

-- for every count
pub inverse_rounds-xoodoo_rounds : (n : ℕ) {b : List ℕ} → Bytes48 b → inverse_rounds n (xoodoo_rounds n b) ≡ b
unfolding xoodoo_rounds inverse_rounds
inverse_rounds-xoodoo_rounds n h = on-bytes (last-inverse n) h

pub xoodoo_rounds-inverse_rounds : (n : ℕ) {b : List ℕ} → Bytes48 b → xoodoo_rounds n (inverse_rounds n b) ≡ b
unfolding xoodoo_rounds inverse_rounds
xoodoo_rounds-inverse_rounds n h = on-bytes (swap (last-inverse n)) h

pub xoodoo_rounds-keeps : (n : ℕ) (b : List ℕ) → Bytes48 (xoodoo_rounds n b)
unfolding xoodoo_rounds
xoodoo_rounds-keeps n b = to-bytes (rounds (last_of n) (from_bytes b))

pub inverse_rounds-keeps : (n : ℕ) (b : List ℕ) → Bytes48 (inverse_rounds n b)
unfolding inverse_rounds
inverse_rounds-keeps n b = to-bytes (unrounds (last_of n) (from_bytes b))

-- no rounds change nothing
pub xoodoo_rounds-none : {b : List ℕ} → Bytes48 b → xoodoo_rounds 0 b ≡ b
unfolding xoodoo_rounds last_of constants rounds
xoodoo_rounds-none h = to-from h

pub inverse_rounds-none : {b : List ℕ} → Bytes48 b → inverse_rounds 0 b ≡ b
unfolding inverse_rounds last_of constants unrounds
inverse_rounds-none h = to-from h

-- and so for twelve
pub inverse-xoodoo : {b : List ℕ} → Bytes48 b → inverse (xoodoo b) ≡ b
unfolding xoodoo inverse
inverse-xoodoo h = inverse_rounds-xoodoo_rounds 12 h

pub xoodoo-inverse : {b : List ℕ} → Bytes48 b → xoodoo (inverse b) ≡ b
unfolding xoodoo inverse
xoodoo-inverse h = xoodoo_rounds-inverse_rounds 12 h

pub xoodoo-keeps : {b : List ℕ} → Bytes48 b → Bytes48 (xoodoo b)
unfolding xoodoo
xoodoo-keeps {b} h = xoodoo_rounds-keeps 12 b

pub inverse-keeps : {b : List ℕ} → Bytes48 b → Bytes48 (inverse b)
unfolding inverse
inverse-keeps {b} h = inverse_rounds-keeps 12 b

pub xoodoo-length : (b : List ℕ) → length (xoodoo b) ≡ 48
unfolding xoodoo
xoodoo-length b = (xoodoo_rounds-keeps 12 b).size
