-- Demand 3, for Xoodoo: nothing is lost, and the way back is known.
use mathlib.Core.Path.{◌≡◌}
use mathlib.Core.List.{List}
use Prim.Native.Nat.{ℕ, ◌^◌, ◌<◌}
use Rattle.laws.specs.Lists.{All, Bytes48}
use Rattle.xoodoo.specs.declared.round.Plane.{Plane}
use Rattle.xoodoo.specs.declared.round.State.{State}
use Rattle.xoodoo.specs.Xoodoo.{from_bytes, to_bytes, theta, untheta, rho_west, unrho_west, iota, gains, chi, rho_east, unrho_east, round, unround, rounds, unrounds, xoodoo, inverse}
use Rattle.xoodoo.proofs.Planes.{plane≡, Words, Good}
use Rattle.xoodoo.proofs.Chi.{gain-second, gain-third}
use Rattle.xoodoo.proofs.Bytes.{from-good, to-bytes, from-to, to-from}
use Rattle.xoodoo.proofs.Inverse as laws
use Rattle.xoodoo.proofs.Inverse.{Inverse}

-- 48 bytes and states of twelve 32-bit words are in bijection: each gives the other, and back
pub bytes-give-words : {b : List ℕ} → Bytes48 b → Good (from_bytes b)
bytes-give-words = from-good

pub words-give-bytes : (s : State) → Bytes48 (to_bytes s)
words-give-bytes = to-bytes

pub bytes-words : {b : List ℕ} → Bytes48 b → to_bytes (from_bytes b) ≡ b
bytes-words = to-from

pub words-bytes : {s : State} → Good s → from_bytes (to_bytes s) ≡ s
words-bytes = from-to

-- chi is its own inverse
pub chi-chi : (s : State) → Good s → chi (chi s) ≡ s
chi-chi = (laws.chi-inverse).back

-- chi done in place gives the same: plane 1 may read the new plane 0, and plane 2 the new planes 0 and 1
pub chi-second : {a b c : Plane} → Words a → Words b → Words c → gains b c (gains a b c) ≡ gains b c a
unfolding gains
chi-second h k l =
    plane≡ (gain-second _ _ _ h.w0 k.w0 l.w0) (gain-second _ _ _ h.w1 k.w1 l.w1)
    (gain-second _ _ _ h.w2 k.w2 l.w2) (gain-second _ _ _ h.w3 k.w3 l.w3)

pub chi-third : {a b c : Plane} → Words a → Words b → Words c → gains c (gains a b c) (gains b c a) ≡ gains c a b
unfolding gains
chi-third h k l =
    plane≡ (gain-third _ _ _ h.w0 k.w0 l.w0) (gain-third _ _ _ h.w1 k.w1 l.w1)
    (gain-third _ _ _ h.w2 k.w2 l.w2) (gain-third _ _ _ h.w3 k.w3 l.w3)

-- each step has a two-sided inverse
pub steps-inverse :
    Inverse theta untheta
    × Inverse rho_west unrho_west
    × ((c : ℕ) → c < 2 ^ 32 → Inverse (iota c) (iota c))
    × Inverse chi chi
    × Inverse rho_east unrho_east
steps-inverse = (laws.theta-inverse, laws.rho_west-inverse, laws.iota-inverse, laws.chi-inverse, laws.rho_east-inverse)

-- and so has each round, with any constant
pub round-inverse : (c : ℕ) → c < 2 ^ 32 → Inverse (round c) (unround c)
round-inverse = laws.round-inverse

-- any number of rounds, with any list of constants, has a two-sided inverse on all lists of 48 bytes
pub rounds-back : (cs : List ℕ) → All (2 ^ 32) cs → {b : List ℕ} → Bytes48 b
    → to_bytes (unrounds cs (from_bytes (to_bytes (rounds cs (from_bytes b))))) ≡ b
rounds-back cs h = laws.on-bytes (laws.rounds-inverse cs h)

pub rounds-forth : (cs : List ℕ) → All (2 ^ 32) cs → {b : List ℕ} → Bytes48 b
    → to_bytes (rounds cs (from_bytes (to_bytes (unrounds cs (from_bytes b))))) ≡ b
rounds-forth cs h = laws.on-bytes (laws.swap (laws.rounds-inverse cs h))

-- Xoodoo takes 48 bytes to 48 bytes, and has a two-sided inverse on all such lists
pub xoodoo-keeps : {b : List ℕ} → Bytes48 b → Bytes48 (xoodoo b)
xoodoo-keeps = laws.xoodoo-keeps

pub inverse-keeps : {b : List ℕ} → Bytes48 b → Bytes48 (inverse b)
inverse-keeps = laws.inverse-keeps

pub xoodoo-back : {b : List ℕ} → Bytes48 b → inverse (xoodoo b) ≡ b
xoodoo-back = laws.inverse-xoodoo

pub xoodoo-forth : {b : List ℕ} → Bytes48 b → xoodoo (inverse b) ≡ b
xoodoo-forth = laws.xoodoo-inverse
