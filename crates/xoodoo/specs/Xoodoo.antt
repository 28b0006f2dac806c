-- Xoodoo on 48 bytes, in the words and the order of its specification, and then its inverse. To add is to xor; every rotation is to the left.
use Rattle.std.specs.Prelude.{List, [], ◌∷◌, ◌++◌, ℕ, zero, suc, ◌+◌, ◌-◌, ◌*◌, ◌/◌, ◌%◌, ◌^◌, get_or, drop}
use Rattle.laws.specs.Words.{◌⊕◌, ◌⊙◌, not32, rotl}
use Rattle.xoodoo.specs.declared.round.Plane.{Plane}
use Rattle.xoodoo.specs.declared.round.State.{State}

-- ---- 48 bytes are twelve little-endian words; word 4y+x is plane y, column x
-- the word of four bytes, the lowest first
unfoldable pub word_of : ℕ → ℕ → ℕ → ℕ → ℕ
word_of a b c d = a + b * 2 ^ 8 + c * 2 ^ 16 + d * 2 ^ 24

-- the word of the bytes from i on
unfoldable pub word_at : List ℕ → ℕ → ℕ
word_at b i = word_of (get_or b i 0) (get_or b (i + 1) 0) (get_or b (i + 2) 0) (get_or b (i + 3) 0)

-- the plane of the bytes from i on
unfoldable pub plane_at : List ℕ → ℕ → Plane
plane_at b i = record { x0 = word_at b i; x1 = word_at b (i + 4); x2 = word_at b (i + 8); x3 = word_at b (i + 12) }

unfoldable pub from_bytes : List ℕ → State
from_bytes b = record { p0 = plane_at b 0; p1 = plane_at b 16; p2 = plane_at b 32 }

-- the byte of w from bit k on
unfoldable pub byte_of : ℕ → ℕ → ℕ
byte_of w k = w / 2 ^ k % 2 ^ 8

unfoldable pub word_bytes : ℕ → List ℕ
word_bytes w = byte_of w 0 ∷ byte_of w 8 ∷ byte_of w 16 ∷ byte_of w 24 ∷ []

unfoldable pub plane_bytes : Plane → List ℕ
plane_bytes p = word_bytes p.x0 ++ word_bytes p.x1 ++ word_bytes p.x2 ++ word_bytes p.x3

unfoldable pub to_bytes : State → List ℕ
to_bytes s = plane_bytes s.p0 ++ plane_bytes s.p1 ++ plane_bytes s.p2

-- ---- planes
-- f of each word
abbrev pub each : (ℕ → ℕ) → Plane → Plane
each f p = record { x0 = f p.x0; x1 = f p.x1; x2 = f p.x2; x3 = f p.x3 }

infixl 55 ◌⊞◌
-- q is added to p
unfoldable pub ◌⊞◌ : Plane → Plane → Plane
p ⊞ q = record { x0 = p.x0 ⊕ q.x0; x1 = p.x1 ⊕ q.x1; x2 = p.x2 ⊕ q.x2; x3 = p.x3 ⊕ q.x3 }

-- the plane moves one column up
unfoldable pub up : Plane → Plane
up p = record { x0 = p.x3; x1 = p.x0; x2 = p.x1; x3 = p.x2 }

-- ---- theta
-- P, the xor of the three words of each column
unfoldable pub parity : State → Plane
parity s = s.p0 ⊞ s.p1 ⊞ s.p2

-- E: what P has one column below, rotated by 5, xor the same rotated by 14
unfoldable pub effect : Plane → Plane
effect p = up (each (rotl 5) p ⊞ each (rotl 14) p)

-- e is added to all three planes
unfoldable pub add_planes : Plane → State → State
add_planes e s = record { p0 = s.p0 ⊞ e; p1 = s.p1 ⊞ e; p2 = s.p2 ⊞ e }

unfoldable pub theta : State → State
theta s = add_planes (effect (parity s)) s

-- ---- rho west
unfoldable pub rho_west : State → State
rho_west s = record { p0 = s.p0; p1 = up s.p1; p2 = each (rotl 11) s.p2 }

-- ---- iota
-- the round constant is added to word 0
unfoldable pub iota : ℕ → State → State
iota c s =
    record {
      p0 = record { x0 = s.p0.x0 ⊕ c; x1 = s.p0.x1; x2 = s.p0.x2; x3 = s.p0.x3 };
      p1 = s.p1;
      p2 = s.p2;
    }

-- ---- chi
-- a gains (not b) and c
unfoldable pub gain : ℕ → ℕ → ℕ → ℕ
gain a b c = a ⊕ not32 b ⊙ c

unfoldable pub gains : Plane → Plane → Plane → Plane
gains a b c =
    record {
      x0 = gain a.x0 b.x0 c.x0;
      x1 = gain a.x1 b.x1 c.x1;
      x2 = gain a.x2 b.x2 c.x2;
      x3 = gain a.x3 b.x3 c.x3;
    }

unfoldable pub chi : State → State
chi s = record { p0 = gains s.p0 s.p1 s.p2; p1 = gains s.p1 s.p2 s.p0; p2 = gains s.p2 s.p0 s.p1 }

-- ---- rho east
unfoldable pub rho_east : State → State
rho_east s = record { p0 = s.p0; p1 = each (rotl 1) s.p1; p2 = each (rotl 8) (up (up s.p2)) }

-- ---- the permutation
unfoldable pub round : ℕ → State → State
round c s = rho_east (chi (iota c (rho_west (theta s))))

unfoldable pub constants : List ℕ
constants =
    0x058 ∷ 0x038 ∷ 0x3c0 ∷ 0x0d0 ∷ 0x120 ∷ 0x014 ∷ 0x060 ∷ 0x02c ∷ 0x380 ∷ 0x0f0 ∷ 0x1a0 ∷ 0x012 ∷ []

-- the last n of them
unfoldable pub last_of : ℕ → List ℕ
last_of n = drop (12 - n) constants

-- a round for each constant, the first of the list first
unfoldable pub rounds : List ℕ → State → State
rounds [] s = s
rounds (c ∷ cs) s = rounds cs (round c s)

-- a round for each of the last n constants
unfoldable pub xoodoo_rounds : ℕ → List ℕ → List ℕ
xoodoo_rounds n b = to_bytes (rounds (last_of n) (from_bytes b))

unfoldable pub xoodoo : List ℕ → List ℕ
xoodoo b = xoodoo_rounds 12 b

-- ---- the inverse of each step; iota and chi are their own
-- m columns up
unfoldable pub ups : ℕ → Plane → Plane
ups zero p = p
ups (suc m) p = up (ups m p)

-- p rotated by i, xor p rotated by j
unfoldable pub spread : ℕ → ℕ → Plane → Plane
spread i j p = each (rotl i) p ⊞ each (rotl j) p

-- p gains what it has m columns below, rotated by i, xor the same rotated by j; by 1, 5 and 14 it is what theta makes of the parity
unfoldable pub step : ℕ → ℕ → ℕ → Plane → Plane
step m i j p = p ⊞ ups m (spread i j p)

-- the parity before theta, by 1, 2, 4, 8 and 16 more thetas, since 32 change nothing: the numbers double at each step, columns
-- modulo 4 and rotations modulo 32, and the last step, by 0, 16 and 0, is the rotation alone
unfoldable pub unparity : Plane → Plane
unparity p = each (rotl 16) (step 0 8 16 (step 0 20 24 (step 2 10 28 (step 1 5 14 p))))

-- what the parity has to gain is added to all three planes
unfoldable pub untheta : State → State
untheta s = add_planes (parity s ⊞ unparity (parity s)) s

unfoldable pub unrho_west : State → State
unrho_west s = record { p0 = s.p0; p1 = up (up (up s.p1)); p2 = each (rotl 21) s.p2 }

unfoldable pub unrho_east : State → State
unrho_east s = record { p0 = s.p0; p1 = each (rotl 31) s.p1; p2 = each (rotl 24) (up (up s.p2)) }

unfoldable pub unround : ℕ → State → State
unround c s = untheta (unrho_west (iota c (chi (unrho_east s))))

-- the same list of constants, the last first
unfoldable pub unrounds : List ℕ → State → State
unrounds [] s = s
unrounds (c ∷ cs) s = unround c (unrounds cs s)

-- the rounds of the last n constants, taken back
unfoldable pub inverse_rounds : ℕ → List ℕ → List ℕ
inverse_rounds n b = to_bytes (unrounds (last_of n) (from_bytes b))

unfoldable pub inverse : List ℕ → List ℕ
inverse b = inverse_rounds 12 b
