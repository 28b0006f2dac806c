-- The marked cases of Xoodoo, computed from the definitions.
use mathlib.Core.Path.{◌≡◌, refl}
use mathlib.Core.List.{List, [], ◌∷◌}
use Prim.Native.Nat.{ℕ}
use lib.ListN.{replicate, set}
use Rattle.laws.specs.Words.{◌⊕◌, ◌⊙◌, not32, rotl}
use Rattle.xoodoo.specs.declared.round.State.{State}
use Rattle.xoodoo.specs.Xoodoo.{word_of, word_at, plane_at, from_bytes, byte_of, word_bytes, plane_bytes, to_bytes, ◌⊞◌, up, parity, effect, add_planes, theta, rho_west, iota, gain, gains, chi, rho_east, round, constants, last_of, rounds, xoodoo_rounds, xoodoo}

-- the twelve words, in order
abbrev words : State → List ℕ
words s =
    s.p0.x0 ∷ s.p0.x1 ∷ s.p0.x2 ∷ s.p0.x3
    ∷ s.p1.x0 ∷ s.p1.x1 ∷ s.p1.x2 ∷ s.p1.x3
    ∷ s.p2.x0 ∷ s.p2.x1 ∷ s.p2.x2 ∷ s.p2.x3 ∷ []

-- W1: one round of zeros with 0x058: word 0 is 0x58, word 4 is 0xb0, the rest 0
pub w1 : words (round 0x058 (from_bytes (replicate 48 0))) ≡ 0x58 ∷ 0 ∷ 0 ∷ 0 ∷ 0xb0 ∷ 0 ∷ 0 ∷ 0 ∷ 0 ∷ 0 ∷ 0 ∷ 0 ∷ []
unfolding ◌⊕◌ ◌⊙◌ not32 rotl word_of word_at plane_at from_bytes ◌⊞◌ up parity effect add_planes theta rho_west iota gain gains chi rho_east round
w1 = refl

-- W2: theta of word 0 = 1 alone: words 1, 5, 9 are 0x4020, word 0 stays 1, the rest 0
pub w2 : words (theta (from_bytes (1 ∷ replicate 47 0))) ≡ 1 ∷ 0x4020 ∷ 0 ∷ 0 ∷ 0 ∷ 0x4020 ∷ 0 ∷ 0 ∷ 0 ∷ 0x4020 ∷ 0 ∷ 0 ∷ []
unfolding ◌⊕◌ rotl word_of word_at plane_at from_bytes ◌⊞◌ up parity effect add_planes theta
w2 = refl

-- bits a, b, c in the three words of column 0
abbrev bits : ℕ → ℕ → ℕ → State
bits a b c =
    record {
      p0 = record { x0 = a; x1 = 0; x2 = 0; x3 = 0 };
      p1 = record { x0 = b; x1 = 0; x2 = 0; x3 = 0 };
      p2 = record { x0 = c; x1 = 0; x2 = 0; x3 = 0 };
    }

-- W3: chi of bits (0,0,1) is (1,0,1), and of (1,0,1) is (0,0,1)
pub w3 : (chi (bits 0 0 1) ≡ bits 1 0 1) × (chi (bits 1 0 1) ≡ bits 0 0 1)
unfolding ◌⊕◌ ◌⊙◌ not32 gain gains chi
w3 = (refl, refl)

-- the published value of Xoodoo on 48 zero bytes
pub zeros : xoodoo (replicate 48 0) ≡
    0x8d ∷ 0xd8 ∷ 0xd5 ∷ 0x89 ∷ 0xbf ∷ 0xfc ∷ 0x63 ∷ 0xa9 ∷ 0x19 ∷ 0x2d ∷ 0x23 ∷ 0x1b ∷ 0x14 ∷ 0xa0 ∷ 0xa5 ∷ 0xff
    ∷ 0x06 ∷ 0x81 ∷ 0xb1 ∷ 0x36 ∷ 0xfe ∷ 0xc1 ∷ 0xc7 ∷ 0xaf ∷ 0xbe ∷ 0x7c ∷ 0xe5 ∷ 0xae ∷ 0xbd ∷ 0x40 ∷ 0x75 ∷ 0xa7
    ∷ 0x70 ∷ 0xe8 ∷ 0x86 ∷ 0x2e ∷ 0xc9 ∷ 0xb7 ∷ 0xf5 ∷ 0xfe ∷ 0xf2 ∷ 0xad ∷ 0x4f ∷ 0x8b ∷ 0x62 ∷ 0x40 ∷ 0x4f ∷ 0x5e ∷ []
unfolding ◌⊕◌ ◌⊙◌ not32 rotl word_of word_at plane_at from_bytes byte_of word_bytes plane_bytes to_bytes ◌⊞◌ up parity effect add_planes theta rho_west iota gain gains chi rho_east round constants last_of rounds xoodoo_rounds xoodoo
zeros = refl

-- one round of zeros is with the last constant, 0x012
pub one-round : xoodoo_rounds 1 (replicate 48 0) ≡ set (set (replicate 48 0) 0 0x12) 16 0x24
unfolding ◌⊕◌ ◌⊙◌ not32 rotl word_of word_at plane_at from_bytes byte_of word_bytes plane_bytes to_bytes ◌⊞◌ up parity effect add_planes theta rho_west iota gain gains chi rho_east round constants last_of rounds xoodoo_rounds
one-round = refl
