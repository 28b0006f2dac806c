-- Words are numbers: xor, and; not and the rotation to the left at 32 bits.
use Rattle.std.specs.Prelude.{ℕ, ◌-◌, ◌*◌, ◌/◌, ◌%◌, ◌^◌}
use Rattle.std.specs.Int.Bits.{bit_and, bit_or, bit_xor}

infixl 55 ◌⊕◌
infixl 58 ◌⊙◌
-- a xor b
unfoldable pub ◌⊕◌ : ℕ → ℕ → ℕ
a ⊕ b = bit_xor a b

-- a and b
unfoldable pub ◌⊙◌ : ℕ → ℕ → ℕ
a ⊙ b = bit_and a b

-- not w
unfoldable pub not32 : ℕ → ℕ
not32 w = 2 ^ 32 - 1 - w

-- w rotated to the left by k
unfoldable pub rotl : ℕ → ℕ → ℕ
rotl k w = bit_or (w * 2 ^ k % 2 ^ 32) (w / 2 ^ (32 - k))
