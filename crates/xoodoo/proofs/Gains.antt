-- What a plane gains in chi, as the operators on planes make it.
use mathlib.Core.Path.{◌≡◌, refl, ◌∙◌}
use lib.Bits.{bit_or}
use Rattle.laws.specs.Words.{◌⊙◌, not32}
use Rattle.xoodoo.specs.Xoodoo.{each, ◌⊞◌, gain, gains}
use Rattle.xoodoo.specs.Frame.{both, gains_and, gains_or}
use Rattle.xoodoo.specs.declared.round.Plane.{Plane}

gains-is : (a b c : Plane) → a ⊞ both ◌⊙◌ (each not32 b) c ≡ gains a b c
unfolding ◌⊞◌ gains gain
gains-is a b c = refl

gains-and-is : (a b c : Plane) → a ⊞ both ◌⊙◌ b c ≡ gains_and a b c
unfolding ◌⊞◌ gains_and
gains-and-is a b c = refl

gains-or-is : (a b c : Plane) → a ⊞ both bit_or b c ≡ gains_or a b c
unfolding ◌⊞◌ gains_or
gains-or-is a b c = refl

-- r is a with m added, m is what n meets in c, n is not b
pub gains-of : (a b c : Plane) {m n r : Plane} → n ≡ each not32 b → m ≡ both ◌⊙◌ n c → r ≡ a ⊞ m → r ≡ gains a b c
gains-of a b c en em er = er ∙ rw (em, en) (gains-is a b c)

pub gains-and-of : (a b c : Plane) {m r : Plane} → m ≡ both ◌⊙◌ b c → r ≡ a ⊞ m → r ≡ gains_and a b c
gains-and-of a b c em er = er ∙ rw em (gains-and-is a b c)

pub gains-or-of : (a b c : Plane) {m r : Plane} → m ≡ both bit_or b c → r ≡ a ⊞ m → r ≡ gains_or a b c
gains-or-of a b c em er = er ∙ rw em (gains-or-is a b c)
