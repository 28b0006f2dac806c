-- States as the quick forms of the rounds hold them on the way: with all words rotated, with planes complemented. No promise to another
-- crate names them.
use Rattle.std.specs.Prelude.{ℕ}
use Rattle.std.specs.Int.Bits.{bit_or}
use Rattle.laws.specs.Words.{◌⊕◌, ◌⊙◌, not32, rotl}
use Rattle.xoodoo.specs.Xoodoo.{each}
use Rattle.xoodoo.specs.declared.round.Plane.{Plane}
use Rattle.xoodoo.specs.declared.round.State.{State}

-- f of each word of the one plane and the other's in its column
abbrev pub both : (ℕ → ℕ → ℕ) → Plane → Plane → Plane
both f p q = record { x0 = f p.x0 q.x0; x1 = f p.x1 q.x1; x2 = f p.x2 q.x2; x3 = f p.x3 q.x3 }

unfoldable pub turned : ℕ → State → State
turned k s = record { p0 = each (rotl k) s.p0; p1 = each (rotl k) s.p1; p2 = each (rotl k) s.p2 }

-- plane 0 complemented, and planes 0 and 1
unfoldable pub not_one : State → State
not_one s = record { p0 = each not32 s.p0; p1 = s.p1; p2 = s.p2 }

unfoldable pub not_two : State → State
not_two s = record { p0 = each not32 s.p0; p1 = each not32 s.p1; p2 = s.p2 }

-- a gains b and c; a gains b or c
unfoldable pub gains_and : Plane → Plane → Plane → Plane
gains_and a b c = record { x0 = a.x0 ⊕ b.x0 ⊙ c.x0; x1 = a.x1 ⊕ b.x1 ⊙ c.x1; x2 = a.x2 ⊕ b.x2 ⊙ c.x2; x3 = a.x3 ⊕ b.x3 ⊙ c.x3 }

unfoldable pub gains_or : Plane → Plane → Plane → Plane
gains_or a b c =
    record {
      x0 = a.x0 ⊕ bit_or b.x0 c.x0;
      x1 = a.x1 ⊕ bit_or b.x1 c.x1;
      x2 = a.x2 ⊕ bit_or b.x2 c.x2;
      x3 = a.x3 ⊕ bit_or b.x3 c.x3;
    }
