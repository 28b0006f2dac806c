-- The library's rotation is `rotl` where the turn is below 32 and not 0.
use mathlib.Core.Path.{◌≡◌, ◌∙◌}
use Prim.Native.Nat.{ℕ, ◌%◌, ◌-◌, ◌<◌}
use native.Mathlib.Omega.{arith}
use mir.Syntax.{w32}
use borrow.Author.Rules.{rules}
use Rattle.std.specs.Int.{rotate_left}
use Rattle.laws.specs.Words.{rotl}
use Rattle.xoodoo.specs.Xoodoo.{each}
use Rattle.xoodoo.proofs.Planes.{plane≡}
use Rattle.xoodoo.proofs.round.Plane.rotate_left.Goals as goal

rotate-is : (k w : ℕ) → (0 < k) × (k < 32) → rotate_left w32 w k ≡ rotl k w
unfolding rotl
rotate-is k w h =
    let e : k % 32 ≡ k = omega arith in
    let d : (32 - k) % 32 ≡ 32 - k = omega arith in
    rw (e, d)

pub returns : goal.returns
returns c =
    let p = c.args.self in
    let q : c.map.result ≡ each (λ w. rotate_left w32 w c.args.k) p = search rules in
    let r : (w : ℕ) → rotate_left w32 w c.args.k ≡ rotl c.args.k w = λ w. rotate-is c.args.k w c.requires in
    q ∙ plane≡ (r p.x0) (r p.x1) (r p.x2) (r p.x3)
