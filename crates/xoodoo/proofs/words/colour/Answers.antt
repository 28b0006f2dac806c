-- The highest byte of the last word gains it.
use mathlib.Core.Path.{ap}
use mathlib.Core.List.{◌++◌}
use borrow.Author.Rules.{rules}
use Rattle.laws.specs.Words.{◌⊕◌}
use Rattle.xoodoo.specs.Xoodoo.{word_bytes, plane_bytes, to_bytes}
use Rattle.xoodoo.proofs.WordBytes.{high_byte}
use Rattle.xoodoo.proofs.words.colour.Goals as goal

pub returns : goal.returns
unfolding to_bytes plane_bytes word_bytes ◌⊕◌
returns c =
    let s = c.args.s in
    let before = plane_bytes s.p0 ++ plane_bytes s.p1 ++ word_bytes s.p2.x0 ++ word_bytes s.p2.x1 ++ word_bytes s.p2.x2 in
    ap (λ l. before ++ l) (high_byte s.p2.x3 c.args.cu (search rules))
