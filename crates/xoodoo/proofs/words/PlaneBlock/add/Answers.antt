-- Adding words adds their bytes.
use mathlib.Core.Path.{ap, ◌∙◌}
use Rattle.xoodoo.specs.Xoodoo.{◌⊞◌, word_bytes, plane_bytes, to_bytes}
use Rattle.xoodoo.specs.declared.round.Plane.{Plane}
use Rattle.xoodoo.proofs.WordBytes.{words_bytes, words-⊕, row, twelve}
use Rattle.xoodoo.proofs.words.PlaneBlock.add.Goals as goal

pub returns : goal.returns
unfolding to_bytes plane_bytes words_bytes word_bytes row twelve ◌⊞◌
returns c =
    let o = c.args in
    ap (λ (p : Plane). to_bytes (record { p0 = p; p1 = o.s.p1; p2 = o.s.p2 })) c.bitxor.ensures
    ∙ words-⊕ (twelve o.s) (row o.self)
