-- Adding words adds their bytes.
use mathlib.Core.Path.{ap₂, ◌∙◌}
use mathlib.Core.List.{[], ◌∷◌, ◌++◌}
use Rattle.laws.specs.Words.{◌⊕◌}
use Rattle.xoodoo.specs.Xoodoo.{◌⊞◌, word_bytes, plane_bytes, to_bytes}
use Rattle.xoodoo.specs.Words.{eleven_bytes}
use Rattle.xoodoo.specs.declared.round.Plane.{Plane}
use Rattle.xoodoo.proofs.WordBytes.{words_bytes, words-⊕, row, twelve}
use Rattle.xoodoo.proofs.words.ElevenBlock.add.Goals as goal

pub returns : goal.returns
unfolding to_bytes plane_bytes eleven_bytes words_bytes word_bytes row twelve ◌⊞◌ ◌⊕◌
returns c =
    let s = c.args.s in
    let x = c.args.self in
    let last : Plane = record { x0 = s.p2.x0 ⊕ x.x0; x1 = s.p2.x1 ⊕ x.x1; x2 = s.p2.x2 ⊕ x.x2; x3 = s.p2.x3 } in
    ap₂ (λ (p q : Plane). to_bytes (record { p0 = p; p1 = q; p2 = last })) c.bitxor.ensures c.bitxor-2.ensures
    ∙ words-⊕ (twelve s) (row x.p0 ++ row x.p1 ++ x.x0 ∷ x.x1 ∷ x.x2 ∷ [])
