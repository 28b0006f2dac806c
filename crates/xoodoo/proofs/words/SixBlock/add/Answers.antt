-- Adding words adds their bytes.
use mathlib.Core.List.{[], ◌∷◌}
use Rattle.laws.specs.Words.{◌⊕◌}
use Rattle.xoodoo.specs.Xoodoo.{word_bytes, plane_bytes, to_bytes}
use Rattle.xoodoo.specs.Words.{six_bytes}
use Rattle.xoodoo.proofs.WordBytes.{words_bytes, words-⊕, row, twelve}
use Rattle.xoodoo.proofs.words.SixBlock.add.Goals as goal

pub returns : goal.returns
unfolding to_bytes plane_bytes six_bytes words_bytes word_bytes row twelve ◌⊕◌
returns c =
    let x = c.args.self in words-⊕ (twelve c.args.s) (x.x0 ∷ x.x1 ∷ x.x2 ∷ x.x3 ∷ x.x4 ∷ x.x5 ∷ [])
