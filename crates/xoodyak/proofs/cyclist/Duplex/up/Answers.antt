-- In Keyed byte 47 gains the colour; the permutation's promise is the rest.
use mathlib.Core.Path.{ap, ◌∙◌}
use Rattle.laws.specs.Words.{◌⊕◌}
use Rattle.xoodoo.specs.Xoodoo.{xoodoo}
use Rattle.xoodyak.specs.Cyclist.{up, up_bytes}
use Rattle.xoodyak.specs.declared.cyclist.Phase.TheVariants.{Up}
use Rattle.xoodyak.proofs.BlockWords.{held}
use Rattle.xoodyak.proofs.cyclist.Duplex.up.Goals as goal
use Rattle.xoodyak.proofs.cyclist.Duplex.up.Goals.{in-Keyed, in_default}

pub returns : goal.returns
unfolding up up_bytes ◌⊕◌
returns c =
    ap (held Up c.args.self.mode)
    (c.permute_bytes.ensures
    ∙ ap xoodoo (elim c.match-mode.branch [ in-Keyed w ↦ w.st-is ∙ rw w.in-Keyed.is | in_default w ↦ w.st-is ∙ rw w.in_default.is ]))
