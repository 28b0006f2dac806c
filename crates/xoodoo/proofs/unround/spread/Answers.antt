-- The definition, plane by plane.
use mathlib.Core.Path.{ap₂, ◌∙◌}
use Rattle.xoodoo.specs.Xoodoo.{◌⊞◌, spread}
use Rattle.xoodoo.proofs.unround.spread.Goals as goal

pub returns : goal.returns
unfolding spread
returns c = c.bitxor.ensures ∙ ap₂ ◌⊞◌ c.rotate_left.ensures c.rotate_left-2.ensures
