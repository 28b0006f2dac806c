-- In Hash the inverse permutation alone, in Keyed the colour at byte 47 besides.
use Rattle.laws.specs.Words.{◌⊕◌}
use Rattle.walkback.specs.Steps.{undoes, undo}
use Rattle.walkback.proofs.steps.Undo.up.Goals as goal

pub returns-in-Hash : goal.returns-in-Hash
unfolding undo undoes
returns-in-Hash c = rw (c.inverse_bytes.ensures, c.in-Hash.is)

pub returns-in-Keyed : goal.returns-in-Keyed
unfolding undo undoes ◌⊕◌
returns-in-Keyed c = rw (c.inverse_bytes.ensures, c.in-Keyed.is)
