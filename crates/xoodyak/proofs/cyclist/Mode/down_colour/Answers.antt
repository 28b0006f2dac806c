-- In Hash the colour's last bit alone.
use Rattle.laws.specs.Words.{◌⊙◌}
use Rattle.xoodyak.proofs.cyclist.Mode.down_colour.Goals as goal

pub returns-in-Hash : goal.returns-in-Hash
unfolding ◌⊙◌
returns-in-Hash c = rw c.in-Hash.is
