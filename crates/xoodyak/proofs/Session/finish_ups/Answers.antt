-- The end's permutations, at most one, and one more.
use native.Mathlib.Omega.{arith}
use Rattle.xoodyak.specs.Feed.{finish_ups}
use Rattle.xoodyak.proofs.Feeding.{ups-few}
use Rattle.xoodyak.proofs.Session.finish_ups.Goals as goal

pub overflow_add-result : goal.overflow_add-result
overflow_add-result c = omega (arith, c.end_ups.ensures, ups-few c.args.self.rule c.args.self.message.place)

pub returns : goal.returns
unfolding finish_ups
returns c = rw c.end_ups.ensures
