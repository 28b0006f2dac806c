-- One more than the message.
use native.Mathlib.Omega.{arith}
use Rattle.xoodyak.specs.Shares.{seal_share}
use Rattle.xoodyak.proofs.Costs.{message-fits}
use borrow.Author.Rules.{rules}
use Rattle.xoodyak.proofs.Session.seal_share.Goals as goal

pub overflow_add-result : goal.overflow_add-result
overflow_add-result c = omega (arith, c.message_share.ensures, message-fits c.args.self.rule c.args.n (search rules))

pub returns : goal.returns
unfolding seal_share
returns c = rw c.message_share.ensures
