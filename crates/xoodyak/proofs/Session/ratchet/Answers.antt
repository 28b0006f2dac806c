-- Refused in Hash; in Keyed the state is ratcheted.
use Rattle.xoodyak.specs.Calls.{answer_of, ratchet_of}
use Rattle.xoodyak.proofs.Settle.{answer-taken, answer-refused, keyed-mode}
use Rattle.xoodyak.proofs.Costs.{ratchet-share}
use Rattle.xoodyak.proofs.Session.ratchet.Goals as goal

pub returns-in-Err : goal.returns-in-Err
unfolding ratchet_of
returns-in-Err c = answer-refused answer_of _ _ c.in-Err.ensures c.refused.ensures

pub returns : goal.returns
unfolding ratchet_of
returns c =
    let z = c.in_default.ensures.0 in
    answer-taken answer_of z _ _ _
    (rw (c.paid.ensures, c.onward.ensures, c.ratchet.ensures, ratchet-share c.args.self.duplex (keyed-mode c.args.self z)))
