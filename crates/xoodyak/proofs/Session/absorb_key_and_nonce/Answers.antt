-- Refused in Hash, or where the lengths are too much; otherwise the key call on the session.
use Rattle.xoodyak.specs.Calls.{answer_of, key_of}
use Rattle.xoodyak.proofs.Costs.{call-parts, share-parts, parts-fit}
use Rattle.xoodyak.proofs.Settle.{answer-taken, answer-refused, second-zero, key_fits}
use Rattle.xoodyak.proofs.Session.absorb_key_and_nonce.Goals as goal

pub returns-in-Err : goal.returns-in-Err
unfolding key_of
returns-in-Err c = rw (← c.or_empty-i.ensures, ← c.or_empty-m.ensures) (answer-refused answer_of _ _ c.in-Err.ensures c.refused.ensures)

pub invariant_of-parts : goal.invariant_of-parts
invariant_of-parts c =
    record { fits = parts-fit c.args.key.now c.args.has_id c.or_empty-i.result c.or_empty-m.result c.choose.ensures c.then_some.ensures (key_fits _ _ _ (second-zero _ _ c.in_default.ensures.0)) }

pub returns : goal.returns
unfolding key_of
returns c =
    let a = c.args in
    let called = call-parts a.key.now a.has_id c.or_empty-i.result c.or_empty-m.result a.has_counter a.counter c.choose.ensures c.then_some.ensures c.then_some-2.ensures a.self.duplex c.key_call.result c.key_call.ensures in
    let share = share-parts a.key.now a.has_id c.or_empty-i.result c.or_empty-m.result a.has_counter a.counter c.choose.ensures c.then_some.ensures c.then_some-2.ensures a.self.duplex c.key_share.result c.key_share.ensures in
    rw (← c.or_empty-i.ensures, ← c.or_empty-m.ensures)
    (answer-taken answer_of c.in_default.ensures.0 _ _ _ (rw (c.paid.ensures, share, c.onward.ensures, called)))
