-- Refused with a fresh Hash session where the lengths are too much; otherwise the key call on a fresh Keyed one.
use Rattle.xoodyak.specs.Calls.{answer_of, new_of}
use Rattle.xoodyak.proofs.Costs.{call-parts, share-parts, parts-fit}
use Rattle.xoodyak.proofs.Settle.{answer-taken, answer-refused, key_fits}
use Rattle.xoodyak.proofs.Session.new.Goals as goal

pub returns-in-Err : goal.returns-in-Err
unfolding new_of
returns-in-Err c = rw (← c.or_empty-i.ensures, ← c.or_empty-m.ensures, ← c.hash-unkeyed.ensures) (answer-refused answer_of _ _ c.in-Err.ensures c.refused.ensures)

pub invariant_of-parts : goal.invariant_of-parts
invariant_of-parts c =
    record { fits = parts-fit c.args.key.now c.args.has_id c.or_empty-i.result c.or_empty-m.result c.choose.ensures c.then_some.ensures (key_fits _ _ _ c.in_default.ensures.0) }

pub returns : goal.returns
unfolding new_of
returns c =
    let a = c.args in
    let called = call-parts a.key.now a.has_id c.or_empty-i.result c.or_empty-m.result a.has_counter a.counter c.choose.ensures c.then_some.ensures c.then_some-2.ensures c.fresh-d.result c.key_call.result c.key_call.ensures in
    let share = share-parts a.key.now a.has_id c.or_empty-i.result c.or_empty-m.result a.has_counter a.counter c.choose.ensures c.then_some.ensures c.then_some-2.ensures c.fresh-d.result c.key_share.result c.key_share.ensures in
    rw (← c.or_empty-i.ensures, ← c.or_empty-m.ensures, ← c.hash-unkeyed.ensures)
    (answer-taken answer_of c.in_default.ensures.0 _ _ _ (rw (c.paid.ensures, share, c.onward.ensures, called, c.fresh-d.ensures, c.hash-unkeyed.ensures)))
