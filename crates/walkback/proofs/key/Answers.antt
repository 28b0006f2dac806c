-- Refused in Hash, or by its lengths; otherwise its steps are undone with absent arguments empty.
use mathlib.Core.Path.{◌∙◌, ap}
use Rattle.xoodyak.proofs.Costs.{parts-fit}
use Rattle.xoodyak.proofs.Settle.{second-zero, key_fits}
use Rattle.walkback.specs.Walk.{keys, call_number, steps}
use Rattle.walkback.specs.Steps.{undone}
use Rattle.walkback.proofs.Undoing.{key-parts}
use Rattle.walkback.proofs.Settling.{before-taken, before-refused}
use Rattle.walkback.proofs.key.Goals as goal

pub returns-in-Err : goal.returns-in-Err
unfolding call_number
returns-in-Err c =
    let a = c.args in
    before-refused a.rule a.mode a.phase (keys a.key.now a.has_id a.id.now a.has_nonce a.nonce.now a.has_counter a.counter.now) a.st _ _
    (rw (← c.or_empty-i.ensures, ← c.or_empty-m.ensures) c.in-Err.ensures.0)
    c.refused.ensures

pub invariant_of-parts : goal.invariant_of-parts
invariant_of-parts c =
    record { fits = parts-fit c.args.key.now c.args.has_id c.or_empty-i.result c.or_empty-m.result c.choose.ensures c.then_some.ensures (key_fits _ _ _ (second-zero _ _ c.in_default.ensures.0)) }

pub returns : goal.returns
unfolding call_number steps
returns c =
    let a = c.args in
    let parts = key-parts a.phase a.key.now a.has_id c.or_empty-i.result c.or_empty-m.result a.has_counter a.counter c.choose.ensures c.then_some.ensures c.then_some-2.ensures in
    before-taken a.rule a.mode a.phase (keys a.key.now a.has_id a.id.now a.has_nonce a.nonce.now a.has_counter a.counter.now) a.st _ c.key.new.self
    (rw (← c.or_empty-i.ensures, ← c.or_empty-m.ensures) c.in_default.ensures.0)
    (rw (← c.or_empty-i.ensures, ← c.or_empty-m.ensures) (c.key.ensures ∙ ap (λ ss. undone ss (record { st = a.st; mode = a.mode })) parts))
    c.accepted.ensures
