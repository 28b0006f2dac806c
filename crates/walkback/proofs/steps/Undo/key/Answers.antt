-- Counter, nonce and key were absorbed in the other order; key, t and the length of t make one run.
use Rattle.walkback.proofs.Undoing.{append-undone}
use Rattle.walkback.proofs.steps.Undo.key.Goals as goal

pub returns : goal.returns
returns c =
    append-undone _ _ _ _ _ (append-undone _ _ _ _ _ c.absorb_given.ensures c.absorb_given-2.ensures)
    (rw (← c.write_key-n.ensures.1) c.absorb.ensures)
