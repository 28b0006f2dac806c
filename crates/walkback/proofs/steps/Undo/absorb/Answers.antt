-- The later blocks were absorbed last, so they are undone first; then the first block, and then the Up before it.
use native.Mathlib.Omega.{arith}
use Rattle.walkback.proofs.Undoing.{absorb-undone}
use Rattle.walkback.proofs.steps.Undo.absorb.Goals as goal

pub returns : goal.returns
returns c =
    let a = c.args in
    absorb-undone a.phase a.rate c.min.result a.cd a.bin.now a.self.now c.blocks-2.new.self c.down.new.self c.ready.new.self (omega arith) (omega arith)
    (rw (← c.split_at.ensures.back) c.blocks-2.ensures)
    (rw (← c.split_at.ensures.front) c.down.ensures)
    c.ready.ensures
