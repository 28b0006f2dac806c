-- What is spent and written, then what the rest gives from where it stands, is what the whole gives from the start.
use mathlib.Core.Path.{◌≡◌}
use Prim.Native.Nat.{◌-◌, ◌<◌, ◌≤◌}
use lib.ListN.{length, take, drop}
use Rattle.xoodyak.specs.Feed.{feed}
use Rattle.xoodyak.proofs.Feeding.{past}
use Rattle.xoodyak.proofs.cyclist.Duplex.feed.Given as goal

abbrev pub invariant-runs : goal.invariant-runs
invariant-runs l =
    let at = l.at in
    (at.taken ≤ length l.piece)
    × (length l.out ≡ length l.initial.out)
    × (at.spent ≤ l.allowance)
    × (at.place < 256)
    × (drop at.taken l.out ≡ drop at.taken l.initial.out)
    × (past at.spent (take at.taken l.out) (feed l.kind (l.allowance - at.spent) at.place at.duplex (drop at.taken l.piece)) ≡ feed l.kind l.allowance l.fn.place l.fn.self l.piece)

abbrev pub decreases-runs : goal.decreases-runs
decreases-runs l = length l.piece - l.at.taken
