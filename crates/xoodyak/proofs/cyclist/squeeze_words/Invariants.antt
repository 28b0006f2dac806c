-- The bytes written, then what the rest gives from the words now, are what the whole gives from the start.
use mathlib.Core.Path.{◌≡◌}
use mathlib.Core.List.{◌++◌}
use Prim.Native.Nat.{◌-◌, ◌≤◌}
use lib.ListN.{length, take}
use Rattle.laws.specs.Blocks.{sizes}
use Rattle.xoodoo.specs.Xoodoo.{to_bytes}
use Rattle.xoodyak.specs.Cyclist.{nexts_end, nexts_out}
use Rattle.xoodyak.specs.declared.cyclist.Phase.TheVariants.{Up}
use Rattle.xoodyak.proofs.BlockWords.{held}
use Rattle.xoodyak.proofs.cyclist.squeeze_words.Given as goal

abbrev pub invariant-loop-i : goal.invariant-loop-i
invariant-loop-i l =
    let all = sizes l.rate (length l.initial.out) in
    let left = sizes l.rate (length l.initial.out - l.i) in
    let start = held Up l.fn.mode (to_bytes l.initial.v) in
    let now = held Up l.fn.mode (to_bytes l.v) in
    (l.i ≤ length l.initial.out) × (length l.out ≡ length l.initial.out)
    × (nexts_end left now ≡ nexts_end all start)
    × (take l.i l.out ++ nexts_out left now ≡ nexts_out all start)

abbrev pub decreases-loop-i : goal.decreases-loop-i
decreases-loop-i l = length l.initial.out - l.i
