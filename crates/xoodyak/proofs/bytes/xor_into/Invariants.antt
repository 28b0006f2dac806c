-- After i turns the front i bytes of src are added to dst; a turn adds one byte more.
use mathlib.Core.Path.{◌≡◌}
use Prim.Native.Nat.{◌-◌, ◌≤◌}
use lib.ListN.{length, take}
use Rattle.laws.specs.Lists.{add_front}
use Rattle.xoodyak.proofs.bytes.xor_into.Given as goal

abbrev pub invariant-loop-i : goal.invariant-loop-i
invariant-loop-i l = (l.i ≤ length l.src) × (l.dst ≡ add_front l.initial.dst (take l.i l.src)) × (length l.dst ≡ length l.initial.dst)

abbrev pub decreases-loop-i : goal.decreases-loop-i
decreases-loop-i l = length l.src - l.i
