-- The blocks written, then what the rest gives from the words now, are what the whole gives from the start.
use mathlib.Core.Path.{◌≡◌}
use mathlib.Core.List.{◌++◌}
use Prim.Native.Nat.{◌-◌, ◌≤◌}
use lib.ListN.{length, take, drop}
use Rattle.laws.specs.Blocks.{cuts}
use Rattle.xoodoo.specs.Xoodoo.{to_bytes}
use Rattle.xoodyak.specs.Cyclist.{enc_end, enc_out}
use Rattle.xoodyak.specs.declared.cyclist.Phase.TheVariants.{Down}
use Rattle.xoodyak.proofs.BlockWords.{held}
use Rattle.xoodyak.proofs.cyclist.Duplex.encrypt_blocks.Given as goal

abbrev pub invariant-loop-i : goal.invariant-loop-i
invariant-loop-i l =
    (l.i ≤ length l.initial.buf) × (length l.buf ≡ length l.initial.buf)
    × (enc_end (cuts 24 (drop l.i l.buf)) 0 (held Down l.fn.self.mode (to_bytes l.v)) ≡ enc_end (cuts 24 l.initial.buf) 0 (held Down l.fn.self.mode (to_bytes l.initial.v)))
    × (take l.i l.buf ++ enc_out (cuts 24 (drop l.i l.buf)) 0 (held Down l.fn.self.mode (to_bytes l.v)) ≡ enc_out (cuts 24 l.initial.buf) 0 (held Down l.fn.self.mode (to_bytes l.initial.v)))

abbrev pub decreases-loop-i : goal.decreases-loop-i
decreases-loop-i l = length l.initial.buf - l.i
