-- What is left of the input, absorbed from the words now, gives what the whole gives from the start.
use mathlib.Core.Path.{◌≡◌}
use Rattle.std.specs.Slice.Iter.{chunks_rest, chunks_size}
use Rattle.laws.specs.Blocks.{cuts}
use Rattle.xoodoo.specs.Xoodoo.{to_bytes}
use Rattle.xoodyak.specs.Cyclist.{more_blocks}
use Rattle.xoodyak.specs.declared.cyclist.Phase.TheVariants.{Down}
use Rattle.xoodyak.proofs.BlockWords.{held}
use Rattle.xoodyak.proofs.cyclist.Duplex.absorb_more.Given as goal

abbrev pub invariant-loop-block : goal.invariant-loop-block
invariant-loop-block l =
    let m = l.fn.self.mode in
    (chunks_size l.block-iterator ≡ l.rate)
    × (more_blocks (cuts l.rate (chunks_rest l.block-iterator)) (held Down m (to_bytes l.v)) ≡ more_blocks (cuts l.rate l.bin) (held Down m (to_bytes l.initial.v)))
