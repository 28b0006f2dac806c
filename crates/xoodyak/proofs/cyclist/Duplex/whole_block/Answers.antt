-- The words before the Up are those of the block's beginning, and what meets the permuted ones is the run of 24 bytes.
use mathlib.Core.Path.{◌≡◌, ap, refl, ap₂, ◌∙◌}
use Prim.Native.Nat.{◌≤◌}
use lib.Dec.{lit≤}
use lib.ListN.{length}
use Rattle.laws.specs.Lists.{add_front}
use Rattle.xoodoo.specs.Xoodoo.{to_bytes, xoodoo}
use Rattle.xoodoo.proofs.Bytes.{to-bytes}
use Rattle.xoodoo.proofs.Inverse.{xoodoo-length}
use Rattle.xoodyak.proofs.BlockWords.{met-out}
use Rattle.xoodyak.proofs.Runs.{text, whole-end, whole_out}
use Rattle.xoodyak.proofs.cyclist.Duplex.whole_block.Goals as goal
use Rattle.xoodyak.proofs.cyclist.Duplex.whole_block.Goals.{in-Seal, in-Open}

pub returns : goal.returns
returns c =
    let met = met-out c.requires.1 c.get-x.ensures c.permute_words-v.ensures c.add-u.ensures (to-bytes _).size (lit≤ tt) c.front-y.ensures refl in
    let w = c.before_block in
    let s = xoodoo (to_bytes w.result) in
    let l : length c.args.piece.now ≤ length s = rw (xoodoo-length, c.requires.1) (lit≤ tt) in
    let e : to_bytes c.match-kind.after ≡ add_front s (text c.args.kind c.args.piece.now s) = elim c.match-kind.branch [
      | in-Seal k ↦ ap to_bytes k.after-is ∙ c.add-u.ensures ∙ ap₂ add_front c.permute_words-v.ensures (c.get-x.ensures ∙ rw k.in-Seal.is)
      | in-Open k ↦ ap to_bytes k.after-is ∙ k.add-after.ensures ∙ ap₂ add_front c.permute_words-v.ensures (met ∙ rw k.in-Open.is)
    ] in
    record { value = c.after_up.ensures ∙ whole-end _ _ _ _ _ w.ensures l e; out_after = whole_out _ _ _ _ _ w.ensures l (c.put.ensures ∙ met) }
