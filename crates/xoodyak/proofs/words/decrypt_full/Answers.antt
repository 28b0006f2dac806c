-- What the block's words give with the state's is the plaintext, and is added to the state.
use mathlib.Core.Path.{refl}
use Prim.Native.Nat.{◌≤◌}
use native.Mathlib.Omega.{arith}
use Rattle.xoodoo.proofs.Bytes.{to-bytes}
use Rattle.xoodyak.proofs.BlockWords.{decrypted-end, met-out}
use Rattle.xoodyak.proofs.words.decrypt_full.Goals as goal

pub returns : goal.returns
returns g c =
    let h : g.B.Block.SIZE ≤ 48 = omega (arith, g.met.B.Block.fits) in
    let n = (to-bytes c.args.v).size in record {
      result_value = decrypted-end c.requires c.get.ensures refl c.add.ensures n h c.front-m.ensures c.add-2.ensures c.pad.ensures;
      buf_after = met-out c.requires c.get.ensures refl c.add.ensures n h c.front-m.ensures c.put.ensures;
    }
