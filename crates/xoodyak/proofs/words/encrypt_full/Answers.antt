-- What is added to the state leaves the ciphertext at its front.
use mathlib.Core.Path.{refl}
use Prim.Native.Nat.{◌≤◌}
use native.Mathlib.Omega.{arith}
use Rattle.xoodoo.proofs.Bytes.{to-bytes}
use Rattle.xoodyak.proofs.BlockWords.{met-out}
use Rattle.xoodyak.proofs.words.encrypt_full.Goals as goal

pub returns-clause-buf_after : goal.returns-clause-buf_after
returns-clause-buf_after g c =
    let h : g.B.Block.SIZE ≤ 48 = omega (arith, g.met.B.Block.fits) in
    met-out c.requires c.get.ensures refl c.add-u.ensures (to-bytes c.args.v).size h c.front.ensures c.put.ensures
