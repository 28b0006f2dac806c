-- The shares of the three absorbs, of which none wraps: key, t and the nonce are short, and the counter's is far below the limit.
use native.Mathlib.Omega.{arith}
use lib.ListN.{length}
use Prim.Native.Nat.{◌+◌}
use Rattle.xoodyak.proofs.Costs.{share-le, given-le}
use Rattle.xoodyak.proofs.cyclist.Duplex.key_share.Goals as goal

pub overflow_add-result-2 : goal.overflow_add-result-2
overflow_add-result-2 c =
    let a = c.args in
    omega (arith, a.parts.fits, c.given_share-c.ensures.1, c.given_share-b.ensures.0, given-le 44 a.parts.nonce, c.absorb_share-a.ensures, share-le a.self.phase 44 (length a.parts.key.now + (length a.parts.t.now + 1)))
