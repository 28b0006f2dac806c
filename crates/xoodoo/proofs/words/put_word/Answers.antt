-- The word's four bytes, copied as a run.
use mathlib.Core.Path.{◌≡◌, refl, sym, ◌∙◌}
use Prim.Native.Nat.{◌+◌}
use native.Mathlib.Omega.{arith}
use Rattle.xoodoo.specs.Xoodoo.{word_bytes}
use Rattle.xoodoo.proofs.Bytes.{put-sets}
use Rattle.xoodoo.proofs.BlockBytes.{bytes_of}
use Rattle.xoodoo.proofs.words.put_word.Goals as goal

pub returns : goal.returns
unfolding word_bytes
returns c =
    let a = c.args in
    let e : c.copy_from_slice.new.self ≡ word_bytes a.w = c.copy_from_slice.ensures.after ∙ c.to_le_bytes.ensures ∙ sym (bytes_of a.w) in
    rw e (put-sets a.b.now (word_bytes a.w) a.at (a.at + 4) refl (omega (arith, c.told-b, c.requires)))
