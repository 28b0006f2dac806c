-- The word's four bytes, copied as a run.
use mathlib.Core.Path.{◌≡◌, sym, ap, ◌∙◌}
use Prim.Native.Nat.{◌+◌}
use Rattle.xoodoo.specs.Xoodoo.{word_bytes}
use Rattle.xoodoo.proofs.BlockBytes.{bytes_of}
use Rattle.xoodoo.proofs.Bytes.{word_size}
use Rattle.xoodyak.proofs.BlockWords.{put-sets}
use Rattle.xoodyak.proofs.words.put4.Goals as goal

pub returns : goal.returns
returns c =
    let a = c.args in
    let e : c.copy_from_slice.new.self ≡ word_bytes a.w = c.copy_from_slice.ensures.after ∙ c.to_le_bytes.ensures ∙ sym (bytes_of a.w) in
    rw e (put-sets a.b.now (word_bytes a.w) a.at (a.at + 4) (ap (λ k. a.at + k) (sym (word_size a.w))) c.requires)
