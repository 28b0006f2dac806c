-- The first rate is the front of what Up leaves; the rest, where there is one, is squeeze_more into the tail.
use mathlib.Core.Path.{◌≡◌, refl, sym, ap, ◌∙◌}
use mathlib.Core.List.{◌++◌, append-nil}
use Prim.Native.Nat.{◌-◌, ◌≤◌, min}
use native.Mathlib.Omega.{arith}
use lib.ListN.{length, take, drop, length-append, length-drop, length-take}
use lib.Seq.{length-take-le}
use Rattle.laws.proofs.Blocks.{sizes-zero}
use Rattle.laws.proofs.Lists.{whole, put-front-tail}
use Rattle.xoodoo.specs.Xoodoo.{to_bytes, xoodoo}
use Rattle.xoodyak.specs.Cyclist.{squeeze_rate, up, up_bytes, nexts_out, squeeze_more_end, squeeze_more_out}
use Rattle.xoodyak.specs.declared.cyclist.Phase.TheVariants.{Up}
use Rattle.xoodyak.proofs.BlockWords.{held}
use Rattle.xoodyak.proofs.Turns.{nexts-done-end, squeeze-out-is, squeeze-end-is}
use Rattle.xoodyak.proofs.cyclist.Duplex.squeeze_any.Goals as goal

pub returns-then-k-n : goal.returns-then-k-n
unfolding squeeze_more_end squeeze_more_out nexts_out up up_bytes
returns-then-k-n c =
    let words = ap (held Up c.args.self.mode) (c.permute_words-v.ensures ∙ ap xoodoo c.coloured.ensures) in
    let f = c.write_front in
    let a = c.args in
    let n = length a.out.now in
    let k = c.min-k.result in
    let r = squeeze_rate a.self.mode in
    let t = held Up a.self.mode (to_bytes c.permute_words-v.result) in
    let e : k ≡ min r n = omega arith in
    let h : n ≤ k = omega arith in
    let z : n - k ≤ 0 = omega arith in
    let lk : length (take k a.out.now) ≡ k = length-take-le k a.out.now (omega arith) in
    let lf : length f.new.out ≡ k = f.auto.out ∙ lk in
    let ef : f.new.out ≡ take k t.st = f.ensures ∙ rw lk in
    let g : n ≤ length f.new.out = omega arith in
    let front : f.new.out ++ drop k a.out.now ≡ f.new.out = ap (λ j. f.new.out ++ drop j a.out.now) (sym lf) ∙ whole f.new.out a.out.now g in
    let none : take k t.st ++ squeeze_more_out t (n - k) ≡ take k t.st = rw (sizes-zero r (n - k) z) (append-nil _) in record { value = c.after_up.ensures ∙ sym (nexts-done-end r n k t h) ∙ squeeze-end-is a.self t n k (n - k) a.cu e refl words; out_after = front ∙ ef ∙ sym none ∙ squeeze-out-is a.self t n k (n - k) a.cu e refl words }

pub returns : goal.returns
unfolding up up_bytes
returns c =
    let words = ap (held Up c.args.self.mode) (c.permute_words-v.ensures ∙ ap xoodoo c.coloured.ensures) in
    let b = c.squeeze_words in
    let f = c.write_front in
    let a = c.args in
    let n = length a.out.now in
    let k = c.min-k.result in
    let m = a.self.mode in
    let t = held Up m (to_bytes c.permute_words-v.result) in
    let w = f.new.out ++ drop k a.out.now in
    let lk : length (take k a.out.now) ≡ k = length-take-le k a.out.now (omega arith) in
    let ef : f.new.out ≡ take k t.st = f.ensures ∙ rw lk in
    let lf : length f.new.out ≡ k = f.auto.out ∙ lk in
    let d = length (take (length w - k) (drop k w)) in
    let em : d ≡ n - k = simp (length-take, length-drop, length-append) (omega arith) in
    let e : k ≡ min (squeeze_rate m) n = omega arith in record {
      value = c.after_up-2.ensures ∙ b.ensures.value ∙ squeeze-end-is a.self t n k d a.cu e em words;
      out_after = put-front-tail k f.new.out a.out.now b.new.out lf
          ∙ rw (ef, b.ensures.out_after) (squeeze-out-is a.self t n k d a.cu e em words);
    }
