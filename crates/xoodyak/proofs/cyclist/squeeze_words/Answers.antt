-- The bytes written, then what the rest gives from the words now, are what the whole gives from the start.
use mathlib.Core.Path.{◌≡◌, sym, ap, ◌∙◌}
use Prim.Native.Nat.{◌+◌, ◌-◌, ◌<◌}
use native.Mathlib.Omega.{arith}
use lib.ListN.{length, take, drop}
use borrow.Rule.Slice.PartMut.{same_len_mid}
use Rattle.laws.proofs.Lists.{length-mid}
use Rattle.xoodoo.specs.Xoodoo.{to_bytes}
use Rattle.xoodyak.specs.Cyclist.{next, squeeze_more_end, squeeze_more_out}
use Rattle.xoodyak.specs.declared.cyclist.Phase.TheVariants.{Up}
use Rattle.xoodyak.proofs.BlockWords.{held, next-is}
use Rattle.xoodyak.proofs.Turns.{rate-pos, nexts-turn-end, nexts-turn-out, nexts-done-end, nexts-done-out}
use Rattle.xoodyak.proofs.cyclist.squeeze_words.Goals as goal

pub loop-i-preserved : goal.loop-i-preserved
loop-i-preserved c =
    let n = length c.args.out.now in
    let m = c.args.mode in
    let r = c.squeeze_rate-rate.result in
    let p : 0 < r = rw c.squeeze_rate-rate.ensures (rate-pos m) in
    let i = c.loop-i.i in
    let o = c.loop-i.out in
    let e = i + c.min.result in
    let b = c.write_front in
    let y = b.new.out in
    let s = to_bytes c.loop-i.v in
    let v = c.next_words-v in
    let t = to_bytes v.result in
    let et : held Up m t ≡ next (held Up m s) = ap (held Up m) v.ensures ∙ sym (next-is m s) in
    let ln : length o ≡ n = c.loop-i.invariant.1 in
    let lk : length (take (e - i) (drop i o)) ≡ e - i = length-mid i e o (omega arith) in
    let ey : y ≡ take (e - i) t = b.ensures ∙ ap (λ k. take k t) lk in
    let ly : length y ≡ e - i = b.auto.out ∙ lk in
    let h : i < n = c.loop-i-test.true in (
      omega arith,
      same_len_mid i (e - i) o y b.auto.out ∙ ln,
      nexts-turn-end r n i e o y (held Up m s) (held Up m t) p ln h (omega arith) et ey ly ∙ c.loop-i.invariant.2,
      nexts-turn-out r n i e o y (held Up m s) (held Up m t) p ln h (omega arith) et ey ly ∙ c.loop-i.invariant.3,
    )

pub returns : goal.returns
unfolding squeeze_more_end squeeze_more_out
returns c =
    rw (← c.squeeze_rate-rate.ensures)
    (record {
      value = sym (nexts-done-end _ _ _ _ c.loop-i-test.false) ∙ c.loop-i.invariant.2;
      out_after = sym (nexts-done-out _ _ _ _ _ c.loop-i-test.false c.loop-i.invariant.1) ∙ c.loop-i.invariant.3;
    })
