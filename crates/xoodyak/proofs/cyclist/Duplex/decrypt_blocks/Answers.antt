-- The blocks written, then what the rest gives from the words now, are what the whole gives from the start.
use mathlib.Core.Path.{◌≡◌, sym, ap, ◌∙◌}
use mathlib.Core.List.{◌++◌}
use Prim.Native.Nat.{◌+◌, ◌-◌, ◌≤◌, ◌<◌, min}
use native.Mathlib.Omega.{arith}
use lib.ListN.{length, take, drop}
use borrow.Rule.Slice.PartMut.{put_mid, same_len_mid}
use Rattle.laws.specs.Blocks.{cuts}
use Rattle.laws.proofs.Lists.{length-mid}
use Rattle.laws.specs.Lists.{add_front, add_at}
use Rattle.xoodoo.specs.Xoodoo.{to_bytes, xoodoo}
use Rattle.xoodyak.specs.Cyclist.{dec_end, dec_out}
use Rattle.xoodyak.specs.declared.cyclist.Phase.TheVariants.{Down}
use Rattle.xoodyak.proofs.BlockWords.{held}
use Rattle.xoodyak.proofs.Turns.{crypt-start-end, crypt-start-out, crypt-turn-end, crypt-turn-out, crypt-done-end, crypt-done-out, decrypts}
use Rattle.xoodyak.proofs.cyclist.Duplex.decrypt_blocks.Goals as goal
use Rattle.xoodyak.proofs.cyclist.Duplex.decrypt_blocks.Goals.{then-i-n, else-i-n}

pub returns-then-n-eq0 : goal.returns-then-n-eq0
returns-then-n-eq0 c =
    let a = c.args in
    let h : length a.buf.now ≤ 0 = omega arith in
    record { value = sym (crypt-done-end decrypts 0 128 a.buf.now a.self h); buf_after = sym (crypt-done-out decrypts 0 128 a.buf.now a.self h) }

pub loop-i-preserved : goal.loop-i-preserved
loop-i-preserved c =
    let f = c.decrypt_full-v in
    let i = c.loop-i.i in
    let x = c.loop-i.buf in
    let y = f.new.buf in
    let e = i + 24 in
    let h : i < length x = omega arith in
    let q : e ≡ i + min 24 (length x - i) = omega arith in
    let m = c.args.self.mode in
    let s = to_bytes c.loop-i.v in
    let t = to_bytes f.result in
    let b = take (e - i) (drop i x) in
    let l : length b ≡ 24 = length-mid i e x (omega arith) ∙ omega arith in
    let p = c.permute_words.ensures in
    let ey : y ≡ add_front b (xoodoo s) = rw (← p) f.ensures.buf_after in
    let et : t ≡ add_at (add_front (xoodoo s) (add_front b (xoodoo s))) (length b) 1 = rw (l, ← p) f.ensures.result_value in (
      omega arith,
      same_len_mid i (e - i) x y f.auto.buf ∙ c.loop-i.invariant.1,
      crypt-turn-end decrypts m i e x y s t h q et ey ∙ c.loop-i.invariant.2,
      crypt-turn-out decrypts m i e x y s t h q et ey ∙ c.loop-i.invariant.3,
    )

pub returns : goal.returns
returns c =
    let ends : (held Down c.args.self.mode (to_bytes c.if-i-n.v) ≡ dec_end (cuts 24 (drop c.loop-i.i c.loop-i.buf)) 0 (held Down c.args.self.mode (to_bytes c.loop-i.v))) × (c.if-i-n.buf ≡ take c.loop-i.i c.loop-i.buf ++ dec_out (cuts 24 (drop c.loop-i.i c.loop-i.buf)) 0 (held Down c.args.self.mode (to_bytes c.loop-i.v))) = let m = c.args.self.mode in
    let i = c.loop-i.i in
    let x = c.loop-i.buf in
    let s = to_bytes c.loop-i.v in
    let n = length c.args.buf.now in
    elim c.if-i-n.branch [
      | then-i-n w ↦
          let b = w.decrypt_block-v in
          let y = b.new.buf in
          let z = put_mid i (n - i) x y in
          let t = to_bytes b.result in
          let h : i < length x = omega arith in
          let q : n ≡ i + min 24 (length x - i) = omega arith in
          let k : length z ≡ length x = same_len_mid i (n - i) x y b.auto.buf in
          let g : length z ≤ n = omega arith in (
            ap (λ v. held Down m (to_bytes v)) w.v-is ∙ sym (crypt-done-end decrypts n 0 z (held Down m t) g)
                ∙ crypt-turn-end decrypts m i n x y s t h q b.ensures.result_value b.ensures.buf_after,
            w.buf-is ∙ sym (crypt-done-out decrypts n 0 z (held Down m t) g)
                ∙ crypt-turn-out decrypts m i n x y s t h q b.ensures.result_value b.ensures.buf_after,
          )
      | else-i-n w ↦
          let g : length x ≤ i = omega arith in (
            ap (λ v. held Down m (to_bytes v)) w.v-is ∙ sym (crypt-done-end decrypts i 0 x (held Down m s) g),
            w.buf-is ∙ sym (crypt-done-out decrypts i 0 x (held Down m s) g),
          )
    ] in
    let a = c.args in
    let s = to_bytes c.coloured-v.result in
    let es = c.coloured-v.ensures in
    let p : 0 < length a.buf.now = omega arith in
    let j = ends in record {
      value = c.after_down.ensures ∙ j.0 ∙ c.loop-i.invariant.2
          ∙ crypt-start-end decrypts a.buf.now s a.self 128 p es;
      buf_after = j.1 ∙ c.loop-i.invariant.3 ∙ crypt-start-out decrypts a.buf.now s a.self 128 p es;
    }
