-- The blocks written, then what the rest gives from the words now, are what the whole gives from the start.
use mathlib.Core.Path.{◌≡◌, sym, ◌∙◌}
use Prim.Native.Nat.{◌+◌, ◌-◌, ◌≤◌, ◌<◌, min}
use native.Mathlib.Omega.{arith}
use lib.ListN.{length}
use borrow.Rule.Slice.PartMut.{same_len_mid}
use Rattle.xoodoo.specs.Xoodoo.{to_bytes}
use Rattle.xoodyak.proofs.Turns.{crypt-start-end, crypt-start-out, crypt-turn-end, crypt-turn-out, crypt-done-end, crypt-done-out, encrypts}
use Rattle.xoodyak.proofs.cyclist.Duplex.encrypt_blocks.Goals as goal

pub returns-then-n-eq0 : goal.returns-then-n-eq0
returns-then-n-eq0 c =
    let a = c.args in
    let h : length a.buf.now ≤ 0 = omega arith in
    record { value = sym (crypt-done-end encrypts 0 128 a.buf.now a.self h); buf_after = sym (crypt-done-out encrypts 0 128 a.buf.now a.self h) }

pub loop-i-preserved : goal.loop-i-preserved
loop-i-preserved c =
    let b = c.encrypt_block-v in
    let e = c.loop-i.i + c.min.result in
    let h : c.loop-i.i < length c.loop-i.buf = omega arith in
    let q : e ≡ c.loop-i.i + min 24 (length c.loop-i.buf - c.loop-i.i) = omega arith in
    let m = c.args.self.mode in
    let s = to_bytes c.loop-i.v in
    let t = to_bytes b.result in (
      omega arith,
      same_len_mid c.loop-i.i (e - c.loop-i.i) c.loop-i.buf b.new.buf b.auto.buf ∙ c.loop-i.invariant.1,
      crypt-turn-end encrypts m c.loop-i.i e c.loop-i.buf b.new.buf s t h q b.ensures.result_value b.ensures.buf_after ∙ c.loop-i.invariant.2,
      crypt-turn-out encrypts m c.loop-i.i e c.loop-i.buf b.new.buf s t h q b.ensures.result_value b.ensures.buf_after ∙ c.loop-i.invariant.3,
    )

pub returns : goal.returns
returns c =
    let a = c.args in
    let s = to_bytes c.coloured-v.result in
    let es = c.coloured-v.ensures in
    let p : 0 < length a.buf.now = omega arith in
    let h : length c.loop-i.buf ≤ c.loop-i.i = omega arith in record {
      value = c.after_down.ensures ∙ sym (crypt-done-end encrypts _ _ _ _ h) ∙ c.loop-i.invariant.2
          ∙ crypt-start-end encrypts a.buf.now s a.self 128 p es;
      buf_after = sym (crypt-done-out encrypts _ _ _ _ h) ∙ c.loop-i.invariant.3 ∙ crypt-start-out encrypts a.buf.now s a.self 128 p es;
    }
