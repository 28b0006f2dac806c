-- The message is decrypted; then the tag squeezed decides whether that stands or becomes zero.
use mathlib.Core.Path.{sym, ap, ◌∙◌}
use mathlib.Core.Bool.{true, false}
use Prim.Native.Nat.{ℕ}
use lib.ListN.{length, replicate}
use Rattle.xoodyak.specs.Calls.{Outcome, answer_of, onward, decrypt_out}
use Rattle.xoodyak.proofs.Sealing.{opened-is}
use Rattle.xoodyak.proofs.Session.open.Goals as goal

pub returns-then-same_bytes : goal.returns-then-same_bytes
returns-then-same_bytes c = let a = c.args in
    let f = c.crypt-s in
    let t = c.squeeze_any in
    let e = opened-is a.self f.result _ a.text.now t.new.out a.tag.now f.ensures.value (c.onward-past.ensures ∙ ap (onward f.result) t.ensures.value) t.ensures.out_after
    true (sym c.same_bytes.ensures ∙ c.if-same_bytes.true) (decrypt_out a.self a.text.now) (replicate (length a.text.now) 0) in
    record { value = c.paid.ensures ∙ rw (c.seal_share-spent.ensures, f.auto.buf) (ap answer_of e); text_after = f.ensures.buf_after ∙ ap (λ (x : Outcome). x.bytes) e }

pub returns : goal.returns
returns c = let a = c.args in
    let f = c.crypt-s in
    let t = c.squeeze_any in
    let e = opened-is a.self f.result _ a.text.now t.new.out a.tag.now f.ensures.value (c.onward-past.ensures ∙ ap (onward f.result) t.ensures.value) t.ensures.out_after
    false (sym c.same_bytes.ensures ∙ c.if-same_bytes.false) (decrypt_out a.self a.text.now) (replicate (length a.text.now) 0) in
    record {
      value = c.paid-2.ensures ∙ rw (c.seal_share-spent.ensures, f.auto.buf) (ap answer_of e);
      text_after = c.clear.ensures ∙ ap (λ (i : ℕ). replicate i 0) f.auto.buf ∙ ap (λ (x : Outcome). x.bytes) e;
    }
