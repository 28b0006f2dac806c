-- What was opened stands at the front of the output, and where the tag differs all of it is zero.
use mathlib.Core.Path.{sym, ap, ◌∙◌}
use Rattle.xoodyak.specs.Calls.{answer_of}
use Rattle.xoodyak.proofs.Sealing.{opened-alike, opened-front, opened-zeroed}
use mathlib.Core.Path.{◌≡◌, ap₂}
use mathlib.Core.List.{◌++◌}
use lib.ListN.{length, replicate}
use Rattle.xoodyak.specs.declared.Answer.{Answer}
use Rattle.xoodyak.specs.Calls.{decrypt_out, opened}
use Rattle.xoodyak.proofs.Session.open_into.Goals as goal

pub returns-then-answer-ne0 : goal.returns-then-answer-ne0
returns-then-answer-ne0 c = let a = c.args in
    let parts = c.split_at_mut-text.ensures in
    let o = c.open-answer.ensures in
    let good = decrypt_out a.self a.bin.now in
    let n = opened a.self a.tag.now a.bin.now good (replicate (length a.bin.now) 0) in
    let v : c.open-answer.result ≡ answer_of n = o.value ∙ rw c.copy_into.ensures in
    let t : c.open-answer.new.text ≡ n.bytes = o.text_after ∙ rw c.copy_into.ensures in
    let k = λ (z : n.number ≡ 0). c.if-answer-ne0.true (ap (λ (y : Answer). y.number) v ∙ z) in
    record {
      value = v ∙ opened-alike a.self a.tag.now a.bin.now good _ _ _;
      out_after = ap₂ ◌++◌ t c.clear.ensures ∙ opened-zeroed a.self a.tag.now a.bin.now good _ _ a.out.now c.requires.0 parts.back k;
    }

pub returns-else-answer-ne0 : goal.returns-else-answer-ne0
returns-else-answer-ne0 c = let a = c.args in
    let parts = c.split_at_mut-text.ensures in
    let o = c.open-answer.ensures in
    let good = decrypt_out a.self a.bin.now in
    let n = opened a.self a.tag.now a.bin.now good (replicate (length a.bin.now) 0) in
    let v : c.open-answer.result ≡ answer_of n = o.value ∙ rw c.copy_into.ensures in
    let t : c.open-answer.new.text ≡ n.bytes = o.text_after ∙ rw c.copy_into.ensures in
    let z : n.number ≡ 0 = sym (ap (λ (y : Answer). y.number) v) ∙ c.if-answer-ne0.false in
    record {
      value = v ∙ opened-alike a.self a.tag.now a.bin.now good _ _ _;
      out_after = ap₂ ◌++◌ t parts.back ∙ opened-front a.self a.tag.now a.bin.now good _ _ _ z;
    }
