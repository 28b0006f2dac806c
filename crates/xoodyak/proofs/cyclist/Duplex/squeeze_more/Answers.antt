-- No bytes change nothing; else the words are those after an Up, whatever the phase was.
use mathlib.Core.Path.{◌≡◌, refl, sym, ap, ◌∙◌}
use Prim.Native.Nat.{◌≤◌, ◌<◌}
use native.Mathlib.Nat.{sub-zero}
use native.Mathlib.Omega.{arith}
use lib.ListN.{length}
use borrow.Author.Tests.{eqb-true, eqb-false}
use Rattle.laws.specs.Blocks.{sizes}
use Rattle.xoodyak.specs.Cyclist.{squeeze_rate, nexts_end, nexts_out, squeeze_more_end, squeeze_more_out}
use Rattle.xoodyak.specs.declared.cyclist.Phase.TheVariants.{Up}
use Rattle.xoodyak.proofs.BlockWords.{held}
use Rattle.xoodyak.proofs.Turns.{rate-pos, nexts-start-end, nexts-start-out, nexts-done-end, nexts-done-out}
use Rattle.xoodyak.proofs.cyclist.Duplex.squeeze_more.Goals as goal

pub returns-then-is_empty : goal.returns-then-is_empty
unfolding squeeze_more_end squeeze_more_out
returns-then-is_empty c =
    let a = c.args in
    let o = a.out.now in
    let r = squeeze_rate a.self.mode in
    let z : length o ≡ 0 = eqb-true (length o) 0 (sym c.is_empty.ensures ∙ c.if-is_empty.true) in
    let h : length o ≤ 0 = omega arith in record {
      value = sym (ap (λ k. nexts_end (sizes r k) a.self) (sym (sub-zero (length o))) ∙ nexts-done-end r (length o) 0 a.self h);
      out_after = sym (ap (λ k. nexts_out (sizes r k) a.self) (sym (sub-zero (length o))) ∙ nexts-done-out r (length o) 0 o a.self h refl);
    }

pub returns : goal.returns
unfolding squeeze_more_end squeeze_more_out
returns c =
    let b = c.squeeze_words-v in
    let a = c.args in
    let n = length a.out.now in
    let m = a.self.mode in
    let r = squeeze_rate m in
    let z : n ≡ 0 → ⊥ = eqb-false n 0 (sym c.is_empty.ensures ∙ c.if-is_empty.false) in
    let h : 0 < n = omega arith in record {
      value = c.after_up.ensures ∙ b.ensures.value ∙ ap (λ s. nexts_end (sizes r n) (held Up m s)) c.to_words.ensures ∙ nexts-start-end r n a.self (rate-pos m) h;
      out_after = b.ensures.out_after ∙ ap (λ s. nexts_out (sizes r n) (held Up m s)) c.to_words.ensures ∙ nexts-start-out r n a.self (rate-pos m) h;
    }
