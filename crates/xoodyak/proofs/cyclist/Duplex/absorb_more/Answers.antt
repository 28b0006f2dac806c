-- What is left of the input, absorbed from the words now, gives what the whole gives from the start.
use mathlib.Core.Path.{◌≡◌, sym, ap, ◌∙◌}
use native.Mathlib.Omega.{arith}
use Prim.Native.Nat.{min}
use lib.ListN.{length}
use borrow.Author.Tests.{eqb-true, eqb-false}
use Rattle.std.specs.Slice.Iter.{chunks_rest}
use Rattle.laws.specs.Blocks.{cuts}
use Rattle.xoodoo.specs.Xoodoo.{to_bytes}
use Rattle.xoodyak.specs.Cyclist.{absorb_more, more_blocks}
use Rattle.xoodyak.specs.declared.cyclist.Phase.TheVariants.{Down}
use Rattle.xoodyak.proofs.BlockWords.{held}
use Rattle.xoodyak.proofs.Turns.{more-start, more_turn, more-done}
use Rattle.xoodyak.proofs.cyclist.Duplex.absorb_more.Goals as goal

pub returns-then-is_empty : goal.returns-then-is_empty
unfolding absorb_more
returns-then-is_empty c =
    let a = c.args in
    let n : length a.bin.now ≡ 0 = eqb-true (length a.bin.now) 0 (sym c.is_empty.ensures ∙ c.if-is_empty.true) in
    sym (more-done a.rate a.bin.now a.self (omega arith))

pub loop-block-preserved : goal.loop-block-preserved
loop-block-preserved c =
    let a = c.args in
    let left = chunks_rest c.loop-block.block-iterator in
    let i = c.loop-block.invariant in
    let s = c.in-Some.ensures.steps in (
      s.0 ∙ i.0,
      more_turn a.rate a.self.mode left c.in-Some.block.now _ (to_bytes c.loop-block.v) _ c.requires.0 s.1.0 (s.1.1 ∙ ap (λ r. min r (length left)) i.0) s.1.2 c.absorb_block-v.ensures ∙ i.1,
    )

pub returns : goal.returns
unfolding absorb_more
returns c =
    let a = c.args in
    let m = a.self.mode in
    let z = c.in-None.ensures.steps.1.0 in
    let n : length a.bin.now ≡ 0 → ⊥ = eqb-false (length a.bin.now) 0 (sym c.is_empty.ensures ∙ c.if-is_empty.false) in
    c.after_down.ensures ∙ sym (more-done a.rate (chunks_rest c.loop-block.block-iterator) _ (omega arith)) ∙ c.loop-block.invariant.1
    ∙ ap (λ b. more_blocks (cuts a.rate a.bin.now) (held Down m b)) c.to_words-v.ensures
    ∙ more-start a.rate a.bin.now a.self c.requires.0 (omega arith)
