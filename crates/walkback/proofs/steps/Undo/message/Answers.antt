-- The rule tells whether the message is one empty block; where it is not, its blocks are those of the loop.
use mathlib.Core.Path.{sym, ◌∙◌}
use Rattle.xoodyak.proofs.Message.{message-empty, message-cuts}
use Rattle.walkback.proofs.steps.Undo.message.Goals as goal

pub returns-then-is_empty_block : goal.returns-then-is_empty_block
returns-then-is_empty_block c =
    let a = c.args in
    let e = message-empty a.rule a.plaintext.now (sym c.is_empty_block.ensures ∙ c.if-is_empty_block.true) in
    c.block.ensures ∙ rw (e.0, e.1)

pub returns-else-is_empty_block : goal.returns-else-is_empty_block
returns-else-is_empty_block c =
    let a = c.args in
    let e = message-cuts a.rule a.plaintext.now (sym c.is_empty_block.ensures ∙ c.if-is_empty_block.false) in
    c.blocks-else-is_empty_block.ensures ∙ rw e
