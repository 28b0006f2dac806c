-- The session's rule tells whether the message is one empty block; where it is not, its blocks are those of the loop. The mode is not asked here.
use mathlib.Core.Path.{sym, ◌∙◌}
use Rattle.xoodyak.specs.Calls.{encrypt_end, encrypt_out, decrypt_end, decrypt_out}
use Rattle.xoodyak.proofs.Message.{message-cuts, crypt-empty}
use Rattle.xoodyak.proofs.Session.crypt.Goals as goal

pub returns-then-is_empty_block : goal.returns-then-is_empty_block
returns-then-is_empty_block c = let a = c.args in
    let e = crypt-empty a.kind a.self a.buf.now (sym c.is_empty_block.ensures ∙ c.if-is_empty_block.true) in
    record { value = rw (c.onward.ensures, c.empty_block.ensures) e.0; buf_after = e.1 }

pub returns-in-Seal : goal.returns-in-Seal
unfolding encrypt_end encrypt_out
returns-in-Seal c = let f = c.encrypt_blocks in
    let e = message-cuts c.args.self.rule c.args.buf.now (sym c.is_empty_block.ensures ∙ c.if-is_empty_block.false) in
    record { value = rw (c.in-Seal.is, c.onward-in-Seal.ensures, f.ensures.value, e); buf_after = rw (c.in-Seal.is, f.ensures.buf_after, e) }

pub returns-in-Open : goal.returns-in-Open
unfolding decrypt_end decrypt_out
returns-in-Open c = let f = c.decrypt_blocks in
    let e = message-cuts c.args.self.rule c.args.buf.now (sym c.is_empty_block.ensures ∙ c.if-is_empty_block.false) in
    record { value = rw (c.in-Open.is, c.onward-in-Open.ensures, f.ensures.value, e); buf_after = rw (c.in-Open.is, f.ensures.buf_after, e) }
