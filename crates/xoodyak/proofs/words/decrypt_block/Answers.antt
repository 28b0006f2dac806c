-- The stream is added to the block, and what that gives is added to the state.
use mathlib.Core.Path.{◌≡◌, ◌∙◌}
use Rattle.laws.specs.Lists.{add_front}
use Rattle.laws.proofs.Lists.{add_front-take, length-add_front}
use Rattle.xoodoo.specs.Xoodoo.{to_bytes, xoodoo}
use Rattle.xoodyak.proofs.words.decrypt_block.Goals as goal

pub returns-in_default : goal.returns-in_default
returns-in_default c =
    let b = c.args.buf.now in
    let w = c.args.w in
    let eb : c.xor_into.new.dst ≡ add_front b (xoodoo (to_bytes w)) = c.xor_into.ensures ∙ rw (add_front-take, c.from_words.ensures, c.permute_words-v.ensures) in
    record { result_value = c.down_words.ensures ∙ rw (eb, length-add_front, c.permute_words-v.ensures); buf_after = eb }
