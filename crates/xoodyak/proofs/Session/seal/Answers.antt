-- The message is encrypted; then the tag is what a squeeze of 16 bytes with colour 40 gives, since the lent part is 16 long.
use mathlib.Core.Path.{◌∙◌}
use Rattle.xoodyak.specs.Calls.{tag_end, tag_out}
use Rattle.xoodyak.proofs.Costs.{seal-cost}
use Rattle.xoodyak.proofs.Session.seal.Goals as goal

pub returns : goal.returns
unfolding tag_end tag_out
returns c = let s = c.squeeze_any in
    let f = c.crypt-s in
    let l = c.requires in
    record {
      value = c.paid.ensures ∙ rw (c.onward.ensures, s.ensures.value, l, f.ensures.value, seal-cost c.args.self c.args.text.now _ _ f.auto.buf c.seal_share.ensures);
      text_after = f.ensures.buf_after;
      tag_after = s.ensures.out_after ∙ rw (l, f.ensures.value);
    }
