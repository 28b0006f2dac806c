-- Refused with nothing touched and a tag of zeros; otherwise the session past the tag, with the tag.
use mathlib.Core.Path.{sym, ap, ◌∙◌}
use Rattle.xoodyak.specs.Feed.{finished_of, finish_seal_of}
use Rattle.xoodyak.proofs.Feeding.{portion-taken, portion-denied}
use Rattle.xoodyak.proofs.Session.finish_seal.Goals as goal

pub returns-in-Err : goal.returns-in-Err
unfolding finish_seal_of
returns-in-Err c =
    c.finished.ensures ∙ rw (c.refused.ensures, c.from_bytes.ensures) (ap finished_of (sym (portion-denied _ _ _ c.in-Err.ensures c.args.self _ _)))

pub returns : goal.returns
unfolding finish_seal_of
returns c =
    let p = c.past_tag-s.ensures in
    c.finished-2.ensures
    ∙ rw (c.paid.ensures, c.from_bytes-2.ensures, p.value, p.out_after, c.finish_ups-spent.ensures) (ap finished_of (sym (portion-taken _ c.in_default.ensures.0 _ c.args.self _ _)))
