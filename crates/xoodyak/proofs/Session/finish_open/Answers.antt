-- Refused with nothing touched; otherwise the session past the tag, and the comparison says which number.
use mathlib.Core.Path.{sym, ap, ◌∙◌}
use Rattle.xoodyak.specs.Calls.{verify_of}
use Rattle.xoodyak.specs.Feed.{finished_of, finish_open_of}
use Rattle.xoodyak.proofs.Feeding.{portion-taken, portion-denied}
use Rattle.xoodyak.proofs.Session.finish_open.Goals as goal

pub returns-in-Err : goal.returns-in-Err
unfolding finish_open_of
returns-in-Err c =
    c.finished.ensures ∙ rw (c.refused.ensures, c.default.ensures) (ap finished_of (sym (portion-denied _ _ _ c.in-Err.ensures c.args.self _ _)))

pub returns : goal.returns
unfolding finish_open_of verify_of
returns c =
    let p = c.past_tag-s.ensures in
    c.finished-2.ensures
    ∙ rw (c.paid.ensures, c.default-2.ensures, c.verify-number.ensures, c.from_bytes.ensures, p.value, p.out_after, c.finish_ups-spent.ensures) (ap finished_of (sym (portion-taken _ c.in_default.ensures.0 _ c.args.self _ _)))
