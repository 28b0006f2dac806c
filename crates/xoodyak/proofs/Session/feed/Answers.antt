-- Refused with nothing touched; otherwise the duplex is fed from the message's place, and the session keeps where that stands.
use mathlib.Core.Path.{sym, ap, ◌∙◌}
use Rattle.xoodyak.specs.Numbers.{first, kind_number, mode_number, room_number}
use Rattle.xoodyak.specs.Calls.{mode}
use Rattle.xoodyak.specs.Feed.{Portion, fed_of, feed_of}
use lib.ListN.{length}
use Rattle.xoodyak.proofs.Settle.{second-zero, room_fits}
use Rattle.xoodyak.proofs.Feeding.{portion-taken, portion-denied}
use borrow.Author.Rules.{rules}
use Rattle.xoodyak.proofs.Session.feed.Goals as goal

pub returns-in-Err : goal.returns-in-Err
unfolding feed_of
returns-in-Err c =
    let e = sym (portion-denied _ _ _ c.in-Err.ensures c.args.self c.args.out.now _) in
    record { value = c.fed.ensures ∙ rw c.refused.ensures (ap fed_of e); out_after = ap (λ (x : Portion). x.bytes) e }

pub feed-f-requires : goal.feed-f-requires
feed-f-requires c = let a = c.args in
    let rest = second-zero (kind_number a.kind a.self) (first (mode_number (mode a.self)) (room_number (length a.out.now) (length a.piece.now))) c.in_default.ensures.0 in
    (room_fits _ _ (second-zero (mode_number (mode a.self)) (room_number (length a.out.now) (length a.piece.now)) rest), search rules)

pub returns : goal.returns
unfolding feed_of
returns c =
    let f = c.feed-f.ensures in
    let e = sym (portion-taken _ c.in_default.ensures.0 _ c.args.self c.args.out.now _) in
    record { value = c.fed-2.ensures ∙ rw (c.paid.ensures, f.duplex_value.0, f.duplex_value.1.0, f.duplex_value.1.1.0, f.duplex_value.1.1.1) (ap fed_of e); out_after = f.out_after ∙ ap (λ (x : Portion). x.bytes) e }
