-- What a call on a lent session hands back of its outcome: all but the session and the bytes, which are where they were lent.
use Rattle.xoodyak.specs.Calls.{Outcome}
use Rattle.xoodyak.specs.Feed.{Portion}
use Rattle.face.specs.declared.Reply.{Reply}
use Rattle.face.specs.declared.SealReply.{SealReply}
use Rattle.face.specs.declared.FeedReply.{FeedReply}
use Rattle.face.specs.declared.FinishReply.{FinishReply}

abbrev pub reply_of : Outcome → Reply
reply_of x = record { number = x.number; missing = x.missing; spent = x.spent }

abbrev pub seal_reply_of : Outcome → SealReply
seal_reply_of x = record { number = x.number; missing = x.missing; tag = record { bytes = x.tag }; spent = x.spent }

abbrev pub feed_reply_of : Portion → FeedReply
feed_reply_of x = record { number = x.number; missing = x.missing; taken = x.taken; spent = x.spent }

abbrev pub finish_reply_of : Portion → FinishReply
finish_reply_of x = record { number = x.number; tag = record { bytes = x.tag }; spent = x.spent }
