-- Two planes and three words fill the 44 bytes.
use Rattle.xoodoo.proofs.BlockBytes.{put-eleven}
use Rattle.xoodyak.proofs.words.ElevenLent.put.Goals as goal

pub returns : goal.returns
returns c = let a = c.args in cc (put-eleven a.b.now a.self c.requires)
