-- Six words fill the 24 bytes.
use Rattle.xoodoo.proofs.BlockBytes.{put_six}
use Rattle.xoodyak.proofs.words.SixLent.put.Goals as goal

pub returns : goal.returns
returns c = let a = c.args in cc (put_six a.b.now a.self c.requires)
