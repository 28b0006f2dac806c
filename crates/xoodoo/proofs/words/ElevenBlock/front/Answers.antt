-- The first eleven words are the first 44 bytes.
use mathlib.Core.Path.{refl}
use Rattle.xoodoo.specs.Xoodoo.{word_bytes, plane_bytes, to_bytes}
use Rattle.xoodoo.specs.Words.{eleven_bytes}
use Rattle.xoodoo.proofs.words.ElevenBlock.front.Goals as goal

pub returns : goal.returns
unfolding eleven_bytes to_bytes plane_bytes word_bytes
returns c = refl
