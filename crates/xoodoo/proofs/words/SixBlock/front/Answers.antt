-- The first six words are the first 24 bytes.
use mathlib.Core.Path.{refl}
use Rattle.xoodoo.specs.Xoodoo.{word_bytes, plane_bytes, to_bytes}
use Rattle.xoodoo.specs.Words.{six_bytes}
use Rattle.xoodoo.proofs.words.SixBlock.front.Goals as goal

pub returns : goal.returns
unfolding six_bytes to_bytes plane_bytes word_bytes
returns c = refl
