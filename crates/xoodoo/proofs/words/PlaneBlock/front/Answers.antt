-- Plane 0 is the first 16 bytes.
use mathlib.Core.Path.{refl}
use Rattle.xoodoo.specs.Xoodoo.{word_bytes, plane_bytes, to_bytes}
use Rattle.xoodoo.proofs.words.PlaneBlock.front.Goals as goal

pub returns : goal.returns
unfolding to_bytes plane_bytes word_bytes
returns c = refl
