-- The lowest byte of word 11 gains it.
use Rattle.laws.specs.Words.{◌⊕◌}
use Rattle.xoodoo.specs.Xoodoo.{word_bytes, plane_bytes, to_bytes}
use Rattle.xoodoo.proofs.WordBytes.{words_bytes, row, twelve, place, one-at}
use Rattle.xoodoo.proofs.words.ElevenBlock.pad.Goals as goal

pub returns : goal.returns
unfolding to_bytes plane_bytes words_bytes word_bytes row twelve place ◌⊕◌
returns c = one-at (twelve c.args.s) 11
