-- The words of 48 bytes have these bytes.
use mathlib.Core.Path.{ap, ◌∙◌}
use Rattle.xoodoo.specs.Xoodoo.{to_bytes}
use Rattle.xoodoo.proofs.Bytes.{to-from, lent-bytes}
use Rattle.xoodoo.proofs.words.to_words.Goals as goal

pub returns : goal.returns
returns c = ap to_bytes c.load.ensures ∙ to-from (lent-bytes c.told-b c.fits-b)
