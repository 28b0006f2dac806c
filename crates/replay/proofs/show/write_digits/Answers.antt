-- What is written is ASCII, and so a text.
use Rattle.std.proofs.Common.{◌*◌, length}
use Rattle.std.proofs.lemmas.Str.{IsAscii-take, IsUtf8-from_ascii}
use Rattle.replay.proofs.show.write_digits.Goals as goal

pub from_utf8_unchecked-requires : goal.from_utf8_unchecked-requires
from_utf8_unchecked-requires g c =
    IsUtf8-from_ascii _ (IsAscii-take c.digits-text.result (2 * length c.args.bytes.now) c.digits-text.ensures)
