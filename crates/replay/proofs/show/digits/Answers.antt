-- Before the first byte there are zeros alone.
use Rattle.std.proofs.Common.{ℕ, zero, suc, lit<}
use Rattle.std.proofs.Math.ListN.{replicate}
use Rattle.std.proofs.lemmas.Str.Ascii.{IsAscii-nil, IsAscii-cons}
use Rattle.std.specs.Str.{IsAscii}
use Rattle.replay.proofs.show.digits.Goals as goal

zeros : (n : ℕ) → IsAscii (replicate n 48)
zeros zero = IsAscii-nil
zeros (suc n) = IsAscii-cons 48 (replicate n 48) (lit< tt) (zeros n)

pub loop-i-init : goal.loop-i-init
loop-i-init c = zeros 128
