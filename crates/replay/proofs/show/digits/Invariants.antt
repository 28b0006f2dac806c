-- Each digit written is ASCII, and zeros stand where none is.
use Rattle.std.specs.Str.{IsAscii}
use Rattle.replay.proofs.show.digits.Given as goal

abbrev pub invariant-loop-i : goal.invariant-loop-i
invariant-loop-i l = IsAscii l.text
