-- A block that is held in words: its bytes.
use Rattle.std.specs.Prelude.{List, ◌++◌, ℕ}
use Rattle.xoodoo.specs.Xoodoo.{word_bytes, plane_bytes}
use Rattle.xoodoo.specs.declared.words.Six.{Six}
use Rattle.xoodoo.specs.declared.words.Eleven.{Eleven}

-- 24 bytes
unfoldable pub six_bytes : Six → List ℕ
six_bytes x =
    word_bytes x.x0 ++ word_bytes x.x1 ++ word_bytes x.x2 ++ word_bytes x.x3 ++ word_bytes x.x4 ++ word_bytes x.x5

-- 44 bytes
unfoldable pub eleven_bytes : Eleven → List ℕ
eleven_bytes x = plane_bytes x.p0 ++ plane_bytes x.p1 ++ word_bytes x.x0 ++ word_bytes x.x1 ++ word_bytes x.x2
