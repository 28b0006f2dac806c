-- What each byte call and each call by a count of rounds leaves. A call out of bounds is refused with a number, and changes nothing.
use Rattle.std.specs.Prelude.{Bool, true, false, List, ℕ, leb, length, take}
use Rattle.laws.specs.Lists.{add_front, add_at}
use Rattle.xoodoo.specs.Xoodoo.{xoodoo_rounds, inverse_rounds}
use Rattle.xoodoo.specs.declared.Answer.{Answer}
use Rattle.xoodoo.specs.declared.Xoodoo.{Xoodoo}
use Rattle.xoodoo.specs.declared.Refusal.{Refusal}
use Rattle.xoodoo.specs.declared.Refusal.TheVariants.{OutOfBounds, TooManyRounds}

-- the number of a refusal
abbrev pub number : Refusal → ℕ
number OutOfBounds = 6
number TooManyRounds = 11

-- where it is in bounds the state has the new bytes, else the number is n
abbrev pub answer : Bool → ℕ → Xoodoo → List ℕ → Answer
answer true n x b = record { state = record { st = b }; number = 0 }
answer false n x b = record { state = x; number = n }

-- one byte is added at an offset of at most 47
unfoldable pub add_byte_of : Xoodoo → ℕ → ℕ → Answer
add_byte_of x byte offset = answer (leb offset 47) 6 x (add_at x.st offset byte)

-- a run of at most 48 bytes is added at byte 0
unfoldable pub add_bytes_of : Xoodoo → List ℕ → Answer
add_bytes_of x run = answer (leb (length run) 48) 6 x (add_front x.st run)

pub record Extracted : Type 0 where
  pub number : ℕ
  pub bytes : List ℕ

abbrev pub extracted : Bool → List ℕ → List ℕ → Extracted
extracted true b out = record { number = 0; bytes = b }
extracted false b out = record { number = 6; bytes = out }

-- an output of at most 48 bytes gets the first of the state's
unfoldable pub extract_bytes_of : Xoodoo → List ℕ → Extracted
extract_bytes_of x out = extracted (leb (length out) 48) (take (length out) x.st) out

-- at most twelve rounds, those of the last so many constants
unfoldable pub rounds_of : Xoodoo → ℕ → Answer
rounds_of x n = answer (leb n 12) 11 x (xoodoo_rounds n x.st)

-- and taken back
unfoldable pub unrounds_of : Xoodoo → ℕ → Answer
unrounds_of x n = answer (leb n 12) 11 x (inverse_rounds n x.st)
