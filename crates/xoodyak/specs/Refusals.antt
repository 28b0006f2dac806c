-- The number and the missing bytes that each refusal is told by, and by which a check's answer is decided.
use Rattle.std.specs.Prelude.{ℕ, ◌≡◌, Result, Ok, Err}
use Rattle.xoodyak.specs.declared.numbers.Refusal.{Refusal}
use Rattle.xoodyak.specs.declared.numbers.Refusal.TheVariants.{KeyRequired, LongKey, ShortOutput, BadRate, Message, LongKeyId, LongNonce, NoTag}

abbrev pub number_of : Refusal → ℕ
number_of KeyRequired = 1
number_of LongKey = 2
number_of (ShortOutput k) = 3
number_of BadRate = 5
number_of Message = 7
number_of LongKeyId = 8
number_of LongNonce = 9
number_of NoTag = 10

abbrev pub missing_of : Refusal → ℕ
missing_of KeyRequired = 0
missing_of LongKey = 0
missing_of (ShortOutput k) = k
missing_of BadRate = 0
missing_of Message = 0
missing_of LongKeyId = 0
missing_of LongNonce = 0
missing_of NoTag = 0

-- of a check's answer: 0 and 0 where it lets the call through
abbrev pub number_in : Result Unit Refusal → ℕ
number_in (Ok x) = 0
number_in (Err r) = number_of r

abbrev pub missing_in : Result Unit Refusal → ℕ
missing_in (Ok x) = 0
missing_in (Err r) = missing_of r

-- a check that answers with the number n and the missing bytes k
abbrev pub Tells : Result Unit Refusal → ℕ → ℕ → Type 0
Tells c n k = (number_in c ≡ n) × (missing_in c ≡ k)
