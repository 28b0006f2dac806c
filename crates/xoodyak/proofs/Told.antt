-- A check's answer follows from the number and the missing bytes that it is told by.
use mathlib.Core.Path.{◌≡◌, refl, sym, ap₂, ◌∙◌}
use Prim.Native.Nat.{ℕ}
use Rattle.std.specs.Prelude.{Result, Ok, Err, if◌then◌else◌, eqb}
use Rattle.xoodyak.specs.declared.numbers.Refusal.{Refusal}
use Rattle.xoodyak.specs.declared.numbers.Refusal.TheVariants.{KeyRequired, LongKey, ShortOutput, BadRate, Message, LongKeyId, LongNonce, NoTag}
use Rattle.xoodyak.specs.Refusals.{number_in, missing_in, Tells}

-- the answer with this number
answer : ℕ → ℕ → Result Unit Refusal
answer n k =
    if eqb n 0 then Ok tt else (if eqb n 1 then Err KeyRequired else (if eqb n 2 then Err LongKey else (if eqb n 3 then Err (ShortOutput k) else (
    if eqb n 5 then Err BadRate else (if eqb n 7 then Err Message else (if eqb n 8 then Err LongKeyId else (if eqb n 9 then Err LongNonce else Err NoTag)))))))

is-answer : (c : Result Unit Refusal) → answer (number_in c) (missing_in c) ≡ c
unfolding answer
is-answer (Ok x) = refl
is-answer (Err KeyRequired) = refl
is-answer (Err LongKey) = refl
is-answer (Err (ShortOutput k)) = refl
is-answer (Err BadRate) = refl
is-answer (Err Message) = refl
is-answer (Err LongKeyId) = refl
is-answer (Err LongNonce) = refl
is-answer (Err NoTag) = refl

pub told-once : (x y : Result Unit Refusal) {n k : ℕ} → Tells x n k → Tells y n k → x ≡ y
told-once x y p q = sym (is-answer x) ∙ ap₂ answer (p.0 ∙ sym q.0) (p.1 ∙ sym q.1) ∙ is-answer y
