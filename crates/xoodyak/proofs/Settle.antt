-- The number that decides a call: refused where it is not 0, and what a 0 tells of the lengths and the rate.
use mathlib.Core.Path.{◌≡◌, refl, sym, ap, ◌∙◌}
use mathlib.Core.Bool.{Bool, true, false}
use mathlib.Core.List.{List}
use Prim.Native.Nat.{ℕ, zero, suc, ◌+◌, ◌-◌, ◌<◌, ◌≤◌}
use native.Mathlib.Omega.{arith}
use native.Mathlib.Nat.{not-suc-le-zero, suc-ne-zero}
use lib.Dec.{ltb, lit<, lit≤}
use borrow.Author.Tests.{ltb-false, lt-ltb, le-ltb}
use Rattle.xoodyak.specs.declared.cyclist.Mode.{Mode}
use Rattle.xoodyak.specs.declared.cyclist.Mode.TheVariants.{Hash, Keyed}
use Rattle.xoodyak.specs.declared.feed.Kind.{Kind}
use Rattle.xoodyak.specs.declared.numbers.Refusal.{Refusal}
use Rattle.xoodyak.specs.declared.numbers.Refusal.TheVariants.{KeyRequired, LongKey, ShortOutput, BadRate, Message, LongKeyId, LongNonce, NoTag}
use Rattle.xoodyak.specs.declared.Session.{Session}
use Rattle.xoodyak.specs.Cyclist.{absorb_rate}
use Rattle.xoodyak.specs.Numbers.{when, first, unfinished_number, other_kind, begun_number, kind_number, mode_number, keyed_number, key_number, room_number, missing, tail_number, rate_number}
use Rattle.xoodyak.specs.Refusals.{number_of, missing_of}
use Rattle.xoodyak.specs.Calls.{Outcome, refused, settle}

-- ---- a refusal r that a check answered with, and its number
pub number-pos : (r : Refusal) → number_of r ≡ 0 → ⊥
number-pos KeyRequired e = suc-ne-zero _ e
number-pos LongKey e = suc-ne-zero _ e
number-pos (ShortOutput k) e = suc-ne-zero _ e
number-pos BadRate e = suc-ne-zero _ e
number-pos Message e = suc-ne-zero _ e
number-pos LongKeyId e = suc-ne-zero _ e
number-pos LongNonce e = suc-ne-zero _ e
number-pos NoTag e = suc-ne-zero _ e

-- ---- a call that asked a check, which refused it with r or let it through; f reads the answer of the outcome
told : (m n k : ℕ) (s : Session) (o : List ℕ) (x : Outcome) → (m ≡ 0 → ⊥) → m ≡ n → settle n k s o x ≡ refused s m k o
told m zero k s o x h e = absurd (h e)
told m (suc n) k s o x h e = rw e

pub is_refused : (r : Refusal) (n k : ℕ) → (number_of r ≡ n) × (missing_of r ≡ k) → (s : Session) (o : List ℕ) (x : Outcome)
    → settle n k s o x ≡ refused s (number_of r) (missing_of r) o
is_refused r n k e s o x = rw e.1 (told (number_of r) n k s o x (number-pos r) e.0)

pub is_taken : (n : ℕ) → 0 ≡ n → (k : ℕ) (s : Session) (o : List ℕ) (x : Outcome) → settle n k s o x ≡ x
is_taken n z k s o x = ap (λ (j : ℕ). settle j k s o x) (sym z)

module _ {A : Type 0} (f : Outcome → A) {a : A} {s : Session} {o : List ℕ} (x : Outcome) where
  module _ (r : Refusal) {n k : ℕ} (e : (number_of r ≡ n) × (missing_of r ≡ k)) where
    pub answer-refused : a ≡ f (refused s (number_of r) (missing_of r) o) → a ≡ f (settle n k s o x)
    answer-refused p = p ∙ sym (ap f (is_refused r n k e s o x))

    -- and what the lent buffer then holds
    pub call-refused : a ≡ f (refused s (number_of r) (missing_of r) o) → (a ≡ f (settle n k s o x)) × (o ≡ (settle n k s o x).bytes)
    call-refused p = (answer-refused p, sym (ap (λ (y : Outcome). y.bytes) (is_refused r n k e s o x)))

module _ {A : Type 0} (f : Outcome → A) {a : A} {n : ℕ} (z : 0 ≡ n) (k : ℕ) (s : Session) (o : List ℕ) {x : Outcome} where
  pub answer-taken : a ≡ f x → a ≡ f (settle n k s o x)
  answer-taken p = p ∙ sym (ap f (is_taken n z k s o x))

  pub call-taken : {b : List ℕ} → a ≡ f x → b ≡ x.bytes → (a ≡ f (settle n k s o x)) × (b ≡ (settle n k s o x).bytes)
  call-taken p q = (answer-taken p, q ∙ sym (ap (λ (y : Outcome). y.bytes) (is_taken n z k s o x)))

-- ---- the first of two refusals, and none of them
first-other : (a b : ℕ) → (a ≡ 0 → ⊥) → first a b ≡ a
first-other zero b h = absurd (h refl)
first-other (suc a) b h = refl

pub first-zero : (a b : ℕ) → 0 ≡ first a b → (0 ≡ a) × (0 ≡ b)
first-zero zero b e = (refl, e)
first-zero (suc a) b e = absurd (suc-ne-zero _ (sym e))

pub none-of : (a b : ℕ) → 0 ≡ a → 0 ≡ b → 0 ≡ first a b
none-of a b e g = rw (← e, ← g)

pub second-zero : (a b : ℕ) → 0 ≡ first a b → 0 ≡ b
second-zero a b e = (first-zero a b e).1

-- ---- each number from the fact, and the fact from a number that is 0
when-zero : (t : Bool) (n : ℕ) → 0 ≡ when t (suc n) → t ≡ false
when-zero true n e = absurd (suc-ne-zero _ (sym e))
when-zero false n e = refl

module _ (key id nonce : ℕ) where
  pub key-over : 43 < key → 2 ≡ key_number key id nonce
  unfolding key_number
  key-over h = rw (lt-ltb _ _ h)

  pub id-over : key ≤ 43 → 43 < key + id → 8 ≡ key_number key id nonce
  unfolding key_number
  id-over h j = rw (le-ltb _ _ h, lt-ltb _ _ j)

  pub nonce-over : key ≤ 43 → key + id ≤ 43 → 44 < key + 1 + id + nonce → 9 ≡ key_number key id nonce
  unfolding key_number
  nonce-over h j l = rw (le-ltb _ _ h, le-ltb _ _ j, lt-ltb _ _ l)

  pub key-within : key ≤ 43 → key + id ≤ 43 → key + 1 + id + nonce ≤ 44 → 0 ≡ key_number key id nonce
  unfolding key_number
  key-within h j l = rw (le-ltb _ _ h, le-ltb _ _ j, le-ltb _ _ l)

  pub key_fits : 0 ≡ key_number key id nonce → key + 1 + id + nonce ≤ 44
  unfolding key_number
  key_fits e = ltb-false _ _ (when-zero _ 8 (first-zero (when (ltb 43 (key + id)) 8) _ (first-zero (when (ltb 43 key) 2) _ e).1).1)

-- what the code of `key_lengths` is proved by, whatever its tests are
pub ruleset key_numbers = (key-over, id-over, nonce-over, key-within)

module _ (room result : ℕ) where
  pub room-short : room < result → 3 ≡ room_number room result
  unfolding room_number
  room-short h = rw (lt-ltb _ _ h)

  pub room-enough : result ≤ room → 0 ≡ room_number room result
  unfolding room_number
  room-enough h = rw (le-ltb _ _ h)

  pub room_fits : 0 ≡ room_number room result → result ≤ room
  unfolding room_number
  room_fits e = ltb-false _ _ (when-zero _ _ e)

  pub room-lacks : room < result → result - room ≡ missing (room_number room result) room result
  unfolding room_number missing
  room-lacks h = rw (lt-ltb _ _ h)

  pub room-suffices : result ≤ room → 0 ≡ missing (room_number room result) room result
  unfolding room_number missing
  room-suffices h = rw (le-ltb _ _ h)

-- what the code of `has_room` is proved by
pub ruleset rooms = (room-short, room-enough, room-lacks, room-suffices)

module _ (size : ℕ) where
  pub tail-short : size < 16 → 10 ≡ tail_number size
  unfolding tail_number
  tail-short h = rw (lt-ltb _ _ h)

  pub tail-enough : 16 ≤ size → 0 ≡ tail_number size
  unfolding tail_number
  tail-enough h = rw (le-ltb _ _ h)

  pub tail-fits : 0 ≡ tail_number size → 16 ≤ size
  unfolding tail_number
  tail-fits e = ltb-false _ _ (when-zero _ _ e)

pub ruleset tails = (tail-short, tail-enough)

-- what comes before 3 counts nothing
module _ (n room result : ℕ) where
  mode-lacks : (m : Mode) → (mode_number m ≡ 0 → ⊥) → 0 ≡ missing (first (mode_number m) n) room result
  unfolding missing
  mode-lacks Hash h = refl
  mode-lacks Keyed h = absurd (h refl)

  keyed-flag : (t : Bool) (m : Mode) → (first (when t 7) (mode_number m) ≡ 0 → ⊥) → 0 ≡ missing (first (first (when t 7) (mode_number m)) n) room result
  unfolding missing
  keyed-flag true m h = refl
  keyed-flag false m h = mode-lacks m h

  kind-flag : (t : Bool) (m : Mode) → (first (when t 7) (mode_number m) ≡ 0 → ⊥) → 0 ≡ missing (first (when t 7) (first (mode_number m) n)) room result
  unfolding missing
  kind-flag true m h = refl
  kind-flag false m h = mode-lacks m h

  kind-lacks : (kind : Kind) (t : Bool) (k : Kind) (m : Mode) → (first (begun_number t kind k) (mode_number m) ≡ 0 → ⊥) → 0 ≡ missing (first (begun_number t kind k) (first (mode_number m) n)) room result
  kind-lacks kind true k m h = kind-flag (other_kind kind k) m h
  kind-lacks kind false k m h = kind-flag true m h

  pub keyed-lacks : (r : Refusal) (s : Session) → number_of r ≡ keyed_number s → 0 ≡ missing (first (keyed_number s) n) room result
  unfolding keyed_number unfinished_number
  keyed-lacks r s e = keyed-flag s.message.begun s.duplex.mode (λ (z : first (when s.message.begun 7) (mode_number s.duplex.mode) ≡ 0). number-pos r (e ∙ z))

  tag-flag : (begun : Bool) (m : Mode) (t : Bool) → (first (first (when begun 7) (mode_number m)) (when t 10) ≡ 0 → ⊥)
      → 0 ≡ missing (first (first (first (when begun 7) (mode_number m)) (when t 10)) n) room result
  unfolding missing
  tag-flag true m t h = refl
  tag-flag false Hash t h = refl
  tag-flag false Keyed true h = refl
  tag-flag false Keyed false h = absurd (h refl)

  tag-lacks : (s : Session) (size : ℕ) → (first (keyed_number s) (tail_number size) ≡ 0 → ⊥)
      → 0 ≡ missing (first (first (keyed_number s) (tail_number size)) n) room result
  unfolding keyed_number unfinished_number tail_number
  tag-lacks s size h = tag-flag s.message.begun s.duplex.mode (ltb size 16) h

  pub message-lacks : (r : Refusal) (kind : Kind) (s : Session) → number_of r ≡ first (kind_number kind s) (mode_number s.duplex.mode)
      → 0 ≡ missing (first (kind_number kind s) (first (mode_number s.duplex.mode) n)) room result
  unfolding kind_number
  message-lacks r kind s e = kind-lacks kind s.message.begun s.message.kind s.duplex.mode (λ (z : first (begun_number s.message.begun kind s.message.kind) (mode_number s.duplex.mode) ≡ 0). number-pos r (e ∙ z))

-- what a call that was let through knows of its lengths
pub tagged : (s : Session) (size : ℕ) → 0 ≡ first (keyed_number s) (tail_number size) → 16 ≤ size
tagged s size z = tail-fits size (second-zero (keyed_number s) (tail_number size) z)

pub roomy : (s : Session) (room result : ℕ) → 0 ≡ first (keyed_number s) (room_number room result) → result ≤ room
roomy s room result z = room_fits room result (second-zero (keyed_number s) (room_number room result) z)

-- a combined open asks for a tag before it asks for room: what each of both refusals says of the whole
module _ (r : Refusal) (s : Session) (size room result : ℕ) where
  pub before-room : (number_of r ≡ first (keyed_number s) (tail_number size)) × (missing_of r ≡ 0)
      → (number_of r ≡ first (first (keyed_number s) (tail_number size)) (room_number room result))
      × (missing_of r ≡ missing (first (first (keyed_number s) (tail_number size)) (room_number room result)) room result)
  before-room e =
      let h = λ (z : first (keyed_number s) (tail_number size) ≡ 0). number-pos r (e.0 ∙ z) in
      (e.0 ∙ sym (first-other _ _ h), e.1 ∙ tag-lacks (room_number room result) room result s size h)

  pub after-tag : 0 ≡ first (keyed_number s) (tail_number size)
      → (number_of r ≡ room_number room result) × (missing_of r ≡ missing (room_number room result) room result)
      → (number_of r ≡ first (first (keyed_number s) (tail_number size)) (room_number room result))
      × (missing_of r ≡ missing (first (first (keyed_number s) (tail_number size)) (room_number room result)) room result)
  after-tag z e = rw (← z) e

pub absorb-rate-fits : (m : Mode) → (0 < absorb_rate m) × (absorb_rate m ≤ 44)
absorb-rate-fits Hash = (lit< tt, lit≤ tt)
absorb-rate-fits Keyed = (lit< tt, lit≤ tt)

module _ (m : Mode) where
  pub rate-none : (r : ℕ) → r ≡ 0 → 5 ≡ rate_number m r
  unfolding rate_number
  rate-none r z = rw z

  pub rate-over : (r : ℕ) → absorb_rate m < r → 5 ≡ rate_number m r
  unfolding rate_number
  rate-over zero h = refl
  rate-over (suc r) h = rw (lt-ltb _ _ h)

  pub rate-within : (r : ℕ) → 0 < r → r ≤ absorb_rate m → 0 ≡ rate_number m r
  unfolding rate_number
  rate-within zero p h = absurd (not-suc-le-zero p)
  rate-within (suc r) p h = rw (le-ltb _ _ h)

  pub rate-fits : (r : ℕ) → 0 ≡ rate_number m r → (0 < r) × (r ≤ 44)
  unfolding rate_number
  rate-fits zero e = absurd (suc-ne-zero _ (sym e))
  rate-fits (suc r) e = let h = ltb-false (absorb_rate m) (suc r) (when-zero _ _ e) in (omega arith, omega (arith, h, (absorb-rate-fits m).1))

pub ruleset rates = (rate-none, rate-over, rate-within)

-- no keyed call refused, the mode is Keyed
mode-zero : (m : Mode) → 0 ≡ mode_number m → m ≡ Keyed
mode-zero Hash e = absurd (suc-ne-zero _ (sym e))
mode-zero Keyed e = refl

pub keyed-mode : (s : Session) → 0 ≡ keyed_number s → s.duplex.mode ≡ Keyed
unfolding keyed_number
keyed-mode s e = mode-zero _ (second-zero (unfinished_number s) (mode_number s.duplex.mode) e)
