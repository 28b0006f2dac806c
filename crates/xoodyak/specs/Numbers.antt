-- The numbers handed back: a definition for each family, and which of several is given.
use Rattle.std.specs.Prelude.{Bool, true, false, ℕ, zero, suc, ◌+◌, ◌-◌, eqb, ltb}
use Rattle.xoodyak.specs.declared.cyclist.Mode.{Mode}
use Rattle.xoodyak.specs.declared.cyclist.Mode.TheVariants.{Hash, Keyed}
use Rattle.xoodyak.specs.declared.feed.Kind.{Kind}
use Rattle.xoodyak.specs.declared.feed.Kind.TheVariants.{Seal, Open}
use Rattle.xoodyak.specs.declared.Session.{Session}
use Rattle.xoodyak.specs.Cyclist.{absorb_rate}

-- the number n if the test says so, 0 otherwise
abbrev pub when : Bool → ℕ → ℕ
when true n = n
when false n = 0

-- the first refusal of two
abbrev pub first : ℕ → ℕ → ℕ
first zero b = b
first (suc a) b = suc a

-- 7: a call other than feed and finish meets an unfinished message
unfoldable pub unfinished_number : Session → ℕ
unfinished_number s = when s.message.begun 7

-- 7: a feed or finish meets no message begun, or one of the other kind
abbrev pub other_kind : Kind → Kind → Bool
other_kind Seal Seal = false
other_kind Seal Open = true
other_kind Open Seal = true
other_kind Open Open = false

abbrev pub begun_number : Bool → Kind → Kind → ℕ
begun_number true kind begun = when (other_kind kind begun) 7
begun_number false kind begun = 7

unfoldable pub kind_number : Kind → Session → ℕ
kind_number kind s = begun_number s.message.begun kind s.message.kind

-- 1: a keyed-only call meets a Hash session
abbrev pub mode_number : Mode → ℕ
mode_number Hash = 1
mode_number Keyed = 0

-- what every keyed-only call asks first
unfoldable pub keyed_number : Session → ℕ
keyed_number s = first (unfinished_number s) (mode_number s.duplex.mode)

-- 2: the key alone exceeds 43; 8: the key fits, but key and key id together exceed 43; 9: only the nonce breaks it
unfoldable pub key_number : ℕ → ℕ → ℕ → ℕ
key_number key id nonce =
    first (when (ltb 43 key) 2) (first (when (ltb 43 (key + id)) 8) (when (ltb 44 (key + 1 + id + nonce)) 9))

-- 10: the input of a combined open, or the buffer of a combined in-place call, is under 16
unfoldable pub tail_number : ℕ → ℕ
tail_number size = when (ltb size 16) 10

-- 3: the output is shorter than its result
unfoldable pub room_number : ℕ → ℕ → ℕ
room_number room result = when (ltb room result) 3

-- with 3, how many bytes the output lacks
unfoldable pub missing : ℕ → ℕ → ℕ → ℕ
missing number room result = when (eqb number 3) (result - room)

-- 5: the rate is 0 or above the session's absorb rate
unfoldable pub rate_number : Mode → ℕ → ℕ
rate_number m zero = 5
rate_number m (suc r) = when (ltb (absorb_rate m) (suc r)) 5
