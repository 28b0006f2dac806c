-- Calls of a session, run forward and walked back.
use denote.Ref.{Bor}
use Rattle.std.specs.Prelude.{◌≡◌, Bool, true, false, Option, None, Some, List, [], ◌∷◌, ◌++◌, ℕ, zero, suc, length}
use Rattle.laws.specs.Lists.{All}
use Rattle.laws.specs.Blocks.{cuts}
use Rattle.xoodyak.specs.declared.cyclist.Mode.{Mode}
use Rattle.xoodyak.specs.declared.cyclist.Phase.{Phase}
use Rattle.xoodyak.specs.declared.cyclist.Phase.TheVariants.{Up, Down}
use Rattle.xoodyak.specs.declared.cyclist.Duplex.{Duplex}
use Rattle.xoodyak.specs.declared.Rule.{Rule}
use Rattle.xoodyak.specs.declared.Rule.TheVariants.{Crate, Specification}
use Rattle.xoodyak.specs.Cyclist.{absorb_rate, absorb, absorb_more, squeeze_end, squeeze_more_end, message_blocks, enc_end, given, chosen, key_call}
use Rattle.xoodyak.specs.Numbers.{first, mode_number, key_number, rate_number}
use Rattle.walkback.specs.declared.Before.{Before}
use Rattle.walkback.specs.declared.Kind.{Kind}
use Rattle.walkback.specs.declared.Kind.TheVariants.{Absorb, AbsorbMore, Squeeze, SqueezeKey, SqueezeMore, Key, Encrypt, Seal}
use Rattle.walkback.specs.Steps.{Step, undo, block_steps, absorb_steps, squeeze_steps, squeeze_more_steps}

-- a call with its inputs: the plaintext of an encryption, the length alone of a squeeze; a decryption is the encryption of what it recovered
pub data Call : Type 0 where
  absorbs : List ℕ → Call
  absorbs_more : List ℕ → ℕ → Call
  squeezes : ℕ → Call
  squeezes_key : ℕ → Call
  squeezes_more : ℕ → Call
  -- key, key id, nonce and counter, the last three with their flags
  keys : List ℕ → Bool → List ℕ → Bool → List ℕ → Bool → List ℕ → Call
  encrypts : List ℕ → Call
  seals : List ℕ → Call

-- the number that the call itself would refuse with, 0 where it is accepted
unfoldable pub call_number : Mode → Call → ℕ
call_number m (absorbs x) = 0
call_number m (absorbs_more x r) = rate_number m r
call_number m (squeezes n) = 0
call_number m (squeezes_key n) = 0
call_number m (squeezes_more n) = 0
call_number m (keys key has_id id has_nonce nonce has_counter counter) =
    first (mode_number m) (key_number (length key) (length (given has_id id)) (length (given has_nonce nonce)))
call_number m (encrypts x) = mode_number m
call_number m (seals x) = mode_number m

-- what an accepted call does to a session with this rule
unfoldable pub forward : Rule → Call → Duplex → Duplex
forward rule (absorbs x) d = absorb (absorb_rate d.mode) 3 d x
forward rule (absorbs_more x r) d = absorb_more r d x
forward rule (squeezes n) d = squeeze_end d n 0x40
forward rule (squeezes_key n) d = squeeze_end d n 0x20
forward rule (squeezes_more n) d = squeeze_more_end d n
forward rule (keys key has_id id has_nonce nonce has_counter counter) d =
    key_call d key has_id (given has_id id) (given has_nonce nonce) has_counter counter
forward rule (encrypts x) d = enc_end (message_blocks rule x) 0x80 d
forward rule (seals x) d = squeeze_end (enc_end (message_blocks rule x) 0x80 d) 16 0x40

-- the steps if the flag says so, none otherwise
abbrev pub if_steps : Bool → List Step → List Step
if_steps true ss = ss
if_steps false ss = []

-- an optional slice absorbed after the key
abbrev pub given_steps : ℕ → Option (Bor (List ℕ)) → List Step
given_steps r None = []
given_steps r (Some x) = absorb_steps Down r 0 x.now

-- key, t and the one-byte length of t
unfoldable pub key_run : List ℕ → List ℕ → List ℕ
key_run key t = key ++ (t ++ (length t ∷ []))

-- the key call, absent arguments being empty
unfoldable pub key_steps : Phase → List ℕ → Bool → List ℕ → List ℕ → Bool → List ℕ → List Step
key_steps p key has_id id nonce has_counter counter =
    absorb_steps p 44 2 (key_run key (chosen has_id id nonce))
    ++ (if_steps has_id (absorb_steps Down 44 0 nonce) ++ if_steps has_counter (absorb_steps Down 1 0 counter))

-- the steps of an accepted call, from the rule, the mode and the phase before it
unfoldable pub steps : Rule → Mode → Phase → Call → List Step
steps rule m p (absorbs x) = absorb_steps p (absorb_rate m) 3 x
steps rule m p (absorbs_more x r) = block_steps 0 (cuts r x)
steps rule m p (squeezes n) = squeeze_steps m 0x40 n
steps rule m p (squeezes_key n) = squeeze_steps m 0x20 n
steps rule m p (squeezes_more n) = squeeze_more_steps m n
steps rule m p (keys key has_id id has_nonce nonce has_counter counter) =
    key_steps p key has_id (given has_id id) (given has_nonce nonce) has_counter counter
steps rule m p (encrypts x) = block_steps 0x80 (message_blocks rule x)
steps rule m p (seals x) = block_steps 0x80 (message_blocks rule x) ++ squeeze_steps m 0x40 16

-- the 48 bytes before an accepted call
unfoldable pub back : Rule → Mode → Phase → Call → List ℕ → List ℕ
back rule m p c st = undo m (steps rule m p c) st

-- what a step back hands back: refused, the 48 bytes given
abbrev pub settled : ℕ → List ℕ → List ℕ → Before
settled zero st b = record { st = b; number = 0 }
settled (suc n) st b = record { st = st; number = suc n }

unfoldable pub before_of : Rule → Mode → Phase → Call → List ℕ → Before
before_of rule m p c st = settled (call_number m c) st (back rule m p c st)

-- ---- the phase after an accepted call, from the rule, its kind and the length of its input or output
abbrev pub unless_empty : ℕ → Phase → Phase → Phase
unless_empty zero p q = p
unless_empty (suc n) p q = q

-- a message: an empty one has no block under the crate rule
abbrev pub message_phase : Rule → ℕ → Phase → Phase
message_phase Crate n p = unless_empty n p Down
message_phase Specification n p = Down

abbrev pub phase_of : Rule → Phase → Kind → ℕ → Phase
phase_of rule p Absorb n = Down
phase_of rule p AbsorbMore n = unless_empty n p Down
phase_of rule p Squeeze n = Up
phase_of rule p SqueezeKey n = Up
phase_of rule p SqueezeMore n = unless_empty n p Up
phase_of rule p Key n = Down
phase_of rule p Encrypt n = message_phase rule n p
phase_of rule p Seal n = Up

-- the same of a call
unfoldable pub phase_after : Rule → Phase → Call → Phase
phase_after rule p (absorbs x) = phase_of rule p Absorb (length x)
phase_after rule p (absorbs_more x r) = phase_of rule p AbsorbMore (length x)
phase_after rule p (squeezes n) = phase_of rule p Squeeze n
phase_after rule p (squeezes_key n) = phase_of rule p SqueezeKey n
phase_after rule p (squeezes_more n) = phase_of rule p SqueezeMore n
phase_after rule p (keys key has_id id has_nonce nonce has_counter counter) = phase_of rule p Key (length key)
phase_after rule p (encrypts x) = phase_of rule p Encrypt (length x)
phase_after rule p (seals x) = phase_of rule p Seal (length x)

-- ---- lists of calls
unfoldable pub forward_all : Rule → List Call → Duplex → Duplex
forward_all rule [] d = d
forward_all rule (c ∷ cs) d = forward_all rule cs (forward rule c d)

-- the phase after all of them, and the phase before each, from the rule, the first phase and the calls before it
unfoldable pub phase_after_all : Rule → Phase → List Call → Phase
phase_after_all rule p [] = p
phase_after_all rule p (c ∷ cs) = phase_after_all rule (phase_after rule p c) cs

unfoldable pub phases_along : Rule → Phase → List Call → List Phase
phases_along rule p [] = []
phases_along rule p (c ∷ cs) = p ∷ phases_along rule (phase_after rule p c) cs

-- the last call is undone first
unfoldable pub back_all : Rule → Mode → Phase → List Call → List ℕ → List ℕ
back_all rule m p [] st = st
back_all rule m p (c ∷ cs) st = back rule m p c (back_all rule m (phase_after rule p c) cs st)

-- every input of the call is a list of bytes
abbrev pub of_bytes : Call → Type 0
of_bytes (absorbs x) = All 256 x
of_bytes (absorbs_more x r) = All 256 x
of_bytes (squeezes n) = Unit {0}
of_bytes (squeezes_key n) = Unit {0}
of_bytes (squeezes_more n) = Unit {0}
of_bytes (keys key has_id id has_nonce nonce has_counter counter) =
    All 256 key × All 256 id × All 256 nonce × All 256 counter
of_bytes (encrypts x) = All 256 x
of_bytes (seals x) = All 256 x

-- every call of the list is accepted, and its inputs are bytes
abbrev pub accepted : Mode → List Call → Type 0
accepted m [] = Unit {0}
accepted m (c ∷ cs) = (call_number m c ≡ 0) × of_bytes c × accepted m cs
