-- What each accepted call costs in permutations, from public parts alone: mode, rule, phase, presence flags, rates, lengths and allowances.
use denote.Ref.{Bor}
use Rattle.std.specs.Prelude.{Bool, true, false, Option, None, Some, List, length, ℕ, zero, suc, ◌+◌, ◌-◌, ◌*◌, ◌%◌, min, max}
use Rattle.laws.specs.Blocks.{block_count}
use Rattle.xoodyak.specs.declared.cyclist.Mode.{Mode}
use Rattle.xoodyak.specs.declared.cyclist.Phase.{Phase}
use Rattle.xoodyak.specs.declared.cyclist.Phase.TheVariants.{Up, Down}
use Rattle.xoodyak.specs.declared.Rule.{Rule}
use Rattle.xoodyak.specs.declared.Rule.TheVariants.{Crate, Specification}
use Rattle.xoodyak.specs.Cyclist.{squeeze_rate}
use Rattle.xoodyak.specs.Ups.{if_given_ups}
use Rattle.xoodyak.specs.Feed.{is_open, place_in}

-- one per block, less one if the phase was Up; an empty input is one block
abbrev pub less_up : Phase → ℕ → ℕ
less_up Up n = n - 1
less_up Down n = n

unfoldable pub absorb_share : Phase → ℕ → ℕ → ℕ
absorb_share phase r n = less_up phase (max 1 (block_count r n))

-- absorb_more and squeeze_more: one per block, none if empty
unfoldable pub more_share : ℕ → ℕ → ℕ
more_share r n = block_count r n

-- squeeze: one per block, one for none
unfoldable pub squeeze_share : Mode → ℕ → ℕ
squeeze_share m n = max 1 (block_count (squeeze_rate m) n)

-- encryption and decryption: one per block that the rule gives the message
unfoldable pub message_share : Rule → ℕ → ℕ
message_share Crate n = block_count 24 n
message_share Specification n = max 1 (block_count 24 n)

-- sealing and opening: one more for the tag
unfoldable pub seal_share : Rule → ℕ → ℕ
seal_share rule n = message_share rule n + 1

-- the key call, from the lengths of key, t, nonce and counter: key, t and a byte; the nonce beside a key id; the counter at rate 1
abbrev pub chosen_length : Bool → ℕ → ℕ → ℕ
chosen_length true id nonce = id
chosen_length false id nonce = nonce

unfoldable pub key_share : Phase → ℕ → Bool → ℕ → ℕ → Bool → ℕ → ℕ
key_share phase key has_id id nonce has_counter counter =
    absorb_share phase 44 (key + (chosen_length has_id id nonce + 1))
    + (if_given_ups has_id (absorb_share Down 44 nonce) + if_given_ups has_counter (absorb_share Down 1 counter))

-- an optional slice, absorbed after the key
abbrev pub given_share : ℕ → Option (Bor (List ℕ)) → ℕ
given_share r None = 0
given_share r (Some x) = absorb_share Down r (length x.now)

-- a feed, from the place, the allowance and the piece's length: the block begun last takes what it has room for, and each further block costs one
abbrev pub room_in : Bool → ℕ → ℕ
room_in true place = 24 - place
room_in false place = 0

unfoldable pub feed_share : ℕ → ℕ → ℕ → ℕ
feed_share place allowance n = min allowance (block_count 24 (n - room_in (is_open place) place))

-- the bytes that it takes
unfoldable pub feed_taken : ℕ → ℕ → ℕ → ℕ
feed_taken place allowance n = min n (room_in (is_open place) place + 24 * allowance)

-- the place after so many bytes
unfoldable pub place_after : ℕ → ℕ → ℕ
place_after place zero = place
place_after place (suc n) = (place_in (is_open place) place + n) % 24 + 1

-- a finish: one for the tag, and one for the specification's empty block
unfoldable pub finish_share : Rule → ℕ → ℕ
finish_share Crate place = 1
finish_share Specification zero = 2
finish_share Specification (suc place) = 1
