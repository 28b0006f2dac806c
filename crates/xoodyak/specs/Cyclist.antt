-- What each call does to the 48 bytes, the mode and the phase, from the Xoodyak specification with the crate's differences.
use denote.Ref.{Bor}
use Rattle.std.specs.Prelude.{Bool, true, false, Option, None, Some, List, [], ◌∷◌, ◌++◌, ℕ, ◌-◌, min, eqb, length, replicate, take}
use Rattle.laws.specs.Words.{◌⊙◌}
use Rattle.laws.specs.Lists.{add_front, add_at}
use Rattle.laws.specs.Blocks.{cuts, blocks, sizes}
use Rattle.xoodoo.specs.Xoodoo.{xoodoo}
use Rattle.xoodyak.specs.declared.cyclist.Mode.{Mode}
use Rattle.xoodyak.specs.declared.cyclist.Mode.TheVariants.{Hash, Keyed}
use Rattle.xoodyak.specs.declared.cyclist.Phase.{Phase}
use Rattle.xoodyak.specs.declared.cyclist.Phase.TheVariants.{Up, Down}
use Rattle.xoodyak.specs.declared.cyclist.Duplex.{Duplex}
use Rattle.xoodyak.specs.declared.Rule.{Rule}
use Rattle.xoodyak.specs.declared.Rule.TheVariants.{Crate, Specification}

-- all zero, phase Up
abbrev pub fresh : Mode → Duplex
fresh m = record { st = replicate 48 0; mode = m; phase = Up }

abbrev pub absorb_rate : Mode → ℕ
absorb_rate Hash = 16
absorb_rate Keyed = 44

abbrev pub squeeze_rate : Mode → ℕ
squeeze_rate Hash = 16
squeeze_rate Keyed = 24

-- if Keyed, byte 47 gains cu
abbrev pub up_colour : Mode → ℕ → List ℕ → List ℕ
up_colour Hash cu st = st
up_colour Keyed cu st = add_at st 47 cu

-- in Hash, cd and 01
abbrev pub down_colour : Mode → ℕ → ℕ
down_colour Hash cd = cd ⊙ 1
down_colour Keyed cd = cd

-- Up and Down on the bytes
unfoldable pub up_bytes : Mode → ℕ → List ℕ → List ℕ
up_bytes m cu st = xoodoo (up_colour m cu st)

unfoldable pub down_bytes : Mode → List ℕ → ℕ → List ℕ → List ℕ
down_bytes m x cd st = add_at (add_at (add_front st x) (length x) 1) 47 (down_colour m cd)

-- Up(n, cu) answers the first n bytes after it
unfoldable pub up : Duplex → ℕ → Duplex
up d cu = record { st = up_bytes d.mode cu d.st; mode = d.mode; phase = Up }

unfoldable pub down : Duplex → List ℕ → ℕ → Duplex
down d x cd = record { st = down_bytes d.mode x cd d.st; mode = d.mode; phase = Down }

-- Up(0, 00) if the phase isn't Up
abbrev pub ready_from : Phase → Duplex → Duplex
ready_from Up d = d
ready_from Down d = up d 0

unfoldable pub ready : Duplex → Duplex
ready d = ready_from d.phase d

-- absorb: cd for the first block, 00 after
unfoldable pub absorb_blocks : List (List ℕ) → ℕ → Duplex → Duplex
absorb_blocks [] cd d = d
absorb_blocks (b ∷ bs) cd d = absorb_blocks bs 0 (down (ready d) b cd)

unfoldable pub absorb : ℕ → ℕ → Duplex → List ℕ → Duplex
absorb r cd d x = absorb_blocks (blocks r x) cd d

-- absorb_more: per block Up(0, 00), Down(block, 00)
unfoldable pub more_blocks : List (List ℕ) → Duplex → Duplex
more_blocks [] d = d
more_blocks (b ∷ bs) d = more_blocks bs (down (up d 0) b 0)

unfoldable pub absorb_more : ℕ → Duplex → List ℕ → Duplex
absorb_more r d x = more_blocks (cuts r x) d

-- Down(empty, 00), Up(00)
unfoldable pub next : Duplex → Duplex
next d = up (down d [] 0) 0

-- squeeze_more, block by block: the end, and the bytes
unfoldable pub nexts_end : List ℕ → Duplex → Duplex
nexts_end [] d = d
nexts_end (k ∷ ks) d = nexts_end ks (next d)

unfoldable pub nexts_out : List ℕ → Duplex → List ℕ
nexts_out [] d = []
nexts_out (k ∷ ks) d = take k (next d).st ++ nexts_out ks (next d)

unfoldable pub squeeze_more_end : Duplex → ℕ → Duplex
squeeze_more_end d n = nexts_end (sizes (squeeze_rate d.mode) n) d

unfoldable pub squeeze_more_out : Duplex → ℕ → List ℕ
squeeze_more_out d n = nexts_out (sizes (squeeze_rate d.mode) n) d

-- squeeze n with cu: Up of up to one rate, then more while bytes are wanted
unfoldable pub squeeze_end : Duplex → ℕ → ℕ → Duplex
squeeze_end d n cu = squeeze_more_end (up d cu) (n - squeeze_rate d.mode)

unfoldable pub squeeze_out : Duplex → ℕ → ℕ → List ℕ
squeeze_out d n cu = take (min (squeeze_rate d.mode) n) (up d cu).st ++ squeeze_more_out (up d cu) (n - squeeze_rate d.mode)

-- the blocks of a message: an empty one has none under the crate rule, since the Rust decides, and one empty block under the specification's
unfoldable pub message_blocks : Rule → List ℕ → List (List ℕ)
message_blocks Crate m = cuts 24 m
message_blocks Specification m = blocks 24 m

-- whether a message of n bytes is that empty block
abbrev pub empty_block : Rule → ℕ → Bool
empty_block Crate n = false
empty_block Specification n = eqb n 0

-- encrypt: Up with cu, the block xor its answer, Down with the plaintext block; 00 after the first block
unfoldable pub enc_end : List (List ℕ) → ℕ → Duplex → Duplex
enc_end [] cu d = d
enc_end (b ∷ bs) cu d = enc_end bs 0 (down (up d cu) b 0)

unfoldable pub enc_out : List (List ℕ) → ℕ → Duplex → List ℕ
enc_out [] cu d = []
enc_out (b ∷ bs) cu d = add_front b (up d cu).st ++ enc_out bs 0 (down (up d cu) b 0)

-- decrypt: the same, with the recovered plaintext in Down
unfoldable pub dec_end : List (List ℕ) → ℕ → Duplex → Duplex
dec_end [] cu d = d
dec_end (b ∷ bs) cu d = dec_end bs 0 (down (up d cu) (add_front b (up d cu).st) 0)

unfoldable pub dec_out : List (List ℕ) → ℕ → Duplex → List ℕ
dec_out [] cu d = []
dec_out (b ∷ bs) cu d = add_front b (up d cu).st ++ dec_out bs 0 (down (up d cu) (add_front b (up d cu).st) 0)

-- ratchet: squeeze 16 with 10, absorb those 16 with 00
unfoldable pub ratchet : Duplex → Duplex
ratchet d = absorb 16 0 (squeeze_end d 16 0x10) (squeeze_out d 16 0x10)

-- an optional argument: empty where the flag says absent
abbrev pub given : Bool → List ℕ → List ℕ
given true x = x
given false x = []

-- the key id where one is given, the nonce otherwise
abbrev pub chosen : Bool → List ℕ → List ℕ → List ℕ
chosen true id nonce = id
chosen false id nonce = nonce

abbrev pub if_given : Bool → Duplex → Duplex → Duplex
if_given true a b = a
if_given false a b = b

-- the key call, absent arguments being empty: key, t and the one-byte length of t at 44 with 02;
-- if a key id is given, the nonce at 44 with 00; if a counter is given, it at rate 1 with 00
unfoldable pub key_call : Duplex → List ℕ → Bool → List ℕ → List ℕ → Bool → List ℕ → Duplex
key_call d key has_id id nonce has_counter counter =
    let t = chosen has_id id nonce in
    let a = absorb 44 2 d (key ++ (t ++ (length t ∷ []))) in
    let b = if_given has_id (absorb 44 0 a nonce) a in
    if_given has_counter (absorb 1 0 b counter) b

-- the bytes of an optional slice, none where it is absent
abbrev pub bytes_in : Option (Bor (List ℕ)) → List ℕ
bytes_in None = []
bytes_in (Some x) = x.now

-- an optional slice absorbed with 00
abbrev pub absorb_given : ℕ → Duplex → Option (Bor (List ℕ)) → Duplex
absorb_given r d None = d
absorb_given r d (Some x) = absorb r 0 d x.now
