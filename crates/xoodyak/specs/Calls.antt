-- The outcome of each public call: the session handed back, the number, the tag, what the lent buffer then holds and the permutations spent.
use Rattle.std.specs.Prelude.{Bool, true, false, List, [], ◌∷◌, ◌++◌, ℕ, zero, suc, ◌+◌, ◌-◌, eqb, length, replicate, take, drop}
use Rattle.xoodyak.specs.declared.cyclist.Mode.{Mode}
use Rattle.xoodyak.specs.declared.cyclist.Mode.TheVariants.{Hash, Keyed}
use Rattle.xoodyak.specs.declared.cyclist.Duplex.{Duplex}
use Rattle.xoodyak.specs.declared.tag.Tag.{Tag}
use Rattle.xoodyak.specs.declared.Rule.{Rule}
use Rattle.xoodyak.specs.declared.feed.Kind.{Kind}
use Rattle.xoodyak.specs.declared.feed.Kind.TheVariants.{Seal, Open}
use Rattle.xoodyak.specs.declared.feed.Message.{Message}
use Rattle.xoodyak.specs.declared.Session.{Session}
use Rattle.xoodyak.specs.declared.Answer.{Answer}
use Rattle.xoodyak.specs.declared.Sealed.{Sealed}
use Rattle.xoodyak.specs.Cyclist.{fresh, absorb_rate, absorb, absorb_more, squeeze_end, squeeze_out, squeeze_more_end, squeeze_more_out, message_blocks, enc_end, enc_out, dec_end, dec_out, ratchet, given, key_call}
use Rattle.xoodyak.specs.Ups.{absorb_ups, absorb_more_ups, squeeze_more_ups, squeeze_ups, enc_ups, dec_ups, ratchet_ups, key_call_ups}
use Rattle.xoodyak.specs.Numbers.{first, unfinished_number, keyed_number, key_number, room_number, missing, tail_number, rate_number}

pub record Outcome : Type 0 where
  pub session : Session
  pub number : ℕ
  pub missing : ℕ
  pub tag : List ℕ
  pub bytes : List ℕ
  pub spent : ℕ

abbrev pub no_tag : List ℕ
no_tag = replicate 16 0

-- what the code hands back of it
abbrev pub answer_of : Outcome → Answer
answer_of x = record { session = x.session; number = x.number; missing = x.missing; spent = x.spent }

abbrev pub sealed_of : Outcome → Sealed
sealed_of x = record { session = x.session; number = x.number; missing = x.missing; tag = record { bytes = x.tag }; spent = x.spent }

-- accepted, with the Up steps made; refused, where session and buffer hold what they held and none is made
abbrev pub taken : Session → List ℕ → List ℕ → ℕ → Outcome
taken s t o u = record { session = s; number = 0; missing = 0; tag = t; bytes = o; spent = u }

abbrev pub refused : Session → ℕ → ℕ → List ℕ → Outcome
refused s n k o = record { session = s; number = n; missing = k; tag = no_tag; bytes = o; spent = 0 }

-- refused with the number given and the bytes that an output lacks, or what the call does where the number is 0
abbrev pub settle : ℕ → ℕ → Session → List ℕ → Outcome → Outcome
settle zero k s o x = x
settle (suc n) k s o x = refused s (suc n) k o

-- a call that writes a result into an output with so much room: `before` is what comes before 3
abbrev pub settle_room : ℕ → ℕ → ℕ → Session → List ℕ → Outcome → Outcome
settle_room before room result s o x =
    let n = first before (room_number room result) in
    settle n (missing n room result) s o x

-- no message is begun
abbrev pub idle : Message
idle = record { begun = false; kind = Seal; place = 0 }

-- a session made new under a rule, and one whose bytes and phase moved on
abbrev pub session : Rule → Mode → Session
session rule m = record { duplex = fresh m; rule = rule; message = idle }

abbrev pub onward : Session → Duplex → Session
onward s d = record { duplex = d; rule = s.rule; message = s.message }

abbrev pub mode : Session → Mode
mode s = s.duplex.mode

-- ---- calls of both modes; every call on an unfinished message is refused with 7, before any other number
unfoldable pub absorb_of : Session → List ℕ → Outcome
absorb_of s x = settle (unfinished_number s) 0 s [] (taken (onward s (absorb (absorb_rate (mode s)) 3 s.duplex x)) no_tag [] (absorb_ups (absorb_rate (mode s)) 3 s.duplex x))

unfoldable pub absorb_more_of : Session → List ℕ → ℕ → Outcome
absorb_more_of s x r = settle (first (unfinished_number s) (rate_number (mode s) r)) 0 s [] (taken (onward s (absorb_more r s.duplex x)) no_tag [] (absorb_more_ups r s.duplex x))

-- squeeze has colour 40, squeeze_key 20
unfoldable pub squeeze_of : ℕ → Session → List ℕ → Outcome
squeeze_of cu s o =
    settle (unfinished_number s) 0 s o
    (taken (onward s (squeeze_end s.duplex (length o) cu)) no_tag (squeeze_out s.duplex (length o) cu) (squeeze_ups s.duplex (length o) cu))

unfoldable pub squeeze_more_of : Session → List ℕ → Outcome
squeeze_more_of s o =
    settle (unfinished_number s) 0 s o
    (taken (onward s (squeeze_more_end s.duplex (length o))) no_tag (squeeze_more_out s.duplex (length o)) (squeeze_more_ups s.duplex (length o)))

-- ---- keyed calls
unfoldable pub key_of : Session → List ℕ → Bool → List ℕ → Bool → List ℕ → Bool → List ℕ → Outcome
key_of s key has_id id has_nonce nonce has_counter counter =
    settle (first (keyed_number s) (key_number (length key) (length (given has_id id)) (length (given has_nonce nonce)))) 0 s []
    (taken (onward s (key_call s.duplex key has_id (given has_id id) (given has_nonce nonce) has_counter counter)) no_tag [] (key_call_ups s.duplex key has_id (given has_id id) (given has_nonce nonce) has_counter counter))

-- refused, it hands back a fresh Hash session with that rule
unfoldable pub new_of : Rule → List ℕ → Bool → List ℕ → Bool → List ℕ → Bool → List ℕ → Outcome
new_of rule key has_nonce nonce has_id id has_counter counter =
    settle (key_number (length key) (length (given has_id id)) (length (given has_nonce nonce))) 0 (session rule Hash) []
    (taken (onward (session rule Keyed) (key_call (fresh Keyed) key has_id (given has_id id) (given has_nonce nonce) has_counter counter)) no_tag [] (key_call_ups (fresh Keyed) key has_id (given has_id id) (given has_nonce nonce) has_counter counter))

unfoldable pub ratchet_of : Session → Outcome
ratchet_of s = settle (keyed_number s) 0 s [] (taken (onward s (ratchet s.duplex)) no_tag [] (ratchet_ups s.duplex))

-- a message encrypted or decrypted, in the blocks that the session's rule gives it: the first Up has 80
unfoldable pub encrypt_end : Session → List ℕ → Session
encrypt_end s m = onward s (enc_end (message_blocks s.rule m) 0x80 s.duplex)

unfoldable pub encrypt_out : Session → List ℕ → List ℕ
encrypt_out s m = enc_out (message_blocks s.rule m) 0x80 s.duplex

unfoldable pub decrypt_end : Session → List ℕ → Session
decrypt_end s c = onward s (dec_end (message_blocks s.rule c) 0x80 s.duplex)

unfoldable pub decrypt_out : Session → List ℕ → List ℕ
decrypt_out s c = dec_out (message_blocks s.rule c) 0x80 s.duplex

unfoldable pub encrypt_ups : Session → List ℕ → ℕ
encrypt_ups s m = enc_ups (message_blocks s.rule m) 0x80 s.duplex

unfoldable pub decrypt_ups : Session → List ℕ → ℕ
decrypt_ups s c = dec_ups (message_blocks s.rule c) 0x80 s.duplex

-- bytes past the result keep what they held
unfoldable pub encrypt_of : Session → List ℕ → List ℕ → Outcome
encrypt_of s o m =
    settle_room (keyed_number s) (length o) (length m) s o
    (taken (encrypt_end s m) no_tag (encrypt_out s m ++ drop (length m) o) (encrypt_ups s m))

unfoldable pub decrypt_of : Session → List ℕ → List ℕ → Outcome
decrypt_of s o c =
    settle_room (keyed_number s) (length o) (length c) s o
    (taken (decrypt_end s c) no_tag (decrypt_out s c ++ drop (length c) o) (decrypt_ups s c))

unfoldable pub encrypt_in_place_of : Session → List ℕ → Outcome
encrypt_in_place_of s b = settle (keyed_number s) 0 s b (taken (encrypt_end s b) no_tag (encrypt_out s b) (encrypt_ups s b))

unfoldable pub decrypt_in_place_of : Session → List ℕ → Outcome
decrypt_in_place_of s b = settle (keyed_number s) 0 s b (taken (decrypt_end s b) no_tag (decrypt_out s b) (decrypt_ups s b))

-- either of the two, by the kind of call
abbrev pub crypt_end : Kind → Session → List ℕ → Session
crypt_end Seal s m = encrypt_end s m
crypt_end Open s m = decrypt_end s m

abbrev pub crypt_out : Kind → Session → List ℕ → List ℕ
crypt_out Seal s m = encrypt_out s m
crypt_out Open s m = decrypt_out s m

abbrev pub crypt_of : Kind → Session → List ℕ → List ℕ → Outcome
crypt_of Seal s o m = encrypt_of s o m
crypt_of Open s o m = decrypt_of s o m

abbrev pub crypt_in_place_of : Kind → Session → List ℕ → Outcome
crypt_in_place_of Seal s b = encrypt_in_place_of s b
crypt_in_place_of Open s b = decrypt_in_place_of s b

-- ---- the tag: 16 bytes squeezed
unfoldable pub tag_end : Session → Session
tag_end s = onward s (squeeze_end s.duplex 16 0x40)

unfoldable pub tag_out : Session → List ℕ
tag_out s = squeeze_out s.duplex 16 0x40

unfoldable pub tag_ups : Session → ℕ
tag_ups s = squeeze_ups s.duplex 16 0x40

abbrev pub both : Bool → Bool → Bool
both true b = b
both false b = false

-- equal in every byte
unfoldable pub same_bytes : List ℕ → List ℕ → Bool
same_bytes [] [] = true
same_bytes [] (b ∷ y) = false
same_bytes (a ∷ x) [] = false
same_bytes (a ∷ x) (b ∷ y) = both (eqb a b) (same_bytes x y)

-- 4: the tag differs in any of its 128 bits
abbrev pub tag_number : Bool → ℕ
tag_number true = 0
tag_number false = 4

unfoldable pub verify_of : Tag → List ℕ → ℕ
verify_of t b = tag_number (same_bytes t.bytes b)

-- ---- sealing: encrypt, then squeeze the tag
unfoldable pub seal_ups : Session → List ℕ → ℕ
seal_ups s m = encrypt_ups s m + tag_ups (encrypt_end s m)

unfoldable pub seal_detached_of : Session → List ℕ → List ℕ → Outcome
seal_detached_of s o m =
    settle_room (keyed_number s) (length o) (length m) s o
    (taken (tag_end (encrypt_end s m)) (tag_out (encrypt_end s m)) (encrypt_out s m ++ drop (length m) o) (seal_ups s m))

unfoldable pub seal_of : Session → List ℕ → List ℕ → Outcome
seal_of s o m =
    settle_room (keyed_number s) (length o) (length m + 16) s o
    (taken (tag_end (encrypt_end s m)) no_tag (encrypt_out s m ++ (tag_out (encrypt_end s m) ++ drop (length m + 16) o)) (seal_ups s m))

unfoldable pub seal_in_place_detached_of : Session → List ℕ → Outcome
seal_in_place_detached_of s b =
    settle (keyed_number s) 0 s b (taken (tag_end (encrypt_end s b)) (tag_out (encrypt_end s b)) (encrypt_out s b) (seal_ups s b))

-- the message is all of b but its last 16 bytes, which become the tag
unfoldable pub seal_in_place_of : Session → List ℕ → Outcome
seal_in_place_of s b =
    let m = take (length b - 16) b in
    settle (first (keyed_number s) (tail_number (length b))) 0 s b
    (taken (tag_end (encrypt_end s m)) no_tag (encrypt_out s m ++ tag_out (encrypt_end s m)) (seal_ups s m))

-- ---- opening: decrypt, squeeze the tag and compare; the session stands past the tag either way, and the Up steps are the same
abbrev pub verdict : Bool → Session → List ℕ → List ℕ → ℕ → Outcome
verdict true s good bad u = taken s no_tag good u
verdict false s good bad u = record { session = s; number = 4; missing = 0; tag = no_tag; bytes = bad; spent = u }

unfoldable pub open_ups : Session → List ℕ → ℕ
open_ups s c = decrypt_ups s c + tag_ups (decrypt_end s c)

unfoldable pub opened : Session → List ℕ → List ℕ → List ℕ → List ℕ → Outcome
opened s t c good bad = verdict (same_bytes (tag_out (decrypt_end s c)) t) (tag_end (decrypt_end s c)) good bad (open_ups s c)

-- the copying forms zero the whole output
unfoldable pub open_detached_of : Session → List ℕ → Tag → List ℕ → Outcome
open_detached_of s o t c =
    settle_room (keyed_number s) (length o) (length c) s o
    (opened s t.bytes c (decrypt_out s c ++ drop (length c) o) (replicate (length o) 0))

unfoldable pub open_of : Session → List ℕ → List ℕ → Outcome
open_of s o b =
    let c = take (length b - 16) b in
    settle_room (first (keyed_number s) (tail_number (length b))) (length o) (length b - 16) s o
    (opened s (drop (length b - 16) b) c (decrypt_out s c ++ drop (length b - 16) o) (replicate (length o) 0))

-- the detached in-place form zeroes its buffer
unfoldable pub open_in_place_detached_of : Session → List ℕ → Tag → Outcome
open_in_place_detached_of s b t =
    settle (keyed_number s) 0 s b (opened s t.bytes b (decrypt_out s b) (replicate (length b) 0))

-- the combined in-place form zeroes all but the last 16 bytes, which keep the received tag
unfoldable pub open_in_place_of : Session → List ℕ → Outcome
open_in_place_of s b =
    let c = take (length b - 16) b in
    let t = drop (length b - 16) b in
    settle (first (keyed_number s) (tail_number (length b))) 0 s b
    (opened s t c (decrypt_out s c ++ t) (replicate (length b - 16) 0 ++ t))
