-- A step back and the call of a session: the same numbers, and where accepted the end that is walked back from.
use mathlib.Core.Path.{◌≡◌, refl, sym, ap, ◌∙◌}
use mathlib.Core.Bool.{Bool, true, false}
use mathlib.Core.List.{List, [], ◌∷◌, ◌++◌}
use Prim.Native.Nat.{ℕ, zero, suc, ◌+◌, ◌-◌, ◌<◌, ◌≤◌, min}
use native.Mathlib.Nat.{not-suc-le-zero, le_refl}
use native.Mathlib.Omega.{arith}
use lib.Dec.{lit<, lit≤}
use lib.ListN.{length, take, drop, length-append, length-take, length-drop}
use lib.Seq.{take_at, drop_at}
use Rattle.laws.specs.Lists.{add_front}
use Rattle.laws.specs.Blocks.{cuts, blocks}
use Rattle.laws.proofs.Lists.{length-add_front}
use Rattle.laws.proofs.Blocks.{cuts-step, cuts-nil}
use Rattle.xoodyak.specs.declared.cyclist.Mode.{Mode}
use Rattle.xoodyak.specs.declared.cyclist.Phase.{Phase}
use Rattle.xoodyak.specs.declared.Rule.{Rule}
use Rattle.xoodyak.specs.declared.Rule.TheVariants.{Crate, Specification}
use Rattle.xoodyak.specs.declared.Session.{Session}
use Rattle.xoodyak.specs.declared.cyclist.Duplex.{Duplex}
use Rattle.xoodyak.specs.Cyclist.{up, down, squeeze_end, message_blocks, enc_end, dec_end, dec_out}
use Rattle.xoodyak.specs.Numbers.{first, unfinished_number, keyed_number, room_number, tail_number}
use Rattle.xoodyak.specs.Calls.{Outcome, settle, mode, absorb_of, absorb_more_of, squeeze_of, squeeze_more_of, key_of, encrypt_end, encrypt_of, encrypt_in_place_of, decrypt_end, decrypt_out, decrypt_of, decrypt_in_place_of, same_bytes, verdict, opened, tag_end, tag_out, seal_detached_of, seal_of, seal_in_place_detached_of, seal_in_place_of}
use Rattle.theorems.proofs.Crypt.{some_cuts, first-zero}
use Rattle.walkback.specs.Walk.{Call, absorbs, absorbs_more, squeezes, squeezes_key, squeezes_more, keys, encrypts, seals, call_number, forward, back, settled, before_of}

-- ---- a step back has the number of its call: refused, it hands back the 48 bytes given
settled-number : (n : ℕ) (st b : List ℕ) → (settled n st b).number ≡ n
settled-number zero st b = refl
settled-number (suc n) st b = refl

settled-given : (n : ℕ) (st b : List ℕ) → 0 < n → (settled n st b).st ≡ st
settled-given zero st b h = absurd (not-suc-le-zero h)
settled-given (suc n) st b h = refl

module _ (rule : Rule) (m : Mode) (p : Phase) (c : Call) (st : List ℕ) where
  pub step-number : (before_of rule m p c st).number ≡ call_number m c
  unfolding before_of
  step-number = settled-number (call_number m c) st (back rule m p c st)

  pub step-refused : 0 < (before_of rule m p c st).number → (before_of rule m p c st).st ≡ st
  unfolding before_of
  step-refused h = settled-given (call_number m c) st (back rule m p c st) (rw step-number at h)

  pub step-accepted : (before_of rule m p c st).number ≡ 0 → (before_of rule m p c st).st ≡ back rule m p c st
  unfolding before_of
  step-accepted h = rw (sym step-number ∙ h)

-- ---- and its call is the session's; number 7 is of an unfinished message, which walking back has not
settle-number : (n k : ℕ) (s : Session) (o : List ℕ) (x : Outcome) → x.number ≡ 0 → (settle n k s o x).number ≡ n
settle-number zero k s o x h = h
settle-number (suc n) k s o x h = refl

first-assoc : (a b c : ℕ) → first (first a b) c ≡ first a (first b c)
first-assoc zero b c = refl
first-assoc (suc a) b c = refl

-- ---- calls of both modes
pub absorb-number : (s : Session) (x : List ℕ) → (absorb_of s x).number ≡ first (unfinished_number s) (call_number (mode s) (absorbs x))
unfolding absorb_of call_number
absorb-number s x = rw (first-zero (unfinished_number s)) (settle-number _ _ s [] _ refl)

pub absorb-end : (s : Session) (x : List ℕ) → (absorb_of s x).number ≡ 0 → (absorb_of s x).session.duplex ≡ forward s.rule (absorbs x) s.duplex
unfolding absorb_of forward call_number
absorb-end s x h = rw (sym (first-zero (unfinished_number s)) ∙ sym (absorb-number s x) ∙ h)

pub absorb-more-number : (s : Session) (x : List ℕ) (r : ℕ) → (absorb_more_of s x r).number ≡ first (unfinished_number s) (call_number (mode s) (absorbs_more x r))
unfolding absorb_more_of call_number
absorb-more-number s x r = settle-number _ _ s [] _ refl

pub absorb-more-end : (s : Session) (x : List ℕ) (r : ℕ) → (absorb_more_of s x r).number ≡ 0
    → (absorb_more_of s x r).session.duplex ≡ forward s.rule (absorbs_more x r) s.duplex
unfolding absorb_more_of forward call_number
absorb-more-end s x r h = rw (sym (absorb-more-number s x r) ∙ h)

pub squeeze-number : (s : Session) (o : List ℕ) → (squeeze_of 0x40 s o).number ≡ first (unfinished_number s) (call_number (mode s) (squeezes (length o)))
unfolding squeeze_of call_number
squeeze-number s o = rw (first-zero (unfinished_number s)) (settle-number _ _ s o _ refl)

pub squeeze-end : (s : Session) (o : List ℕ) → (squeeze_of 0x40 s o).number ≡ 0 → (squeeze_of 0x40 s o).session.duplex ≡ forward s.rule (squeezes (length o)) s.duplex
unfolding squeeze_of forward call_number
squeeze-end s o h = rw (sym (first-zero (unfinished_number s)) ∙ sym (squeeze-number s o) ∙ h)

pub squeeze-key-number : (s : Session) (o : List ℕ) → (squeeze_of 0x20 s o).number ≡ first (unfinished_number s) (call_number (mode s) (squeezes_key (length o)))
unfolding squeeze_of call_number
squeeze-key-number s o = rw (first-zero (unfinished_number s)) (settle-number _ _ s o _ refl)

pub squeeze-key-end : (s : Session) (o : List ℕ) → (squeeze_of 0x20 s o).number ≡ 0 → (squeeze_of 0x20 s o).session.duplex ≡ forward s.rule (squeezes_key (length o)) s.duplex
unfolding squeeze_of forward call_number
squeeze-key-end s o h = rw (sym (first-zero (unfinished_number s)) ∙ sym (squeeze-key-number s o) ∙ h)

pub squeeze-more-number : (s : Session) (o : List ℕ) → (squeeze_more_of s o).number ≡ first (unfinished_number s) (call_number (mode s) (squeezes_more (length o)))
unfolding squeeze_more_of call_number
squeeze-more-number s o = rw (first-zero (unfinished_number s)) (settle-number _ _ s o _ refl)

pub squeeze-more-end : (s : Session) (o : List ℕ) → (squeeze_more_of s o).number ≡ 0 → (squeeze_more_of s o).session.duplex ≡ forward s.rule (squeezes_more (length o)) s.duplex
unfolding squeeze_more_of forward call_number
squeeze-more-end s o h = rw (sym (first-zero (unfinished_number s)) ∙ sym (squeeze-more-number s o) ∙ h)

-- ---- the key call
module _ (s : Session) (key : List ℕ) (has_id : Bool) (id : List ℕ) (has_nonce : Bool) (nonce : List ℕ) (has_counter : Bool) (counter : List ℕ) where
  pub key-number : (key_of s key has_id id has_nonce nonce has_counter counter).number ≡ first (unfinished_number s) (call_number (mode s) (keys key has_id id has_nonce nonce has_counter counter))
  unfolding key_of call_number keyed_number
  key-number = rw (← first-assoc (unfinished_number s)) (settle-number _ _ s [] _ refl)

  pub key-end : (key_of s key has_id id has_nonce nonce has_counter counter).number ≡ 0
      → (key_of s key has_id id has_nonce nonce has_counter counter).session.duplex ≡ forward s.rule (keys key has_id id has_nonce nonce has_counter counter) s.duplex
  unfolding key_of forward call_number keyed_number
  key-end h = rw (first-assoc (unfinished_number s)) (rw (sym key-number ∙ h))

-- ---- encryption and sealing: numbers 3 and 10 are of a buffer, which walking back has not
pub encrypt-number : (s : Session) (o m : List ℕ) → (encrypt_of s o m).number ≡ first (first (unfinished_number s) (call_number (mode s) (encrypts m))) (room_number (length o) (length m))
unfolding encrypt_of call_number keyed_number
encrypt-number s o m = settle-number _ _ s o _ refl

pub encrypt-end : (s : Session) (o m : List ℕ) → (encrypt_of s o m).number ≡ 0 → (encrypt_of s o m).session.duplex ≡ forward s.rule (encrypts m) s.duplex
unfolding encrypt_of encrypt_end forward call_number keyed_number
encrypt-end s o m h = rw (sym (encrypt-number s o m) ∙ h)

pub encrypt-in-place-number : (s : Session) (b : List ℕ) → (encrypt_in_place_of s b).number ≡ first (unfinished_number s) (call_number (mode s) (encrypts b))
unfolding encrypt_in_place_of call_number keyed_number
encrypt-in-place-number s b = settle-number _ _ s b _ refl

pub encrypt-in-place-end : (s : Session) (b : List ℕ) → (encrypt_in_place_of s b).number ≡ 0 → (encrypt_in_place_of s b).session.duplex ≡ forward s.rule (encrypts b) s.duplex
unfolding encrypt_in_place_of encrypt_end forward call_number keyed_number
encrypt-in-place-end s b h = rw (sym (encrypt-in-place-number s b) ∙ h)

pub seal-detached-number : (s : Session) (o m : List ℕ) → (seal_detached_of s o m).number ≡ first (first (unfinished_number s) (call_number (mode s) (seals m))) (room_number (length o) (length m))
unfolding seal_detached_of call_number keyed_number
seal-detached-number s o m = settle-number _ _ s o _ refl

pub seal-detached-end : (s : Session) (o m : List ℕ) → (seal_detached_of s o m).number ≡ 0 → (seal_detached_of s o m).session.duplex ≡ forward s.rule (seals m) s.duplex
unfolding seal_detached_of encrypt_end tag_end forward call_number keyed_number
seal-detached-end s o m h = rw (sym (seal-detached-number s o m) ∙ h)

pub seal-number : (s : Session) (o m : List ℕ) → (seal_of s o m).number ≡ first (first (unfinished_number s) (call_number (mode s) (seals m))) (room_number (length o) (length m + 16))
unfolding seal_of call_number keyed_number
seal-number s o m = settle-number _ _ s o _ refl

pub seal-end : (s : Session) (o m : List ℕ) → (seal_of s o m).number ≡ 0 → (seal_of s o m).session.duplex ≡ forward s.rule (seals m) s.duplex
unfolding seal_of encrypt_end tag_end forward call_number keyed_number
seal-end s o m h = rw (sym (seal-number s o m) ∙ h)

pub seal-in-place-detached-number : (s : Session) (b : List ℕ) → (seal_in_place_detached_of s b).number ≡ first (unfinished_number s) (call_number (mode s) (seals b))
unfolding seal_in_place_detached_of call_number keyed_number
seal-in-place-detached-number s b = settle-number _ _ s b _ refl

pub seal-in-place-detached-end : (s : Session) (b : List ℕ) → (seal_in_place_detached_of s b).number ≡ 0
    → (seal_in_place_detached_of s b).session.duplex ≡ forward s.rule (seals b) s.duplex
unfolding seal_in_place_detached_of encrypt_end tag_end forward call_number keyed_number
seal-in-place-detached-end s b h = rw (sym (seal-in-place-detached-number s b) ∙ h)

pub seal-in-place-number : (s : Session) (b : List ℕ)
    → (seal_in_place_of s b).number ≡ first (first (unfinished_number s) (call_number (mode s) (seals (take (length b - 16) b)))) (tail_number (length b))
unfolding seal_in_place_of call_number keyed_number
seal-in-place-number s b = settle-number _ _ s b _ refl

pub seal-in-place-end : (s : Session) (b : List ℕ) → (seal_in_place_of s b).number ≡ 0
    → (seal_in_place_of s b).session.duplex ≡ forward s.rule (seals (take (length b - 16) b)) s.duplex
unfolding seal_in_place_of encrypt_end tag_end forward call_number keyed_number
seal-in-place-end s b h = rw (sym (seal-in-place-number s b) ∙ h)

-- ---- a decryption is walked back as the encryption of what it recovered, where B gives the blocks of a message
abbrev AsEncryption : (List ℕ → List (List ℕ)) → List ℕ → ℕ → Duplex → Type 0
AsEncryption B c cu d = (length (dec_out (B c) cu d) ≡ length c) × (enc_end (B (dec_out (B c) cu d)) cu d ≡ dec_end (B c) cu d)

-- one block, where it holds of the others
as-encryption-step : (c : List ℕ) (k : ℕ) → 0 < length c → k ≡ min 24 (length c)
    → ((cu : ℕ) (d : Duplex) → AsEncryption (cuts 24) (drop k c) cu d) → (cu : ℕ) (d : Duplex) → AsEncryption (cuts 24) c cu d
unfolding dec_out dec_end enc_end
as-encryption-step c k h e ih cu d =
    let b = add_front (take k c) (up d cu).st in
    let t = down (up d cu) b 0 in
    let r = dec_out (cuts 24 (drop k c)) 0 t in
    let es : cuts 24 c ≡ take k c ∷ cuts 24 (drop k c) = cuts-step 24 c k (lit< tt) h e in
    let lb : length b ≡ k = simp (length-add_front, length-take) (omega arith) in
    let lr : length r ≡ length c - k = (ih 0 t).0 ∙ length-drop k c in
    let l : length (b ++ r) ≡ length c = rw length-append (omega arith) in
    let eb : cuts 24 (b ++ r) ≡ b ∷ cuts 24 r =
    cuts-step 24 (b ++ r) k (lit< tt) (omega arith) (omega arith) ∙ rw (take_at b r k lb, drop_at b r k lb) in
    (rw es l, rw es (rw eb (ih 0 t).1))

as-encryption : (n : ℕ) (c : List ℕ) → length c ≤ n → (cu : ℕ) (d : Duplex) → AsEncryption (cuts 24) c cu d
unfolding dec_out dec_end enc_end
as-encryption zero [] h cu d = rw (cuts-nil 24 [] (lit≤ tt)) (refl, rw (cuts-nil 24 [] (lit≤ tt)))
as-encryption zero (a ∷ c) h cu d = absurd (not-suc-le-zero h)
as-encryption (suc n) [] h cu d = rw (cuts-nil 24 [] (lit≤ tt)) (refl, rw (cuts-nil 24 [] (lit≤ tt)))
as-encryption (suc n) (a ∷ c) h cu d =
    let k = min 24 (suc (length c)) in
    as-encryption-step (a ∷ c) k (omega arith) refl (as-encryption n (drop k (a ∷ c)) (rw length-drop (omega arith))) cu d

-- under either rule, since what is recovered is as long as the ciphertext
message-as-encryption : (rule : Rule) (c : List ℕ) (cu : ℕ) (d : Duplex) → AsEncryption (message_blocks rule) c cu d
unfolding message_blocks blocks dec_out dec_end enc_end
message-as-encryption Crate c cu d = as-encryption (length c) c (le_refl _) cu d
message-as-encryption Specification [] cu d = (refl, refl)
message-as-encryption Specification (a ∷ c) cu d =
    let h = as-encryption (length (a ∷ c)) (a ∷ c) (le_refl _) cu d in
    (h.0, rw (some_cuts Specification (dec_out (cuts 24 (a ∷ c)) cu d) (omega (arith, h.0))) h.1)

decrypted-end : (s : Session) (c : List ℕ) → (decrypt_end s c).duplex ≡ forward s.rule (encrypts (decrypt_out s c)) s.duplex
unfolding decrypt_end decrypt_out forward
decrypted-end s c = sym (message-as-encryption s.rule c 0x80 s.duplex).1

pub decrypt-number : (s : Session) (o c : List ℕ)
    → (decrypt_of s o c).number ≡ first (first (unfinished_number s) (call_number (mode s) (encrypts (decrypt_out s c)))) (room_number (length o) (length c))
unfolding decrypt_of call_number keyed_number
decrypt-number s o c = settle-number _ _ s o _ refl

pub decrypt-end : (s : Session) (o c : List ℕ) → (decrypt_of s o c).number ≡ 0
    → (decrypt_of s o c).session.duplex ≡ forward s.rule (encrypts (decrypt_out s c)) s.duplex
unfolding decrypt_of call_number keyed_number
decrypt-end s o c h = rw (sym (decrypt-number s o c) ∙ h) (decrypted-end s c)

pub decrypt-in-place-number : (s : Session) (b : List ℕ) → (decrypt_in_place_of s b).number ≡ first (unfinished_number s) (call_number (mode s) (encrypts (decrypt_out s b)))
unfolding decrypt_in_place_of call_number keyed_number
decrypt-in-place-number s b = settle-number _ _ s b _ refl

pub decrypt-in-place-end : (s : Session) (b : List ℕ) → (decrypt_in_place_of s b).number ≡ 0
    → (decrypt_in_place_of s b).session.duplex ≡ forward s.rule (encrypts (decrypt_out s b)) s.duplex
unfolding decrypt_in_place_of call_number keyed_number
decrypt-in-place-end s b h = rw (sym (decrypt-in-place-number s b) ∙ h) (decrypted-end s b)

-- an opening, whether the tag was right or not, ends where the sealing of what it recovered ends
pub verdict-end : (v : Bool) (s : Session) (good bad : List ℕ) (u : ℕ) → (verdict v s good bad u).session ≡ s
verdict-end true s good bad u = refl
verdict-end false s good bad u = refl

pub open-end : (s : Session) (t c good bad : List ℕ) → (opened s t c good bad).session.duplex ≡ forward s.rule (seals (decrypt_out s c)) s.duplex
unfolding opened tag_end forward
open-end s t c good bad =
    ap (λ e. e.duplex) (verdict-end (same_bytes (tag_out (decrypt_end s c)) t) (tag_end (decrypt_end s c)) good bad _)
    ∙ ap (λ d. squeeze_end d 16 0x40) (decrypted-end s c)
