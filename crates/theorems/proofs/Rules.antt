-- The rule of a session: set when it is made, also by a refused `new`, and kept by every call.
use mathlib.Core.Path.{◌≡◌, refl}
use mathlib.Core.Bool.{Bool, true, false}
use mathlib.Core.List.{List, []}
use Prim.Native.Nat.{ℕ, zero, suc, ◌+◌, ◌-◌}
use lib.ListN.{length}
use Rattle.xoodyak.specs.declared.cyclist.Mode.TheVariants.{Hash}
use Rattle.xoodyak.specs.declared.Rule.{Rule}
use Rattle.xoodyak.specs.declared.feed.Kind.{Kind}
use Rattle.xoodyak.specs.declared.feed.Kind.TheVariants.{Seal, Open}
use Rattle.xoodyak.specs.declared.tag.Tag.{Tag}
use Rattle.xoodyak.specs.declared.Session.{Session}
use Rattle.xoodyak.specs.Cyclist.{given}
use Rattle.xoodyak.specs.Numbers.{first, mode_number, kind_number, unfinished_number, keyed_number, key_number, room_number, tail_number, rate_number}
use Rattle.xoodyak.specs.Calls.{Outcome, settle, session, mode, verdict, opened, same_bytes, tag_out, tag_end, encrypt_end, decrypt_end, absorb_of, absorb_more_of, squeeze_of, squeeze_more_of, key_of, new_of, ratchet_of, encrypt_of, decrypt_of, encrypt_in_place_of, decrypt_in_place_of, seal_detached_of, seal_of, seal_in_place_detached_of, seal_in_place_of, open_detached_of, open_of, open_in_place_detached_of, open_in_place_of}
use Rattle.xoodyak.specs.Feed.{Portion, portioned, begin_of, feed_of, past_tag, finish_seal_of, finish_open_of}

-- the outcome's session has this rule
abbrev pub Keeps : Outcome → Rule → Type 0
Keeps x rule = x.session.rule ≡ rule

settle-keeps : (n k : ℕ) (s : Session) (o : List ℕ) (x : Outcome) → Keeps x s.rule → Keeps (settle n k s o x) s.rule
settle-keeps zero k s o x e = e
settle-keeps (suc n) k s o x e = refl

verdict-keeps : (b : Bool) (s : Session) (good bad : List ℕ) (u : ℕ) → Keeps (verdict b s good bad u) s.rule
verdict-keeps true s good bad u = refl
verdict-keeps false s good bad u = refl

opened-keeps : (s : Session) (t c good bad : List ℕ) → Keeps (opened s t c good bad) s.rule
unfolding opened tag_end decrypt_end
opened-keeps s t c good bad = verdict-keeps (same_bytes (tag_out (decrypt_end s c)) t) (tag_end (decrypt_end s c)) good bad _

-- `new`, taken or refused
pub new-rule :
    (rule : Rule) (key : List ℕ) (has_nonce : Bool) (nonce : List ℕ) (has_id : Bool) (id : List ℕ) (has_counter : Bool) (counter : List ℕ)
    → Keeps (new_of rule key has_nonce nonce has_id id has_counter counter) rule
unfolding new_of
new-rule rule key has_nonce nonce has_id id has_counter counter = settle-keeps (key_number (length key) (length (given has_id id)) (length (given has_nonce nonce))) 0 (session rule Hash) [] _ refl

module _ (s : Session) where
  pub absorb-rule : (x : List ℕ) → Keeps (absorb_of s x) s.rule
  unfolding absorb_of
  absorb-rule x = settle-keeps (unfinished_number s) 0 s [] _ refl

  pub absorb-more-rule : (x : List ℕ) (r : ℕ) → Keeps (absorb_more_of s x r) s.rule
  unfolding absorb_more_of
  absorb-more-rule x r = settle-keeps (first (unfinished_number s) (rate_number (mode s) r)) 0 s [] _ refl

  pub squeeze-rule : (cu : ℕ) (o : List ℕ) → Keeps (squeeze_of cu s o) s.rule
  unfolding squeeze_of
  squeeze-rule cu o = settle-keeps (unfinished_number s) 0 s o _ refl

  pub squeeze-more-rule : (o : List ℕ) → Keeps (squeeze_more_of s o) s.rule
  unfolding squeeze_more_of
  squeeze-more-rule o = settle-keeps (unfinished_number s) 0 s o _ refl

  pub key-rule : (key : List ℕ) (has_id : Bool) (id : List ℕ) (has_nonce : Bool) (nonce : List ℕ) (has_counter : Bool) (counter : List ℕ) → Keeps (key_of s key has_id id has_nonce nonce has_counter counter) s.rule
  unfolding key_of
  key-rule key has_id id has_nonce nonce has_counter counter = settle-keeps (first (keyed_number s) (key_number (length key) (length (given has_id id)) (length (given has_nonce nonce)))) 0 s [] _ refl

  pub ratchet-rule : Keeps (ratchet_of s) s.rule
  unfolding ratchet_of
  ratchet-rule = settle-keeps (keyed_number s) 0 s [] _ refl

  pub encrypt-rule : (o m : List ℕ) → Keeps (encrypt_of s o m) s.rule
  unfolding encrypt_of encrypt_end
  encrypt-rule o m = settle-keeps (first (keyed_number s) (room_number (length o) (length m))) _ s o _ refl

  pub decrypt-rule : (o c : List ℕ) → Keeps (decrypt_of s o c) s.rule
  unfolding decrypt_of decrypt_end
  decrypt-rule o c = settle-keeps (first (keyed_number s) (room_number (length o) (length c))) _ s o _ refl

  pub encrypt-in-place-rule : (b : List ℕ) → Keeps (encrypt_in_place_of s b) s.rule
  unfolding encrypt_in_place_of encrypt_end
  encrypt-in-place-rule b = settle-keeps (keyed_number s) 0 s b _ refl

  pub decrypt-in-place-rule : (b : List ℕ) → Keeps (decrypt_in_place_of s b) s.rule
  unfolding decrypt_in_place_of decrypt_end
  decrypt-in-place-rule b = settle-keeps (keyed_number s) 0 s b _ refl

  pub seal-detached-rule : (o m : List ℕ) → Keeps (seal_detached_of s o m) s.rule
  unfolding seal_detached_of tag_end encrypt_end
  seal-detached-rule o m = settle-keeps (first (keyed_number s) (room_number (length o) (length m))) _ s o _ refl

  pub seal-rule : (o m : List ℕ) → Keeps (seal_of s o m) s.rule
  unfolding seal_of tag_end encrypt_end
  seal-rule o m = settle-keeps (first (keyed_number s) (room_number (length o) (length m + 16))) _ s o _ refl

  pub seal-in-place-detached-rule : (b : List ℕ) → Keeps (seal_in_place_detached_of s b) s.rule
  unfolding seal_in_place_detached_of tag_end encrypt_end
  seal-in-place-detached-rule b = settle-keeps (keyed_number s) 0 s b _ refl

  pub seal-in-place-rule : (b : List ℕ) → Keeps (seal_in_place_of s b) s.rule
  unfolding seal_in_place_of tag_end encrypt_end
  seal-in-place-rule b = settle-keeps (first (keyed_number s) (tail_number (length b))) 0 s b _ refl

  pub open-detached-rule : (o : List ℕ) (t : Tag) (c : List ℕ) → Keeps (open_detached_of s o t c) s.rule
  unfolding open_detached_of
  open-detached-rule o t c = settle-keeps (first (keyed_number s) (room_number (length o) (length c))) _ s o _ (opened-keeps s _ _ _ _)

  pub open-rule : (o b : List ℕ) → Keeps (open_of s o b) s.rule
  unfolding open_of
  open-rule o b = settle-keeps (first (first (keyed_number s) (tail_number (length b))) (room_number (length o) (length b - 16))) _ s o _ (opened-keeps s _ _ _ _)

  pub open-in-place-detached-rule : (b : List ℕ) (t : Tag) → Keeps (open_in_place_detached_of s b t) s.rule
  unfolding open_in_place_detached_of
  open-in-place-detached-rule b t = settle-keeps (keyed_number s) 0 s b _ (opened-keeps s _ _ _ _)

  pub open-in-place-rule : (b : List ℕ) → Keeps (open_in_place_of s b) s.rule
  unfolding open_in_place_of
  open-in-place-rule b = settle-keeps (first (keyed_number s) (tail_number (length b))) 0 s b _ (opened-keeps s _ _ _ _)

  -- ---- a message handed over bit by bit
  pub begin-rule : (kind : Kind) → Keeps (begin_of kind s) s.rule
  unfolding begin_of
  begin-rule kind = settle-keeps (keyed_number s) 0 s [] _ refl

  portioned-keeps : (n k : ℕ) (o : List ℕ) (x : Portion) → x.session.rule ≡ s.rule → (portioned n k s o x).session.rule ≡ s.rule
  portioned-keeps zero k o x e = e
  portioned-keeps (suc n) k o x e = refl

  pub feed-rule : (kind : Kind) (o x : List ℕ) (a : ℕ) → (feed_of kind s o x a).session.rule ≡ s.rule
  unfolding feed_of
  feed-rule kind o x a = portioned-keeps (first (kind_number kind s) (first (mode_number (mode s)) (room_number (length o) (length x)))) _ o _ refl

  pub finish-seal-rule : (finish_seal_of s).session.rule ≡ s.rule
  unfolding finish_seal_of past_tag
  finish-seal-rule = portioned-keeps (first (kind_number Seal s) (mode_number (mode s))) 0 [] _ refl

  pub finish-open-rule : (t : Tag) → (finish_open_of s t).session.rule ≡ s.rule
  unfolding finish_open_of past_tag
  finish-open-rule t = portioned-keeps (first (kind_number Open s) (mode_number (mode s))) 0 [] _ refl
