-- Demand 2: from an equal session what was encrypted or sealed comes back, under exactly its tag; after 4 the output does not depend on the key.
-- Of the bytes alone it is `decrypt-encrypt` and `decrypt-encrypt-end` of Crypt; here it is said of the calls' outcomes.
use mathlib.Core.Path.{◌≡◌, refl, sym, ap, ap₂, ◌∙◌}
use mathlib.Core.Bool.{Bool, true, false}
use mathlib.Core.List.{List, ◌++◌, append-nil}
use mathlib.Core.Logic.{◌≢◌}
use Prim.Native.Nat.{ℕ, zero, suc, ◌+◌, ◌-◌, ◌≤◌, min}
use native.Mathlib.Nat.{le_refl}
use native.Mathlib.Omega.{arith}
use lib.Dec.{eqb, ltb}
use lib.ListN.{length, replicate, take, drop, length-append, length-take, take-append-drop}
use lib.Seq.{take_at, drop_at, take-add, length-take-le, drop-length}
use borrow.Author.Tests.{le-ltb}
use Rattle.xoodyak.specs.declared.cyclist.Mode.{Mode}
use Rattle.xoodyak.specs.declared.cyclist.Mode.TheVariants.{Hash, Keyed}
use Rattle.xoodyak.specs.declared.cyclist.Duplex.{Duplex}
use Rattle.xoodyak.specs.declared.tag.Tag.{Tag}
use Rattle.xoodyak.specs.declared.Session.{Session}
use Rattle.xoodyak.specs.Cyclist.{up_bytes, up, squeeze_end, squeeze_out}
use Rattle.xoodyak.specs.Ups.{squeeze_ups}
use Rattle.xoodyak.specs.Shares.{seal_share}
use Rattle.xoodyak.specs.Numbers.{when, first, unfinished_number, mode_number, keyed_number, room_number, missing, tail_number}
use Rattle.xoodyak.specs.Calls.{Outcome, no_tag, taken, settle, mode, squeeze_of, encrypt_end, encrypt_out, encrypt_ups, decrypt_end, decrypt_out, decrypt_ups, encrypt_of, decrypt_of, encrypt_in_place_of, decrypt_in_place_of, tag_end, tag_out, same_bytes, verdict, opened, seal_ups, open_ups, seal_detached_of, seal_of, seal_in_place_detached_of, seal_in_place_of, open_detached_of, open_of, open_in_place_detached_of, open_in_place_of}
use Rattle.xoodyak.proofs.Costs.{open-share}
use Rattle.theorems.proofs.Crypt.{all_but16, last16, first-zero, keyed-taken, same-bytes, Decides, opened-decides, tag-length, encrypt-length, decrypt-encrypt, decrypt-encrypt-end, decrypt-encrypt-ups, open-seal-ups}

-- ---- calls that meet no refusal
module _ (k : ℕ) (s : Session) (o : List ℕ) (x : Outcome) where
  no-refusal : {n : ℕ} → n ≡ 0 → settle n k s o x ≡ x
  no-refusal e = ap (λ n. settle n k s o x) e

none_of : {a b : ℕ} → a ≡ 0 → b ≡ 0 → first a b ≡ 0
none_of p q = ap₂ first p q

fits : (room result : ℕ) → result ≤ room → room_number room result ≡ 0
unfolding room_number
fits room result h = ap (λ t. when t 3) (le-ltb room result h)

holds_tag : (size : ℕ) → 16 ≤ size → tail_number size ≡ 0
unfolding tail_number
holds_tag size h = ap (λ t. when t 10) (le-ltb size 16 h)

-- what a sealing call made of the message m from session s: ciphertext c, tag t, and its end session e
pub record Seals (s : Session) (m c t : List ℕ) (e : Session) : Type 0 where
  pub cipher : c ≡ encrypt_out s m
  pub tag : t ≡ tag_out (encrypt_end s m)
  pub end : e ≡ tag_end (encrypt_end s m)

-- two of them agree: combined and detached, copying and in place
pub seals-agree :
    {s : Session} {m c c' t t' : List ℕ} {e e' : Session}
    → Seals s m c t e → Seals s m c' t' e' → (c ≡ c') × (t ≡ t') × (e ≡ e')
seals-agree a b = (a.cipher ∙ sym b.cipher, a.tag ∙ sym b.tag, a.end ∙ sym b.end)

-- what was sealed is opened, and opening spends what sealing spends
opened-seal :
    {s : Session} {m c t : List ℕ} {e : Session} (good bad : List ℕ)
    → Seals s m c t e → opened s t c good bad ≡ taken e no_tag good (seal_ups s m)
unfolding opened
opened-seal {s} {m} {c} {t} {e} good bad x =
    let q : decrypt_end s c ≡ encrypt_end s m = ap (decrypt_end s) x.cipher ∙ decrypt-encrypt-end s m in
    ap₂ (λ b e. verdict b e good bad (open_ups s c)) ((same-bytes _ t).1 (ap tag_out q ∙ sym x.tag)) (ap tag_end q ∙ sym x.end)
    ∙ ap (taken e no_tag good) (ap (open_ups s) x.cipher ∙ open-seal-ups s m)

-- where the sealing call spent v
spending : {e : Session} {b : List ℕ} {u v : ℕ} → v ≡ u → taken e no_tag b u ≡ taken e no_tag b v
spending {e} {b} p = ap (taken e no_tag b) (sym p)

-- ---- the forms agree, accepted or refused, in every session
-- an outcome with t after its bytes
abbrev pub followed_by : Outcome → List ℕ → Outcome
followed_by x t = record { session = x.session; number = x.number; missing = x.missing; tag = x.tag; bytes = x.bytes ++ t; spent = x.spent }

settle-followed : (n k : ℕ) (s : Session) (o : List ℕ) (x : Outcome) (t : List ℕ) → settle n k s (o ++ t) (followed_by x t) ≡ followed_by (settle n k s o x) t
settle-followed zero k s o x t = refl
settle-followed (suc n) k s o x t = refl

verdict-followed : (b : Bool) (s : Session) (good bad t : List ℕ) (u : ℕ) → verdict b s (good ++ t) (bad ++ t) u ≡ followed_by (verdict b s good bad u) t
verdict-followed true s good bad t u = refl
verdict-followed false s good bad t u = refl

opened-followed : (s : Session) (t c good bad u : List ℕ) → opened s t c (good ++ u) (bad ++ u) ≡ followed_by (opened s t c good bad) u
unfolding opened
opened-followed s t c good bad u = verdict-followed (same_bytes (tag_out (decrypt_end s c)) t) _ good bad u (open_ups s c)

past-whole : (x b : List ℕ) → x ++ drop (length b) b ≡ x
past-whole x b = rw (drop-length, append-nil)

when-none : (b : Bool) → when b 0 ≡ 0
when-none true = refl
when-none false = refl

-- an output that is long enough lacks nothing
none-missing : (n room result : ℕ) → result ≤ room → missing n room result ≡ 0
unfolding missing
none-missing n room result h = let z : result - room ≡ 0 = omega arith in rw z (when-none (eqb n 3))

module _ (s : Session) (b : List ℕ) where
  own_room : first (keyed_number s) (room_number (length b) (length b)) ≡ keyed_number s
  own_room = rw (fits (length b) (length b) (le_refl _)) (first-zero _)

  -- in place is by copy onto the input itself
  pub encrypt-in-place-agrees : encrypt_in_place_of s b ≡ encrypt_of s b b
  unfolding encrypt_in_place_of encrypt_of
  encrypt-in-place-agrees = rw (own_room, none-missing _ _ _ (le_refl (length b)), past-whole)

  pub decrypt-in-place-agrees : decrypt_in_place_of s b ≡ decrypt_of s b b
  unfolding decrypt_in_place_of decrypt_of
  decrypt-in-place-agrees = rw (own_room, none-missing _ _ _ (le_refl (length b)), past-whole)

  pub seal-in-place-detached-agrees : seal_in_place_detached_of s b ≡ seal_detached_of s b b
  unfolding seal_in_place_detached_of seal_detached_of
  seal-in-place-detached-agrees = rw (own_room, none-missing _ _ _ (le_refl (length b)), past-whole)

  pub open-in-place-detached-agrees : (t : Tag) → open_in_place_detached_of s b t ≡ open_detached_of s b t b
  unfolding open_in_place_detached_of open_detached_of
  open-in-place-detached-agrees t = rw (own_room, none-missing _ _ _ (le_refl (length b)), past-whole)

  module _ (h : 16 ≤ length b) where
    -- combined in place, the message is all but the last 16 bytes
    pub seal-in-place-agrees : seal_in_place_of s b ≡ seal_of s b (all_but16 b)
    unfolding seal_in_place_of seal_of
    seal-in-place-agrees =
        let l : length (all_but16 b) + 16 ≡ length b = rw length-take (omega arith) in
        rw (holds_tag (length b) h, l, fits (length b) (length b) (le_refl _), none-missing _ _ _ (le_refl (length b)), drop-length, append-nil)

    -- the combined open is the detached one of the last 16 bytes and those before them
    pub open-agrees : (o : List ℕ) → open_of s o b ≡ open_detached_of s o (record { bytes = last16 b }) (all_but16 b)
    unfolding open_of open_detached_of
    open-agrees o =
        let l : length (all_but16 b) ≡ length b - 16 = length-take-le (length b - 16) b (omega arith) in
        rw (holds_tag (length b) h, first-zero (keyed_number s), l)

    -- in place it is the detached one before those 16 bytes
    pub open-in-place-agrees :
        open_in_place_of s b
        ≡ followed_by (open_in_place_detached_of s (all_but16 b) (record { bytes = last16 b })) (last16 b)
    unfolding open_in_place_of open_in_place_detached_of
    open-in-place-agrees =
        let n = length b - 16 in
        let c = take n b in
        let t = drop n b in
        let l : length c ≡ n = length-take-le n b (omega arith) in
        rw (holds_tag (length b) h, first-zero, l)
        (ap₂ (settle (keyed_number s) 0 s) (sym (take-append-drop n b)) (opened-followed s t c (decrypt_out s c) (replicate n 0) t)
        ∙ settle-followed (keyed_number s) 0 s c (opened s t c (decrypt_out s c) (replicate n 0)) t)

-- a keyed session with no message begun
module _ (s : Session) (idle : s.message.begun ≡ false) (keyed : mode s ≡ Keyed) where
  keyed-call : keyed_number s ≡ 0
  keyed-call = keyed-taken s idle keyed

  -- ---- what each call does
  module _ (o m : List ℕ) (h : length m ≤ length o) where
    room : first (keyed_number s) (room_number (length o) (length m)) ≡ 0
    room = none_of keyed-call (fits (length o) (length m) h)

    pub encrypt-is : encrypt_of s o m ≡ taken (encrypt_end s m) no_tag (encrypt_out s m ++ drop (length m) o) (encrypt_ups s m)
    unfolding encrypt_of
    encrypt-is = no-refusal _ s o _ room

    decrypt-is : decrypt_of s o m ≡ taken (decrypt_end s m) no_tag (decrypt_out s m ++ drop (length m) o) (decrypt_ups s m)
    unfolding decrypt_of
    decrypt-is = no-refusal _ s o _ room

    seal-detached-is : seal_detached_of s o m ≡ taken (tag_end (encrypt_end s m)) (tag_out (encrypt_end s m)) (encrypt_out s m ++ drop (length m) o) (seal_ups s m)
    unfolding seal_detached_of
    seal-detached-is = no-refusal _ s o _ room

    open-detached-is : (t : Tag) → open_detached_of s o t m ≡ opened s t.bytes m (decrypt_out s m ++ drop (length m) o) (replicate (length o) 0)
    unfolding open_detached_of
    open-detached-is t = no-refusal _ s o _ room

  seal-is :
      (o m : List ℕ) → length m + 16 ≤ length o
      → seal_of s o m ≡ taken (tag_end (encrypt_end s m)) no_tag (encrypt_out s m ++ (tag_out (encrypt_end s m) ++ drop (length m + 16) o)) (seal_ups s m)
  unfolding seal_of
  seal-is o m h = no-refusal _ s o _ (none_of keyed-call (fits (length o) (length m + 16) h))

  seal-in-place-is : (b : List ℕ) → 16 ≤ length b
      → seal_in_place_of s b
      ≡ taken (tag_end (encrypt_end s (all_but16 b))) no_tag (encrypt_out s (all_but16 b) ++ tag_out (encrypt_end s (all_but16 b))) (seal_ups s (all_but16 b))
  unfolding seal_in_place_of
  seal-in-place-is b g = no-refusal _ s b _ (none_of keyed-call (holds_tag (length b) g))

  encrypt-in-place-is : (b : List ℕ) → encrypt_in_place_of s b ≡ taken (encrypt_end s b) no_tag (encrypt_out s b) (encrypt_ups s b)
  unfolding encrypt_in_place_of
  encrypt-in-place-is b = no-refusal _ s b _ keyed-call

  decrypt-in-place-is : (b : List ℕ) → decrypt_in_place_of s b ≡ taken (decrypt_end s b) no_tag (decrypt_out s b) (decrypt_ups s b)
  unfolding decrypt_in_place_of
  decrypt-in-place-is b = no-refusal _ s b _ keyed-call

  pub seal-in-place-detached-is : (b : List ℕ) → seal_in_place_detached_of s b ≡ taken (tag_end (encrypt_end s b)) (tag_out (encrypt_end s b)) (encrypt_out s b) (seal_ups s b)
  unfolding seal_in_place_detached_of
  seal-in-place-detached-is b = no-refusal _ s b _ keyed-call

  pub open-in-place-detached-is : (b : List ℕ) (t : Tag) → open_in_place_detached_of s b t ≡ opened s t.bytes b (decrypt_out s b) (replicate (length b) 0)
  unfolding open_in_place_detached_of
  open-in-place-detached-is b t = no-refusal _ s b _ keyed-call

  -- ---- encrypt, then decrypt
  -- from an equal session decrypt gives the plaintext, ends where encrypt ended and spends what it spent; bytes past it stay
  pub decrypts :
      (o p m : List ℕ) → length m ≤ length o → length m ≤ length p
      → decrypt_of s p (take (length m) (encrypt_of s o m).bytes) ≡ taken (encrypt_of s o m).session no_tag (m ++ drop (length m) p) (encrypt_of s o m).spent
  decrypts o p m h g =
      let c = encrypt_out s m in
      let l : length c ≡ length m = encrypt-length s m in
      rw (encrypt-is o m h, take_at c (drop (length m) o) (length m) l, decrypt-is p c (rw l g), decrypt-encrypt s m, decrypt-encrypt-end s m, decrypt-encrypt-ups s m, l)

  -- the same in place
  pub decrypts-in-place :
      (m : List ℕ) → decrypt_in_place_of s (encrypt_in_place_of s m).bytes ≡ taken (encrypt_in_place_of s m).session no_tag m (encrypt_in_place_of s m).spent
  decrypts-in-place m =
      rw (encrypt-in-place-is m, decrypt-in-place-is (encrypt_out s m), decrypt-encrypt s m, decrypt-encrypt-end s m, decrypt-encrypt-ups s m)

  -- ---- sealing: each form makes the ciphertext, the tag and the end session of the one definition
  -- detached
  pub seals-detached :
      (o m : List ℕ) → length m ≤ length o
      → Seals s m (take (length m) (seal_detached_of s o m).bytes) (seal_detached_of s o m).tag (seal_detached_of s o m).session
  seals-detached o m h =
      rw (seal-detached-is o m h)
      (record { cipher = take_at (encrypt_out s m) _ (length m) (encrypt-length s m); tag = refl; end = refl })

  -- combined: the tag after the ciphertext
  pub seals :
      (o m : List ℕ) → length m + 16 ≤ length o
      → Seals s m (take (length m) (seal_of s o m).bytes) (take 16 (drop (length m) (seal_of s o m).bytes)) (seal_of s o m).session
  seals o m h =
      let l : length (encrypt_out s m) ≡ length m = encrypt-length s m in
      rw (seal-is o m h)
      (record {
        cipher = take_at (encrypt_out s m) _ (length m) l;
        tag = ap (take 16) (drop_at (encrypt_out s m) _ (length m) l) ∙ take_at (tag_out (encrypt_end s m)) _ 16 (tag-length (encrypt_end s m));
        end = refl;
      })

  -- in place, detached
  pub seals-in-place-detached :
      (m : List ℕ) → Seals s m (seal_in_place_detached_of s m).bytes (seal_in_place_detached_of s m).tag (seal_in_place_detached_of s m).session
  seals-in-place-detached m = rw (seal-in-place-detached-is m) (record { cipher = refl; tag = refl; end = refl })

  -- in place, combined: the message is all but the last 16 bytes of the buffer, which become the tag
  pub seals-in-place :
      (b : List ℕ) → 16 ≤ length b
      → Seals s (all_but16 b) (take (length b - 16) (seal_in_place_of s b).bytes) (drop (length b - 16) (seal_in_place_of s b).bytes) (seal_in_place_of s b).session
  seals-in-place b h =
      let n = length b - 16 in
      let m = take n b in
      let l : length (encrypt_out s m) ≡ n = encrypt-length s m ∙ length-take-le n b (omega arith) in
      rw (seal-in-place-is b h)
      (record { cipher = take_at (encrypt_out s m) _ n l; tag = drop_at (encrypt_out s m) _ n l; end = refl })

  -- the combined output is the detached ciphertext followed by the detached tag
  pub combined-agrees :
      (o p m : List ℕ) → length m + 16 ≤ length o → length m ≤ length p
      → take (length m + 16) (seal_of s o m).bytes ≡ take (length m) (seal_detached_of s p m).bytes ++ (seal_detached_of s p m).tag
  combined-agrees o p m h g =
      let a = seals-agree (seals o m h) (seals-detached p m g) in
      take-add (length m) 16 (seal_of s o m).bytes ∙ ap₂ ◌++◌ a.0 a.1

  -- and they spend the same
  pub combined-spends :
      (o p m : List ℕ) → length m + 16 ≤ length o → length m ≤ length p → (seal_of s o m).spent ≡ (seal_detached_of s p m).spent
  combined-spends o p m h g = ap (λ x. x.spent) (seal-is o m h) ∙ sym (ap (λ x. x.spent) (seal-detached-is p m g))

  -- ---- opening: each form accepts what any of them made, gives the plaintext back, ends where sealing ended and spends what sealing spends
  module _ {m c t : List ℕ} {e : Session} (x : Seals s m c t e) where
    plaintext : decrypt_out s c ≡ m
    plaintext = ap (decrypt_out s) x.cipher ∙ decrypt-encrypt s m

    cipher-length : length c ≡ length m
    cipher-length = ap length x.cipher ∙ encrypt-length s m

    received-length : length t ≡ 16
    received-length = ap length x.tag ∙ tag-length (encrypt_end s m)

    both-length : length (c ++ t) - 16 ≡ length m
    both-length = rw length-append (omega (arith, cipher-length, received-length))

    front : all_but16 (c ++ t) ≡ c
    front = take_at c t _ (cipher-length ∙ sym both-length)

    back : last16 (c ++ t) ≡ t
    back = drop_at c t _ (cipher-length ∙ sym both-length)

    holds : 16 ≤ length (c ++ t)
    holds = rw length-append (omega (arith, received-length))

    -- detached; bytes past the plaintext keep what they held
    pub opens-detached : (p : List ℕ) → length m ≤ length p → open_detached_of s p (record { bytes = t }) c ≡ taken e no_tag (m ++ drop (length m) p) (seal_ups s m)
    opens-detached p h =
        open-detached-is p c (rw cipher-length h) (record { bytes = t }) ∙ opened-seal _ _ x ∙ rw (plaintext, cipher-length)

    -- combined
    pub opens : (p : List ℕ) → length m ≤ length p → open_of s p (c ++ t) ≡ taken e no_tag (m ++ drop (length m) p) (seal_ups s m)
    opens p h = open-agrees s (c ++ t) holds p ∙ rw (front, back) (opens-detached p h)

    -- in place, detached
    pub opens-in-place-detached : open_in_place_detached_of s c (record { bytes = t }) ≡ taken e no_tag m (seal_ups s m)
    opens-in-place-detached = open-in-place-detached-is c (record { bytes = t }) ∙ opened-seal _ _ x ∙ rw plaintext

    -- in place, combined: the tag stays behind the plaintext
    pub opens-in-place : open_in_place_of s (c ++ t) ≡ taken e no_tag (m ++ t) (seal_ups s m)
    opens-in-place = open-in-place-agrees s (c ++ t) holds ∙ rw (front, back, opens-in-place-detached)

  -- ---- the like pairs, said of the calls alone
  -- what `aead_encrypt_detached` made, `aead_decrypt_detached` opens
  pub detached-pair :
      (o p m : List ℕ) → length m ≤ length o → length m ≤ length p
      → open_detached_of s p (record { bytes = (seal_detached_of s o m).tag }) (take (length m) (seal_detached_of s o m).bytes)
      ≡ taken (seal_detached_of s o m).session no_tag (m ++ drop (length m) p) (seal_detached_of s o m).spent
  detached-pair o p m h g = opens-detached (seals-detached o m h) p g ∙ spending (ap (λ x. x.spent) (seal-detached-is o m h))

  -- what `aead_encrypt` made, `aead_decrypt` opens
  pub combined-pair :
      (o p m : List ℕ) → length m + 16 ≤ length o → length m ≤ length p
      → open_of s p (take (length m + 16) (seal_of s o m).bytes) ≡ taken (seal_of s o m).session no_tag (m ++ drop (length m) p) (seal_of s o m).spent
  combined-pair o p m h g =
      rw (take-add (length m) 16 (seal_of s o m).bytes) (opens (seals o m h) p g ∙ spending (ap (λ x. x.spent) (seal-is o m h)))

  -- what `aead_encrypt_in_place_detached` made, `aead_decrypt_in_place_detached` opens
  pub in-place-detached-pair :
      (m : List ℕ)
      → open_in_place_detached_of s (seal_in_place_detached_of s m).bytes (record { bytes = (seal_in_place_detached_of s m).tag })
      ≡ taken (seal_in_place_detached_of s m).session no_tag m (seal_in_place_detached_of s m).spent
  in-place-detached-pair m = opens-in-place-detached (seals-in-place-detached m) ∙ spending (ap (λ x. x.spent) (seal-in-place-detached-is m))

  -- what `aead_encrypt_in_place` made, `aead_decrypt_in_place` opens
  pub in-place-pair :
      (b : List ℕ) → 16 ≤ length b
      → open_in_place_of s (seal_in_place_of s b).bytes
      ≡ taken (seal_in_place_of s b).session no_tag (all_but16 b ++ drop (length b - 16) (seal_in_place_of s b).bytes) (seal_in_place_of s b).spent
  in-place-pair b h =
      ap (open_in_place_of s) (sym (take-append-drop (length b - 16) (seal_in_place_of s b).bytes))
      ∙ opens-in-place (seals-in-place b h)
      ∙ spending (ap (λ x. x.spent) (seal-in-place-is b h))

  -- ---- exactly that tag: 0 where the received tag is the one that belongs to the ciphertext, and 4 where it differs in any of its 128 bits
  -- detached
  pub open-detached-decides :
      (o c : List ℕ) (t : Tag) → length c ≤ length o → Decides (open_detached_of s o t c).number (tag_out (decrypt_end s c) ≡ t.bytes)
  open-detached-decides o c t h = rw (open-detached-is o c h t) (opened-decides s t.bytes c _ _)

  -- combined: the received tag is the last 16 bytes
  pub open-decides :
      (o b : List ℕ) → 16 ≤ length b → length b - 16 ≤ length o
      → Decides (open_of s o b).number (tag_out (decrypt_end s (all_but16 b)) ≡ last16 b)
  open-decides o b g h =
      let l : length (all_but16 b) ≡ length b - 16 = length-take-le (length b - 16) b (omega arith) in
      rw (open-agrees s b g o) (open-detached-decides o (all_but16 b) (record { bytes = last16 b }) (rw l h))

  -- in place, detached
  pub open-in-place-detached-decides :
      (b : List ℕ) (t : Tag) → Decides (open_in_place_detached_of s b t).number (tag_out (decrypt_end s b) ≡ t.bytes)
  open-in-place-detached-decides b t = rw (open-in-place-detached-is b t) (opened-decides s t.bytes b _ _)

  -- in place, combined
  pub open-in-place-decides :
      (b : List ℕ) → 16 ≤ length b
      → Decides (open_in_place_of s b).number (tag_out (decrypt_end s (all_but16 b)) ≡ last16 b)
  open-in-place-decides b g =
      rw (open-in-place-agrees s b g) (open-in-place-detached-decides (all_but16 b) (record { bytes = last16 b }))

-- so of a ciphertext that was sealed the tag sealed with it is accepted, and no other
pub no_other_tag :
    {s : Session} {m c t t' : List ℕ} {e : Session} {n : ℕ}
    → Seals s m c t e → Decides n (tag_out (decrypt_end s c) ≡ t') → Decides n (t ≡ t')
no_other_tag {s} {m} {c} {t} x d =
    let q : tag_out (decrypt_end s c) ≡ t = ap (λ c. tag_out (decrypt_end s c)) x.cipher ∙ ap tag_out (decrypt-encrypt-end s m) ∙ sym x.tag in
    rw q at d

-- ---- after 4
-- no number that comes before 4 is 4
pub when-other : (b : Bool) (n : ℕ) → n ≢ 4 → when b n ≢ 4
when-other true n h e = h e
when-other false n h e = omega arith

pub first-other : (a b : ℕ) → a ≢ 4 → b ≢ 4 → first a b ≢ 4
first-other zero b p q = q
first-other (suc a) b p q = p

pub mode-other : (m : Mode) → mode_number m ≢ 4
mode-other Hash e = omega arith
mode-other Keyed e = omega arith

keyed-other : (s : Session) → keyed_number s ≢ 4
unfolding keyed_number unfinished_number
keyed-other s = first-other _ _ (when-other s.message.begun 7 (λ e. omega arith)) (mode-other (mode s))

room-other : (room result : ℕ) → room_number room result ≢ 4
unfolding room_number
room-other room result = when-other (ltb room result) 3 (λ e. omega arith)

tail-other : (size : ℕ) → tail_number size ≢ 4
unfolding tail_number
tail-other size = when-other (ltb size 16) 10 (λ e. omega arith)

-- answered 4: the session, the buffer and what was spent
abbrev pub mismatch : Session → List ℕ → ℕ → Outcome
mismatch s o u = record { session = s; number = 4; missing = 0; tag = no_tag; bytes = o; spent = u }

verdict-4 : (b : Bool) (s : Session) (good bad : List ℕ) (u : ℕ) → (verdict b s good bad u).number ≡ 4 → verdict b s good bad u ≡ mismatch s bad u
verdict-4 true s good bad u e = absurd (omega arith)
verdict-4 false s good bad u e = refl

-- a call answered 4 stands advanced past the tag, its buffer is the one made for that case, and it spent what a right tag spends
opened-4 :
    (n k : ℕ) (s : Session) (o t c good bad : List ℕ) → n ≢ 4 → (settle n k s o (opened s t c good bad)).number ≡ 4
    → settle n k s o (opened s t c good bad) ≡ mismatch (tag_end (decrypt_end s c)) bad (open_ups s c)
unfolding opened
opened-4 zero k s o t c good bad h e = verdict-4 (same_bytes (tag_out (decrypt_end s c)) t) _ good bad (open_ups s c) e
opened-4 (suc n) k s o t c good bad h e = absurd (h e)

-- the copying forms zero the whole output, also past the message
pub open-detached-4 :
    (s : Session) (o c : List ℕ) (t : Tag) → (open_detached_of s o t c).number ≡ 4
    → open_detached_of s o t c ≡ mismatch (tag_end (decrypt_end s c)) (replicate (length o) 0) (open_ups s c)
unfolding open_detached_of
open-detached-4 s o c t e = opened-4 _ _ s o t.bytes c _ _ (first-other _ _ (keyed-other s) (room-other (length o) (length c))) e

-- the same, combined
pub open-4 :
    (s : Session) (o b : List ℕ) → (open_of s o b).number ≡ 4
    → open_of s o b ≡ mismatch (tag_end (decrypt_end s (all_but16 b))) (replicate (length o) 0) (open_ups s (all_but16 b))
unfolding open_of
open-4 s o b e =
    opened-4 _ _ s o _ _ _ _ (first-other _ _ (first-other _ _ (keyed-other s) (tail-other (length b))) (room-other (length o) (length b - 16))) e

-- the detached in-place form zeroes its buffer
pub open-in-place-detached-4 :
    (s : Session) (b : List ℕ) (t : Tag) → (open_in_place_detached_of s b t).number ≡ 4
    → open_in_place_detached_of s b t ≡ mismatch (tag_end (decrypt_end s b)) (replicate (length b) 0) (open_ups s b)
unfolding open_in_place_detached_of
open-in-place-detached-4 s b t e = opened-4 _ _ s b t.bytes b _ _ (keyed-other s) e

-- the combined in-place form zeroes all but the last 16 bytes, which keep the received tag
pub open-in-place-4 :
    (s : Session) (b : List ℕ) → (open_in_place_of s b).number ≡ 4
    → open_in_place_of s b ≡ mismatch (tag_end (decrypt_end s (all_but16 b))) (replicate (length b - 16) 0 ++ last16 b) (open_ups s (all_but16 b))
unfolding open_in_place_of
open-in-place-4 s b e = opened-4 _ _ s b _ _ _ _ (first-other _ _ (keyed-other s) (tail-other (length b))) e

-- two calls of one form answered 4 with output lengths equal leave equal output bytes, whatever their keys
module _ (s s' : Session) where
  -- detached
  pub open-detached-same :
      (o o' c c' : List ℕ) (t t' : Tag) → (open_detached_of s o t c).number ≡ 4 → (open_detached_of s' o' t' c').number ≡ 4
      → length o ≡ length o' → (open_detached_of s o t c).bytes ≡ (open_detached_of s' o' t' c').bytes
  open-detached-same o o' c c' t t' p q e = rw (open-detached-4 s o c t p, open-detached-4 s' o' c' t' q, e)

  -- combined
  pub open-same :
      (o o' b b' : List ℕ) → (open_of s o b).number ≡ 4 → (open_of s' o' b').number ≡ 4
      → length o ≡ length o' → (open_of s o b).bytes ≡ (open_of s' o' b').bytes
  open-same o o' b b' p q e = rw (open-4 s o b p, open-4 s' o' b' q, e)

  -- in place, detached
  pub open-in-place-detached-same :
      (b b' : List ℕ) (t t' : Tag) → (open_in_place_detached_of s b t).number ≡ 4 → (open_in_place_detached_of s' b' t').number ≡ 4
      → length b ≡ length b' → (open_in_place_detached_of s b t).bytes ≡ (open_in_place_detached_of s' b' t').bytes
  open-in-place-detached-same b b' t t' p q e = rw (open-in-place-detached-4 s b t p, open-in-place-detached-4 s' b' t' q, e)

  -- in place, combined: with equal tag bytes
  pub open-in-place-same :
      (b b' : List ℕ) → (open_in_place_of s b).number ≡ 4 → (open_in_place_of s' b').number ≡ 4
      → length b ≡ length b' → last16 b ≡ last16 b'
      → (open_in_place_of s b).bytes ≡ (open_in_place_of s' b').bytes
  open-in-place-same b b' p q e d =
      ap (λ x. x.bytes) (open-in-place-4 s b p)
      ∙ ap₂ (λ n t. replicate (n - 16) 0 ++ t) e d
      ∙ sym (ap (λ x. x.bytes) (open-in-place-4 s' b' q))

-- ---- a wrong tag spends what a right one does: from one session, inputs of one length spend the same, whatever their bytes and tags
verdict-spent : (b : Bool) (s : Session) (good bad : List ℕ) (u : ℕ) → (verdict b s good bad u).spent ≡ u
verdict-spent true s good bad u = refl
verdict-spent false s good bad u = refl

opened_spent : (s : Session) (t c good bad : List ℕ) → (opened s t c good bad).spent ≡ seal_share s.rule (length c)
unfolding opened
opened_spent s t c good bad = verdict-spent (same_bytes (tag_out (decrypt_end s c)) t) _ good bad (open_ups s c) ∙ open-share s c

opened-spends :
    (s : Session) (t t' c c' good good' bad bad' : List ℕ) → length c ≡ length c' → (opened s t c good bad).spent ≡ (opened s t' c' good' bad').spent
opened-spends s t t' c c' good good' bad bad' e =
    opened_spent s t c good bad ∙ ap (seal_share s.rule) e ∙ sym (opened_spent s t' c' good' bad')

-- a refused call spends none, and an equal number is refused alike
settle-spends :
    (n n' k k' : ℕ) (s : Session) (o o' : List ℕ) (x x' : Outcome) → n ≡ n' → x.spent ≡ x'.spent
    → (settle n k s o x).spent ≡ (settle n' k' s o' x').spent
settle-spends n n' k k' s o o' x x' e f = go n ∙ ap (λ n. (settle n k' s o' x').spent) e
  where
    go : (n : ℕ) → (settle n k s o x).spent ≡ (settle n k' s o' x').spent
    go zero = f
    go (suc n) = refl

front-lengths : (b b' : List ℕ) → length b ≡ length b' → length (all_but16 b) ≡ length (all_but16 b')
front-lengths b b' e = length-take _ b ∙ ap (λ n. min (n - 16) n) e ∙ sym (length-take _ b')

module _ (s : Session) where
  -- detached
  pub open-detached-spends :
      (o c c' : List ℕ) (t t' : Tag) → length c ≡ length c' → (open_detached_of s o t c).spent ≡ (open_detached_of s o t' c').spent
  unfolding open_detached_of
  open-detached-spends o c c' t t' e =
      let number : ℕ → ℕ = λ n. first (keyed_number s) (room_number (length o) n) in
      settle-spends (number (length c)) (number (length c')) _ _ s o o _ _ (ap number e) (opened-spends s _ _ c c' _ _ _ _ e)

  -- combined
  pub open-spends : (o b b' : List ℕ) → length b ≡ length b' → (open_of s o b).spent ≡ (open_of s o b').spent
  unfolding open_of
  open-spends o b b' e =
      let number : ℕ → ℕ = λ n. first (first (keyed_number s) (tail_number n)) (room_number (length o) (n - 16)) in
      settle-spends (number (length b)) (number (length b')) _ _ s o o _ _ (ap number e)
      (opened-spends s _ _ (all_but16 b) (all_but16 b') _ _ _ _ (front-lengths b b' e))

  -- in place, detached
  pub open-in-place-detached-spends :
      (b b' : List ℕ) (t t' : Tag) → length b ≡ length b' → (open_in_place_detached_of s b t).spent ≡ (open_in_place_detached_of s b' t').spent
  unfolding open_in_place_detached_of
  open-in-place-detached-spends b b' t t' e = settle-spends (keyed_number s) (keyed_number s) 0 0 s b b' _ _ refl (opened-spends s _ _ b b' _ _ _ _ e)

  -- in place, combined
  pub open-in-place-spends : (b b' : List ℕ) → length b ≡ length b' → (open_in_place_of s b).spent ≡ (open_in_place_of s b').spent
  unfolding open_in_place_of
  open-in-place-spends b b' e =
      let number : ℕ → ℕ = λ n. first (keyed_number s) (tail_number n) in
      settle-spends (number (length b)) (number (length b')) 0 0 s b b' _ _ (ap number e)
      (opened-spends s _ _ (all_but16 b) (all_but16 b') _ _ _ _ (front-lengths b b' e))

-- ---- `squeeze_key` equals `squeeze` in Hash, where Up uses no colour
up-hash : (d : Duplex) (a b : ℕ) → d.mode ≡ Hash → up d a ≡ up d b
unfolding up up_bytes
up-hash d a b e = rw e

pub squeeze-key : (s : Session) (o : List ℕ) → mode s ≡ Hash → squeeze_of 0x20 s o ≡ squeeze_of 0x40 s o
unfolding squeeze_of squeeze_end squeeze_out squeeze_ups
squeeze-key s o e = rw (up-hash s.duplex 0x20 0x40 e)
