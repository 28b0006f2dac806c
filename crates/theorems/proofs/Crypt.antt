-- Laws of sessions that the demands lean on: the mode stays, results have the length asked for, decryption undoes encryption.
use mathlib.Core.Path.{◌≡◌, refl, sym, ap, ap₂, ◌∙◌}
use mathlib.Core.Bool.{Bool, true, false}
use mathlib.Core.List.{List, [], ◌∷◌, ◌++◌}
use mathlib.Core.Logic.{◌↔◌, ◌≢◌, ◌⊎◌, inl, inr}
use Prim.Native.Nat.{ℕ, zero, suc, ◌-◌, ◌<◌, ◌≤◌, min}
use native.Mathlib.Nat.{not-suc-le-zero, le_refl}
use native.Mathlib.Omega.{arith}
use lib.Dec.{eqb, lit<, lit≤}
use lib.ListN.{length, take, drop, length-append, length-take, length-drop, take-append-drop}
use lib.Seq.{take_at, drop_at, take_all, length-take-le, set-get_or}
use borrow.Author.Tests.{eqb-true, eq-eqb}
use Rattle.laws.specs.Lists.{add_front, add_at}
use Rattle.laws.specs.Blocks.{cuts, blocks, sizes}
use Rattle.laws.proofs.Words.{⊕-zero}
use Rattle.laws.proofs.Lists.{length-add_front, add_front-back}
use Rattle.laws.proofs.Blocks.{cuts-step, cuts-nil, blocks_step, sizes_step, sizes-zero}
use Rattle.xoodoo.proofs.Inverse.{xoodoo-length}
use Rattle.xoodyak.specs.declared.cyclist.Mode.{Mode}
use Rattle.xoodyak.specs.declared.cyclist.Mode.TheVariants.{Hash, Keyed}
use Rattle.xoodyak.specs.declared.cyclist.Phase.{Phase}
use Rattle.xoodyak.specs.declared.cyclist.Phase.TheVariants.{Up, Down}
use Rattle.xoodyak.specs.declared.cyclist.Duplex.{Duplex}
use Rattle.xoodyak.specs.declared.Rule.{Rule}
use Rattle.xoodyak.specs.declared.Rule.TheVariants.{Crate, Specification}
use Rattle.xoodyak.specs.declared.Session.{Session}
use Rattle.xoodyak.specs.Cyclist.{squeeze_rate, up_bytes, up, down, ready_from, ready, absorb_blocks, absorb, next, nexts_end, nexts_out, squeeze_more_end, squeeze_more_out, squeeze_end, squeeze_out, message_blocks, enc_end, enc_out, dec_end, dec_out}
use Rattle.xoodyak.specs.Numbers.{when, first, unfinished_number, mode_number, keyed_number}
use Rattle.xoodyak.specs.Shares.{message_share, seal_share}
use Rattle.xoodyak.specs.Calls.{mode, encrypt_end, encrypt_out, encrypt_ups, decrypt_end, decrypt_out, decrypt_ups, both, same_bytes, tag_number, verdict, opened, open_ups, seal_ups, tag_end, tag_out}
use Rattle.xoodyak.proofs.Costs.{encrypt-share, decrypt-share, seal-share, open-share}

-- a buffer of a combined call: all but its last 16 bytes, and those
abbrev pub all_but16 : List ℕ → List ℕ
all_but16 b = take (length b - 16) b

abbrev pub last16 : List ℕ → List ℕ
last16 b = drop (length b - 16) b

-- ---- no call changes the mode
pub up-mode : (d : Duplex) (cu : ℕ) → (up d cu).mode ≡ d.mode
unfolding up
up-mode d cu = refl

pub down-mode : (d : Duplex) (x : List ℕ) (cd : ℕ) → (down d x cd).mode ≡ d.mode
unfolding down
down-mode d x cd = refl

step-mode : (d : Duplex) (cu : ℕ) (x : List ℕ) (cd : ℕ) → (down (up d cu) x cd).mode ≡ d.mode
step-mode d cu x cd = down-mode (up d cu) x cd ∙ up-mode d cu

ready-from-mode : (p : Phase) (d : Duplex) → (ready_from p d).mode ≡ d.mode
ready-from-mode Up d = refl
ready-from-mode Down d = up-mode d 0

ready-mode : (d : Duplex) → (ready d).mode ≡ d.mode
unfolding ready
ready-mode d = ready-from-mode d.phase d

absorb-blocks-mode : (bs : List (List ℕ)) (cd : ℕ) (d : Duplex) → (absorb_blocks bs cd d).mode ≡ d.mode
unfolding absorb_blocks
absorb-blocks-mode [] cd d = refl
absorb-blocks-mode (b ∷ bs) cd d = absorb-blocks-mode bs 0 _ ∙ down-mode (ready d) b cd ∙ ready-mode d

pub absorb-mode : (r cd : ℕ) (d : Duplex) (x : List ℕ) → (absorb r cd d x).mode ≡ d.mode
unfolding absorb
absorb-mode r cd d x = absorb-blocks-mode _ cd d

next-mode : (d : Duplex) → (next d).mode ≡ d.mode
unfolding next
next-mode d = up-mode (down d [] 0) 0 ∙ down-mode d [] 0

nexts-mode : (ks : List ℕ) (d : Duplex) → (nexts_end ks d).mode ≡ d.mode
unfolding nexts_end
nexts-mode [] d = refl
nexts-mode (k ∷ ks) d = nexts-mode ks (next d) ∙ next-mode d

pub squeeze-more-mode : (d : Duplex) (n : ℕ) → (squeeze_more_end d n).mode ≡ d.mode
unfolding squeeze_more_end
squeeze-more-mode d n = nexts-mode _ d

pub squeeze-mode : (d : Duplex) (n cu : ℕ) → (squeeze_end d n cu).mode ≡ d.mode
unfolding squeeze_end
squeeze-mode d n cu = squeeze-more-mode (up d cu) _ ∙ up-mode d cu

pub encrypt-mode : (bs : List (List ℕ)) (cu : ℕ) (d : Duplex) → (enc_end bs cu d).mode ≡ d.mode
unfolding enc_end
encrypt-mode [] cu d = refl
encrypt-mode (b ∷ bs) cu d = encrypt-mode bs 0 _ ∙ step-mode d cu b 0

pub decrypt-mode : (bs : List (List ℕ)) (cu : ℕ) (d : Duplex) → (dec_end bs cu d).mode ≡ d.mode
unfolding dec_end
decrypt-mode [] cu d = refl
decrypt-mode (b ∷ bs) cu d = decrypt-mode bs 0 _ ∙ step-mode d cu _ 0

-- ---- lengths
-- adding nothing changes nothing
pub add-zero-at : (s : List ℕ) (i : ℕ) → add_at s i 0 ≡ s
add-zero-at s i = rw ⊕-zero (set-get_or s i 0)

-- after Up there are 48 bytes, whatever there were before
pub up-length : (d : Duplex) (cu : ℕ) → length (up d cu).st ≡ 48
unfolding up up_bytes
up-length d cu = xoodoo-length _

next-length : (d : Duplex) → length (next d).st ≡ 48
unfolding next
next-length d = up-length _ 0

rate-pos : (m : Mode) → 0 < squeeze_rate m
rate-pos Hash = lit< tt
rate-pos Keyed = lit< tt

rate-le : (m : Mode) → squeeze_rate m ≤ 48
rate-le Hash = lit≤ tt
rate-le Keyed = lit≤ tt

nexts-length : (f r n : ℕ) (d : Duplex) → 0 < r → r ≤ 48 → n ≤ f → length (nexts_out (sizes r n) d) ≡ n
unfolding nexts_out
nexts-length zero r n d p q h = rw (sizes-zero r n h) (omega arith)
nexts-length (suc f) r zero d p q h = rw (sizes-zero r 0 (lit≤ tt))
nexts-length (suc f) r (suc n) d p q h =
    let k = min r (suc n) in
    let ih : length (nexts_out (sizes r (suc n - k)) (next d)) ≡ suc n - k = nexts-length f r (suc n - k) (next d) p q (omega arith) in
    let l : length (take k (next d).st) ≡ k = length-take-le k (next d).st (rw next-length (omega arith)) in
    rw (sizes_step r (suc n) k p (omega arith) refl, length-append) (omega arith)

-- what is squeezed has the length asked for
pub squeeze-more-length : (d : Duplex) (n : ℕ) → length (squeeze_more_out d n) ≡ n
unfolding squeeze_more_out
squeeze-more-length d n = nexts-length n (squeeze_rate d.mode) n d (rate-pos d.mode) (rate-le d.mode) (le_refl n)

pub squeeze-length : (d : Duplex) (n cu : ℕ) → length (squeeze_out d n cu) ≡ n
unfolding squeeze_out
squeeze-length d n cu =
    let r = squeeze_rate d.mode in
    let b : r ≤ 48 = rate-le d.mode in
    let l : length (take (min r n) (up d cu).st) ≡ min r n = length-take-le (min r n) (up d cu).st (rw up-length (omega arith)) in
    let m : length (squeeze_more_out (up d cu) (n - r)) ≡ n - r = squeeze-more-length (up d cu) (n - r) in
    rw length-append (omega arith)

-- a tag has 16 bytes
pub tag-length : (s : Session) → length (tag_out s) ≡ 16
unfolding tag_out
tag-length s = squeeze-length s.duplex 16 0x40

-- ---- messages, block by block
-- an input of one rate is one block
pub one_block : (r : ℕ) (x : List ℕ) → 0 < r → length x ≡ r → blocks r x ≡ x ∷ []
one_block r x p e =
    blocks_step r r x p (omega arith)
    ∙ ap₂ ◌∷◌ (take_all r x (omega arith)) (cuts-nil r (drop r x) (rw length-drop (omega arith)))

-- what holds of the empty message, and of a message where it holds of what follows the first block, holds of all
pub by_blocks :
    (P : List ℕ → Type 0) → P []
    → ((m : List ℕ) (k : ℕ) → 0 < length m → k ≡ min 24 (length m) → P (drop k m) → P m)
    → (m : List ℕ) → P m
by_blocks P z f m = go (length m) m (le_refl _)
  where
    go : (n : ℕ) (m : List ℕ) → length m ≤ n → P m
    go zero [] h = z
    go zero (a ∷ m) h = absurd (not-suc-le-zero h)
    go (suc n) [] h = z
    go (suc n) (a ∷ m) h = f (a ∷ m) (min 24 (suc (length m))) (omega arith) refl (go n (drop (min 24 (suc (length m))) (a ∷ m)) (rw length-drop (omega arith)))

-- the first block of a message of k bytes or more, and the rest
module _ (m : List ℕ) (k : ℕ) (h : 0 < length m) (e : k ≡ min 24 (length m)) (cu : ℕ) (d : Duplex) where
  enc-out-step : enc_out (cuts 24 m) cu d ≡ add_front (take k m) (up d cu).st ++ enc_out (cuts 24 (drop k m)) 0 (down (up d cu) (take k m) 0)
  unfolding enc_out
  enc-out-step = rw (cuts-step 24 m k (lit< tt) h e)

  enc-end-step : enc_end (cuts 24 m) cu d ≡ enc_end (cuts 24 (drop k m)) 0 (down (up d cu) (take k m) 0)
  unfolding enc_end
  enc-end-step = rw (cuts-step 24 m k (lit< tt) h e)

  dec-out-step : dec_out (cuts 24 m) cu d ≡ add_front (take k m) (up d cu).st ++ dec_out (cuts 24 (drop k m)) 0 (down (up d cu) (add_front (take k m) (up d cu).st) 0)
  unfolding dec_out
  dec-out-step = rw (cuts-step 24 m k (lit< tt) h e)

  dec-end-step : dec_end (cuts 24 m) cu d ≡ dec_end (cuts 24 (drop k m)) 0 (down (up d cu) (add_front (take k m) (up d cu).st) 0)
  unfolding dec_end
  dec-end-step = rw (cuts-step 24 m k (lit< tt) h e)

  first-length : length (add_front (take k m) (up d cu).st) ≡ k
  first-length = simp (length-add_front, length-take) (omega arith)

enc-length : (m : List ℕ) (cu : ℕ) (d : Duplex) → length (enc_out (cuts 24 m) cu d) ≡ length m
unfolding enc_out
enc-length =
    by_blocks (λ (m : List ℕ). (cu : ℕ) (d : Duplex) → length (enc_out (cuts 24 m) cu d) ≡ length m)
    (λ cu d. rw (cuts-nil 24 [] (lit≤ tt)))
    (λ m k h e ih cu d. ap length (enc-out-step m k h e cu d) ∙ rw (length-append, first-length m k h e cu d, ih, length-drop) (omega arith))

dec-length : (m : List ℕ) (cu : ℕ) (d : Duplex) → length (dec_out (cuts 24 m) cu d) ≡ length m
unfolding dec_out
dec-length =
    by_blocks (λ (m : List ℕ). (cu : ℕ) (d : Duplex) → length (dec_out (cuts 24 m) cu d) ≡ length m)
    (λ cu d. rw (cuts-nil 24 [] (lit≤ tt)))
    (λ m k h e ih cu d. ap length (dec-out-step m k h e cu d) ∙ rw (length-append, first-length m k h e cu d, ih, length-drop) (omega arith))

-- what holds of the blocks that are cut, and of one empty block, holds of a message's blocks under either rule
by-rule :
    (P : List ℕ → List (List ℕ) → Type 0) → ((m : List ℕ) → P m (cuts 24 m)) → P [] ([] ∷ [])
    → (rule : Rule) (m : List ℕ) → P m (message_blocks rule m)
unfolding message_blocks blocks
by-rule P f z Crate m = f m
by-rule P f z Specification [] = z
by-rule P f z Specification (a ∷ m) = f (a ∷ m)

-- what is encrypted or decrypted keeps its length
pub encrypt-length : (s : Session) (m : List ℕ) → length (encrypt_out s m) ≡ length m
unfolding encrypt_out enc_out
encrypt-length s =
    by-rule (λ (m : List ℕ) (bs : List (List ℕ)). length (enc_out bs 0x80 s.duplex) ≡ length m) (λ m. enc-length m 0x80 s.duplex) refl s.rule

pub decrypt-length : (s : Session) (c : List ℕ) → length (decrypt_out s c) ≡ length c
unfolding decrypt_out dec_out
decrypt-length s =
    by-rule (λ (c : List ℕ) (bs : List (List ℕ)). length (dec_out bs 0x80 s.duplex) ≡ length c) (λ c. dec-length c 0x80 s.duplex) refl s.rule

-- ---- decryption undoes encryption, where B gives the blocks of a message
abbrev Back : (List ℕ → List (List ℕ)) → List ℕ → ℕ → Duplex → Type 0
Back B m cu d = (dec_out (B (enc_out (B m) cu d)) cu d ≡ m) × (dec_end (B (enc_out (B m) cu d)) cu d ≡ enc_end (B m) cu d)

back_step : (m : List ℕ) (k : ℕ) → 0 < length m → k ≡ min 24 (length m) → ((cu : ℕ) (d : Duplex) → Back (cuts 24) (drop k m) cu d) → (cu : ℕ) (d : Duplex) → Back (cuts 24) m cu d
back_step m k h e ih cu d =
    let p = (up d cu).st in
    let t = down (up d cu) (take k m) 0 in
    let C = enc_out (cuts 24 m) cu d in
    let c = add_front (take k m) p in
    let R = enc_out (cuts 24 (drop k m)) 0 t in
    let ec : C ≡ c ++ R = enc-out-step m k h e cu d in
    let lc : length c ≡ k = first-length m k h e cu d in
    let l_c : length C ≡ length m = enc-length m cu d in
    let et : take k C ≡ c = ap (take k) ec ∙ take_at c R k lc in
    let ed : drop k C ≡ R = ap (drop k) ec ∙ drop_at c R k lc in
    let h_c : 0 < length C = omega arith in
    let e_c : k ≡ min 24 (length C) = omega arith in
    let eb : add_front c p ≡ take k m = add_front-back (take k m) p in (
      dec-out-step C k h_c e_c cu d ∙ rw (et, ed, eb, (ih 0 t).0) (take-append-drop k m),
      dec-end-step C k h_c e_c cu d ∙ rw (et, ed, eb, (ih 0 t).1) (sym (enc-end-step m k h e cu d)),
    )

back : (m : List ℕ) (cu : ℕ) (d : Duplex) → Back (cuts 24) m cu d
unfolding enc_out enc_end dec_out dec_end
back =
    by_blocks (λ (m : List ℕ). (cu : ℕ) (d : Duplex) → Back (cuts 24) m cu d)
    (λ cu d. (rw (cuts-nil 24 [] (lit≤ tt)) (rw (cuts-nil 24 [] (lit≤ tt))), rw (cuts-nil 24 [] (lit≤ tt)) (rw (cuts-nil 24 [] (lit≤ tt)))))
    back_step

-- a message that isn't empty has the blocks that are cut, whatever the rule
pub some_cuts : (rule : Rule) (x : List ℕ) → 0 < length x → message_blocks rule x ≡ cuts 24 x
unfolding message_blocks blocks
some_cuts Crate x h = refl
some_cuts Specification [] h = absurd (not-suc-le-zero h)
some_cuts Specification (a ∷ x) h = refl

-- under either rule, since a ciphertext is as long as its message
message-back : (rule : Rule) (m : List ℕ) (cu : ℕ) (d : Duplex) → Back (message_blocks rule) m cu d
unfolding message_blocks blocks enc_out enc_end dec_out dec_end
message-back Crate m cu d = back m cu d
message-back Specification [] cu d = (refl, refl)
message-back Specification (a ∷ m) cu d =
    rw (some_cuts Specification (enc_out (cuts 24 (a ∷ m)) cu d) (omega (arith, enc-length (a ∷ m) cu d))) (back (a ∷ m) cu d)

-- from one session: the message comes back
pub decrypt-encrypt : (s : Session) (m : List ℕ) → decrypt_out s (encrypt_out s m) ≡ m
unfolding encrypt_out decrypt_out
decrypt-encrypt s m = (message-back s.rule m 0x80 s.duplex).0

-- and both sides end in one session
pub decrypt-encrypt-end : (s : Session) (m : List ℕ) → decrypt_end s (encrypt_out s m) ≡ encrypt_end s m
unfolding encrypt_out encrypt_end decrypt_end
decrypt-encrypt-end s m = rw (message-back s.rule m 0x80 s.duplex).1

-- and spend the same, since a ciphertext is as long as its message
pub decrypt-encrypt-ups : (s : Session) (m : List ℕ) → decrypt_ups s (encrypt_out s m) ≡ encrypt_ups s m
decrypt-encrypt-ups s m = decrypt-share s _ ∙ ap (message_share s.rule) (encrypt-length s m) ∙ sym (encrypt-share s m)

-- also with the tag
pub open-seal-ups : (s : Session) (m : List ℕ) → open_ups s (encrypt_out s m) ≡ seal_ups s m
open-seal-ups s m = open-share s _ ∙ ap (seal_share s.rule) (encrypt-length s m) ∙ sym (seal-share s m)

-- ---- tags compared
pub both_true : (a b : Bool) → both a b ≡ true → (a ≡ true) × (b ≡ true)
both_true true b e = (refl, e)
both_true false b e = (e, cc)

same-equal : (x y : List ℕ) → same_bytes x y ≡ true → x ≡ y
unfolding same_bytes
same-equal [] [] e = refl
same-equal [] (b ∷ y) e = cc
same-equal (a ∷ x) [] e = cc
same-equal (a ∷ x) (b ∷ y) e =
    let h = both_true (eqb a b) (same_bytes x y) e in ap₂ ◌∷◌ (eqb-true a b h.0) (same-equal x y h.1)

same_self : (x : List ℕ) → same_bytes x x ≡ true
unfolding same_bytes
same_self [] = refl
same_self (a ∷ x) = rw (eq-eqb a a refl) (same_self x)

-- `same_bytes` tells whether two lists are equal
pub same-bytes : (x y : List ℕ) → (same_bytes x y ≡ true) ↔ (x ≡ y)
same-bytes x y = (same-equal x y, λ e. rw (← e) (same_self x))

-- a number that is 0 where P holds, and 4 where it does not
abbrev pub Decides : ℕ → Type 0 → Type 0
Decides n P = ((n ≡ 0) ⊎ (n ≡ 4)) × ((n ≡ 0) ↔ P) × ((n ≡ 4) ↔ (¬ P))

pub tag-decides : (x y : List ℕ) → Decides (tag_number (same_bytes x y)) (x ≡ y)
tag-decides x y = go (same_bytes x y) refl
  where
    go : (b : Bool) → same_bytes x y ≡ b → Decides (tag_number b) (x ≡ y)
    go true e =
        let q : x ≡ y = (same-bytes x y).0 e in
        (inl refl, (λ _. q, λ _. refl), (λ z. absurd (omega arith), λ n. absurd (n q)))
    go false e =
        let q : x ≢ y = λ p. let z : ◌≡◌ {A = ℕ} 0 1 = cc ((same-bytes x y).1 p) in omega arith in
        (inr refl, (λ z. absurd (omega arith), λ p. absurd (q p)), (λ _. q, λ _. refl))

pub verdict-number : (b : Bool) (s : Session) (good bad : List ℕ) (u : ℕ) → (verdict b s good bad u).number ≡ tag_number b
verdict-number true s good bad u = refl
verdict-number false s good bad u = refl

-- an opening call past its refusals: the tag decides, on all of its bytes
pub opened-decides : (s : Session) (t c good bad : List ℕ) → Decides (opened s t c good bad).number (tag_out (decrypt_end s c) ≡ t)
unfolding opened
opened-decides s t c good bad =
    rw (verdict-number (same_bytes (tag_out (decrypt_end s c)) t) (tag_end (decrypt_end s c)) good bad (open_ups s c)) (tag-decides (tag_out (decrypt_end s c)) t)

-- ---- numbers
pub first-zero : (n : ℕ) → first n 0 ≡ n
first-zero zero = refl
first-zero (suc n) = refl

-- a keyed session with no message begun meets neither 7 nor 1
pub keyed-taken : (s : Session) → s.message.begun ≡ false → mode s ≡ Keyed → keyed_number s ≡ 0
unfolding keyed_number unfinished_number
keyed-taken s idle keyed = ap₂ (λ b m. first (when b 7) (mode_number m)) idle keyed
