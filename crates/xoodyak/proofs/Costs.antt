-- Each closed formula is the number of Up steps that the definition makes.
use denote.Ref.{Bor}
use mathlib.Core.Path.{◌≡◌, refl, sym, ap, ap₂, ◌∙◌}
use mathlib.Core.Bool.{Bool, true, false}
use mathlib.Core.List.{List, [], ◌∷◌, ◌++◌, append-nil}
use Prim.Native.Nat.{ℕ, zero, suc, ◌+◌, ◌-◌, ◌*◌, ◌/◌, ◌%◌, ◌^◌, ◌<◌, ◌≤◌, min, max}
use native.Mathlib.Nat.{not-suc-le-zero, div-le_self, div-eq_of_lt, div-eq_of_lt-le, mod-eq-sub-mul-div, mod-lt}
use Rattle.std.proofs.lemmas.Nat.{div-add-mod'}
use native.Mathlib.Omega.{arith}
use lib.Dec.{lit<, lit≤}
use lib.ListN.{length, take, length-append}
use lib.Seq.{length-take-le}
use Rattle.std.specs.Prelude.{Option, None, Some}
use Rattle.std.specs.Bool.{then_some}
use Rattle.laws.specs.Blocks.{cuts, blocks, sizes, block_count}
use Rattle.laws.proofs.Blocks.{blocks_step, count-step, cuts-count, blocks-count, sizes-count, sizes-zero}
use Rattle.xoodoo.proofs.Inverse.{xoodoo-length}
use Rattle.xoodyak.specs.declared.cyclist.Mode.{Mode}
use Rattle.xoodyak.specs.declared.cyclist.Mode.TheVariants.{Hash, Keyed}
use Rattle.xoodyak.specs.declared.cyclist.Phase.{Phase}
use Rattle.xoodyak.specs.declared.cyclist.Phase.TheVariants.{Up, Down}
use Rattle.xoodyak.specs.declared.cyclist.Duplex.{Duplex}
use Rattle.xoodyak.specs.declared.Rule.{Rule}
use Rattle.xoodyak.specs.declared.Rule.TheVariants.{Crate, Specification}
use Rattle.xoodyak.specs.declared.Session.{Session}
use Rattle.xoodyak.specs.Cyclist.{squeeze_rate, up_colour, up_bytes, up, down, ready, absorb_blocks, absorb, nexts_end, nexts_out, squeeze_more_end, squeeze_more_out, squeeze_end, squeeze_out, message_blocks, chosen, if_given, bytes_in, absorb_given, key_call}
use Rattle.xoodyak.specs.Ups.{ready_ups, absorb_blocks_ups, absorb_ups, more_blocks_ups, absorb_more_ups, nexts_ups, squeeze_more_ups, squeeze_ups, enc_ups, dec_ups, ratchet_ups, if_given_ups, key_call_ups}
use Rattle.xoodyak.specs.Shares.{less_up, absorb_share, squeeze_share, message_share, seal_share, chosen_length, key_share, given_share}
use Rattle.xoodyak.specs.Calls.{encrypt_end, decrypt_end, encrypt_ups, decrypt_ups, tag_ups, seal_ups, open_ups}
use Rattle.xoodyak.proofs.Turns.{rate-pos}

-- ---- one Up for each block
more-count : (bs : List (List ℕ)) (d : Duplex) → more_blocks_ups bs d ≡ length bs
unfolding more_blocks_ups
more-count [] d = refl
more-count (b ∷ bs) d = ap suc (more-count bs _)

nexts_count : (ks : List ℕ) (d : Duplex) → nexts_ups ks d ≡ length ks
unfolding nexts_ups
nexts_count [] d = refl
nexts_count (k ∷ ks) d = ap suc (nexts_count ks _)

enc-count : (bs : List (List ℕ)) (cu : ℕ) (d : Duplex) → enc_ups bs cu d ≡ length bs
unfolding enc_ups
enc-count [] cu d = refl
enc-count (b ∷ bs) cu d = ap suc (enc-count bs 0 _)

dec-count : (bs : List (List ℕ)) (cu : ℕ) (d : Duplex) → dec_ups bs cu d ≡ length bs
unfolding dec_ups
dec-count [] cu d = refl
dec-count (b ∷ bs) cu d = ap suc (dec-count bs 0 _)

-- absorb: the first block's Up depends on the phase, the later ones each have one
later-count : (bs : List (List ℕ)) (cd : ℕ) (d : Duplex) → d.phase ≡ Down → absorb_blocks_ups bs cd d ≡ length bs
unfolding absorb_blocks_ups down
later-count [] cd d e = refl
later-count (b ∷ bs) cd d e = ap₂ ◌+◌ (ap ready_ups e) (later-count bs 0 (down (ready d) b cd) refl) ∙ omega arith

less-up : (p : Phase) (n : ℕ) → ready_ups p + n ≡ less_up p (suc n)
less-up Up n = omega arith
less-up Down n = omega arith

absorb-count : (bs : List (List ℕ)) (cd : ℕ) (d : Duplex) → 0 < length bs → absorb_blocks_ups bs cd d ≡ less_up d.phase (length bs)
unfolding absorb_blocks_ups down
absorb-count [] cd d h = absurd (not-suc-le-zero h)
absorb-count (b ∷ bs) cd d h = ap (λ (n : ℕ). ready_ups d.phase + n) (later-count bs 0 (down (ready d) b cd) refl) ∙ less-up d.phase (length bs)

pub absorb-share : (r cd : ℕ) (d : Duplex) (x : List ℕ) → 0 < r → absorb_ups r cd d x ≡ absorb_share d.phase r (length x)
unfolding absorb_ups absorb_share
absorb-share r cd d x p =
    let l : length (blocks r x) ≡ max 1 (block_count r (length x)) = blocks-count r x p in
    absorb-count (blocks r x) cd d (omega arith) ∙ ap (less_up d.phase) l

pub absorb-more-share : (r : ℕ) (d : Duplex) (x : List ℕ) → 0 < r → absorb_more_ups r d x ≡ block_count r (length x)
unfolding absorb_more_ups
absorb-more-share r d x p = more-count (cuts r x) d ∙ cuts-count r x p

pub squeeze-more-share : (d : Duplex) (n : ℕ) → squeeze_more_ups d n ≡ block_count (squeeze_rate d.mode) n
unfolding squeeze_more_ups
squeeze-more-share d n = nexts_count (sizes (squeeze_rate d.mode) n) d ∙ sizes-count _ n (rate-pos d.mode)

one_more : (r n : ℕ) → 0 < r → suc (block_count r (n - r)) ≡ max 1 (block_count r n)
unfolding block_count
one_more r zero p = let z : 0 - r ≡ 0 = omega arith in rw z
one_more r (suc n) p = rw (count-step r n p) (omega arith)

pub squeeze-share : (d : Duplex) (n cu : ℕ) → squeeze_ups d n cu ≡ squeeze_share d.mode n
unfolding squeeze_ups squeeze_share up
squeeze-share d n cu = ap suc (squeeze-more-share (up d cu) (n - squeeze_rate d.mode)) ∙ one_more (squeeze_rate d.mode) n (rate-pos d.mode)

-- the library's quotient, rounded up: q whole blocks and e bytes more
ceil-by : (r n q e : ℕ) → q * r + e ≡ suc n → e < r → q + min 1 e ≡ suc (n / r)
ceil-by r n zero zero h l = absurd (omega arith)
ceil-by r n (suc q) zero h l = let k : n / r ≡ q = div-eq_of_lt-le r (omega arith) (omega arith) in omega (arith, k)
ceil-by r n q (suc e) h l = let k : n / r ≡ q = div-eq_of_lt-le r (omega arith) (omega arith) in omega (arith, k)

pub ceil-is : (r n : ℕ) → 0 < r → n / r + min 1 (n % r) ≡ block_count r n
unfolding block_count
ceil-is r zero p = omega (arith, div-eq_of_lt p, mod-eq-sub-mul-div 0 r)
ceil-is r (suc n) p = ceil-by r n (suc n / r) (suc n % r) (div-add-mod' (suc n) r) (mod-lt (suc n) p)

-- no count of them wraps
count-le : (r n : ℕ) → block_count r n ≤ n
unfolding block_count
count-le r zero = omega arith
count-le r (suc n) = let h = div-le_self n r in omega arith

pub share-le : (p : Phase) (r n : ℕ) → absorb_share p r n ≤ max 1 n
unfolding absorb_share
share-le Up r n = let h = count-le r n in omega arith
share-le Down r n = let h = count-le r n in omega arith

pub given-le : (r : ℕ) (x : Option (Bor (List ℕ))) → given_share r x ≤ max 1 (length (bytes_in x))
given-le r None = omega arith
given-le r (Some x) = share-le Down r (length x.now)

count_fits : (n : ℕ) → n < 2 ^ 64 → max 1 (block_count 24 n) + 1 < 2 ^ 64
unfolding block_count
count_fits zero h = lit< tt
count_fits (suc n) h = omega arith

pub message-fits : (rule : Rule) (n : ℕ) → n < 2 ^ 64 → message_share rule n + 1 < 2 ^ 64
unfolding message_share
message-fits Crate n h = let f = count_fits n h in omega arith
message-fits Specification n h = count_fits n h

-- ---- messages and tags
message-count : (rule : Rule) (m : List ℕ) → length (message_blocks rule m) ≡ message_share rule (length m)
unfolding message_blocks message_share
message-count Crate m = cuts-count 24 m (lit< tt)
message-count Specification m = blocks-count 24 m (lit< tt)

module _ (s : Session) (m : List ℕ) where
  pub encrypt-share : encrypt_ups s m ≡ message_share s.rule (length m)
  unfolding encrypt_ups
  encrypt-share = enc-count (message_blocks s.rule m) 0x80 s.duplex ∙ message-count s.rule m

  pub decrypt-share : decrypt_ups s m ≡ message_share s.rule (length m)
  unfolding decrypt_ups
  decrypt-share = dec-count (message_blocks s.rule m) 0x80 s.duplex ∙ message-count s.rule m

-- one Up gives a tag in either mode
pub one_up : (m : Mode) → squeeze_share m 16 ≡ 1
unfolding squeeze_share block_count
one_up Hash = refl
one_up Keyed = refl

tag-share : (s : Session) → tag_ups s ≡ 1
unfolding tag_ups
tag-share s = squeeze-share s.duplex 16 0x40 ∙ one_up s.duplex.mode

module _ (s : Session) (m : List ℕ) where
  pub seal-share : seal_ups s m ≡ seal_share s.rule (length m)
  unfolding seal_ups seal_share
  seal-share = ap₂ ◌+◌ (encrypt-share s m) (tag-share (encrypt_end s m))

  pub open-share : open_ups s m ≡ seal_share s.rule (length m)
  unfolding open_ups seal_share
  open-share = ap₂ ◌+◌ (decrypt-share s m) (tag-share (decrypt_end s m))

-- ---- ratchet: one Up, since what it squeezed is absorbed in phase Up, as one block
none_left : (d : Duplex) (cu : ℕ) → d.mode ≡ Keyed → squeeze_end d 16 cu ≡ up d cu
unfolding squeeze_end squeeze_more_end nexts_end up
none_left d cu e = rw (e, sizes-zero 24 0 (lit≤ tt))

up-length : (d : Duplex) (cu : ℕ) → 16 ≤ length (up d cu).st
unfolding up up_bytes
up-length d cu = omega (arith, xoodoo-length (up_colour d.mode cu d.st))

all-of-it : (d : Duplex) (cu : ℕ) → d.mode ≡ Keyed → squeeze_out d 16 cu ≡ take 16 (up d cu).st
unfolding squeeze_out squeeze_more_out nexts_out up
all-of-it d cu e = rw (e, sizes-zero 24 0 (lit≤ tt), append-nil)

sixteen : (d : Duplex) (cu : ℕ) → d.mode ≡ Keyed → length (squeeze_out d 16 cu) ≡ 16
sixteen d cu e = ap length (all-of-it d cu e) ∙ length-take-le 16 (up d cu).st (up-length d cu)

pub ratchet-share : (d : Duplex) → d.mode ≡ Keyed → ratchet_ups d ≡ 1
unfolding ratchet_ups absorb_share block_count up
ratchet-share d e =
    ap₂ ◌+◌ (squeeze-share d 16 0x10 ∙ one_up d.mode)
    (absorb-share 16 0 (squeeze_end d 16 0x10) (squeeze_out d 16 0x10) (lit< tt)
    ∙ ap₂ (λ (p : Phase) (n : ℕ). absorb_share p 16 n) (ap (λ (y : Duplex). y.phase) (none_left d 0x10 e)) (sixteen d 0x10 e))

-- ---- the key call: each input after the first meets phase Down
later-down : (bs : List (List ℕ)) (cd : ℕ) (d : Duplex) → d.phase ≡ Down → (absorb_blocks bs cd d).phase ≡ Down
unfolding absorb_blocks down
later-down [] cd d e = e
later-down (b ∷ bs) cd d e = later-down bs 0 (down (ready d) b cd) refl

absorb-down : (r cd : ℕ) (d : Duplex) (x : List ℕ) → 0 < r → (absorb r cd d x).phase ≡ Down
unfolding absorb absorb_blocks down
absorb-down r cd d x p = rw (blocks_step r _ x p refl) (later-down (cuts r _) 0 (down (ready d) _ cd) refl)

chosen-length : (has : Bool) (id nonce : List ℕ) → length (chosen has id nonce) ≡ chosen_length has (length id) (length nonce)
chosen-length true id nonce = refl
chosen-length false id nonce = refl

given-down : (has : Bool) (a b : Duplex) → a.phase ≡ Down → b.phase ≡ Down → (if_given has a b).phase ≡ Down
given-down true a b p q = p
given-down false a b p q = q

module _ (d : Duplex) (key : List ℕ) (has_id : Bool) (id nonce : List ℕ) (has_counter : Bool) (counter : List ℕ) where
  abbrev t : List ℕ
  t = chosen has_id id nonce

  abbrev first_run : List ℕ
  first_run = key ++ (t ++ (length t ∷ []))

  run_length : length first_run ≡ length key + (chosen_length has_id (length id) (length nonce) + 1)
  run_length = length-append key _ ∙ ap (λ (n : ℕ). length key + n) (length-append t _ ∙ ap (λ (n : ℕ). n + 1) (chosen-length has_id id nonce))

  pub key-share : key_call_ups d key has_id id nonce has_counter counter ≡ key_share d.phase (length key) has_id (length id) (length nonce) has_counter (length counter)
  unfolding key_call_ups key_share
  key-share =
      let a = absorb 44 2 d first_run in
      let ad : a.phase ≡ Down = absorb-down 44 2 d first_run (lit< tt) in
      let b = if_given has_id (absorb 44 0 a nonce) a in
      let bd : b.phase ≡ Down = given-down has_id (absorb 44 0 a nonce) a (absorb-down 44 0 a nonce (lit< tt)) ad in
      ap₂ ◌+◌ (absorb-share 44 2 d first_run (lit< tt) ∙ ap (absorb_share d.phase 44) run_length)
      (ap₂ ◌+◌ (ap (if_given_ups has_id) (absorb-share 44 0 a nonce (lit< tt) ∙ ap (λ (p : Phase). absorb_share p 44 (length nonce)) ad))
      (ap (if_given_ups has_counter) (absorb-share 1 0 b counter (lit< tt) ∙ ap (λ (p : Phase). absorb_share p 1 (length counter)) bd)))

-- the flags and slices of a key call, as its parts hold them: t, and the nonce and counter where they are absorbed
module _ (key : List ℕ) (has_id : Bool) (id nonce : Bor (List ℕ)) (has_counter : Bool) (counter : Bor (List ℕ))
    {t : List ℕ} {beside count : Option (Bor (List ℕ))} (et : t ≡ chosen has_id id.now nonce.now) (eb : beside ≡ then_some has_id nonce) (ec : count ≡ then_some has_counter counter)
  where
    pub call-parts : (d r : Duplex) → r ≡ absorb_given 1 (absorb_given 44 (absorb 44 2 d (key ++ (t ++ (length t ∷ [])))) beside) count
        → r ≡ key_call d key has_id id.now nonce.now has_counter counter.now
    unfolding key_call
    call-parts d r e = e ∙ rw (et, eb, ec) (by-case has_id has_counter) where
      by-case : (p q : Bool) → absorb_given 1 (absorb_given 44 (absorb 44 2 d (key ++ (chosen p id.now nonce.now ++ (length (chosen p id.now nonce.now) ∷ [])))) (then_some p nonce)) (then_some q counter)
          ≡ key_call d key p id.now nonce.now q counter.now
      by-case true true = refl
      by-case true false = refl
      by-case false true = refl
      by-case false false = refl

    pub share-parts : (d : Duplex) (n : ℕ) → n ≡ absorb_share d.phase 44 (length key + (length t + 1)) + (given_share 44 beside + given_share 1 count)
        → n ≡ key_call_ups d key has_id id.now nonce.now has_counter counter.now
    unfolding key_share
    share-parts d n e = e ∙ rw (et, eb, ec) (by-case has_id has_counter) ∙ sym (key-share d key has_id id.now nonce.now has_counter counter.now) where
      by-case : (p q : Bool) → absorb_share d.phase 44 (length key + (length (chosen p id.now nonce.now) + 1)) + (given_share 44 (then_some p nonce) + given_share 1 (then_some q counter))
          ≡ key_share d.phase (length key) p (length id.now) (length nonce.now) q (length counter.now)
      by-case true true = refl
      by-case true false = refl
      by-case false true = refl
      by-case false false = refl

pub parts-fit : (key : List ℕ) (has_id : Bool) (id nonce : Bor (List ℕ)) {t : List ℕ} {beside : Option (Bor (List ℕ))} → t ≡ chosen has_id id.now nonce.now → beside ≡ then_some has_id nonce
    → length key + 1 + length id.now + length nonce.now ≤ 44 → length key + 1 + length t + length (bytes_in beside) ≤ 44
parts-fit key true id nonce et eb h = rw (et, eb) h
parts-fit key false id nonce et eb h = rw (et, eb) (omega (arith, h))

-- ---- a call's share, which the code made from a length n
pub seal-cost : (s : Session) (x : List ℕ) (u n : ℕ) → n ≡ length x → u ≡ seal_share s.rule n → u ≡ seal_ups s x
seal-cost s x u n l e = e ∙ ap (seal_share s.rule) l ∙ sym (seal-share s x)
