-- Call by call: what a call reports shows the cost that its shape has in the session's view, and a refusal costs nothing.
use mathlib.Core.Path.{◌≡◌, refl, sym, ap, ◌∙◌}
use mathlib.Core.Bool.{Bool, true, false}
use mathlib.Core.List.{List, [], ◌∷◌}
use Prim.Native.Nat.{ℕ, zero, suc, ◌+◌, ◌-◌, min}
use native.Mathlib.Nat.{zero-add}
use native.Mathlib.Omega.{arith}
use lib.Dec.{leb}
use lib.ListN.{length, take, length-take}
use Rattle.xoodyak.specs.declared.cyclist.Mode.{Mode}
use Rattle.xoodyak.specs.declared.cyclist.Mode.TheVariants.{Hash, Keyed}
use Rattle.xoodyak.specs.declared.cyclist.Phase.{Phase}
use Rattle.xoodyak.specs.declared.cyclist.Phase.TheVariants.{Up}
use Rattle.xoodyak.specs.declared.cyclist.Duplex.{Duplex}
use Rattle.xoodyak.specs.declared.Rule.{Rule}
use Rattle.xoodyak.specs.declared.Rule.TheVariants.{Crate, Specification}
use Rattle.xoodyak.specs.declared.feed.Kind.{Kind}
use Rattle.xoodyak.specs.declared.feed.Kind.TheVariants.{Seal, Open}
use Rattle.xoodyak.specs.declared.Session.{Session}
use Rattle.xoodyak.specs.Cyclist.{absorb_rate, up, down, absorb, ratchet, squeeze_end, squeeze_out, message_blocks, enc_end, dec_end, given}
use Rattle.xoodyak.specs.Numbers.{first, unfinished_number, kind_number, mode_number, keyed_number, key_number, rate_number, room_number, tail_number}
use Rattle.xoodyak.specs.Calls.{Outcome, settle, idle, session, new_of, absorb_of, absorb_more_of, squeeze_of, squeeze_more_of, key_of, ratchet_of, encrypt_end, decrypt_end, encrypt_ups, decrypt_ups, encrypt_of, encrypt_in_place_of, decrypt_of, decrypt_in_place_of, tag_end, tag_out, same_bytes, tag_number, verdict, seal_ups, open_ups, opened, seal_detached_of, seal_of, seal_in_place_detached_of, seal_in_place_of, open_detached_of, open_of, open_in_place_detached_of, open_in_place_of}
use Rattle.xoodyak.specs.Feed.{is_open, close_block, open_block, put, Progress, stands, ups_before, place_in, block_for, wrote, and_then, within, feed, end_block, Portion, portioned, begin_of, feed_of, ended, past_tag, finish_ups, finish_seal_of, finish_open_of}
use Rattle.xoodyak.specs.Shares.{more_share}
use Rattle.xoodyak.proofs.Settle.{second-zero, rate-fits, absorb-rate-fits, keyed-mode}
use Rattle.xoodyak.proofs.Costs.{absorb-share, absorb-more-share, squeeze-share, squeeze-more-share, key-share, ratchet-share, encrypt-share, decrypt-share, seal-share, open-share}
use Rattle.xoodyak.proofs.CostsOfFeeds.{feed-follows, finish-share}
use Rattle.walkback.specs.Walk.{Call, absorbs, absorbs_more, squeezes_more, keys, encrypts, forward, steps, unless_empty, message_phase, phase_after}
use Rattle.walkback.specs.Costs.{SessionCall, absorbing, absorbing_more, squeezing, squeezing_key, squeezing_more, keying, ratcheting, encrypting, encrypting_in_place, decrypting, decrypting_in_place, sealing_detached, sealing, sealing_in_place_detached, sealing_in_place, opening_detached, opening, opening_in_place_detached, opening_in_place, beginning, feeding, finishing_seal, finishing_open, shape, Report, reported, fed, report, view, Cost, unless, costs, given_length, message_cost, seal_cost, finish_cost, cost_of, new_cost}
use Rattle.theorems.proofs.WalkSteps.{run-mode, absorb-runs, squeeze-runs, absorb-phase, squeeze-phase, forward-runs, forward-phase}

-- what is public of a report
abbrev pub seen : Report → Cost
seen r = record { view = view r.session; spent = r.spent }

-- a number other than 0 and 4 is a refusal: it spends none, and the session is the one given
abbrev Advances : ℕ → Type 0
Advances n = (n ≡ 0 → ⊥) → (n ≡ 4 → ⊥) → ⊥

abbrev pub Free : Session → Report → Type 0
Free s r = (r.number ≡ 0 → ⊥) → (r.number ≡ 4 → ⊥) → (r.spent ≡ 0) × (r.session ≡ s)

abbrev pub Fair : Session → Report → Cost → Type 0
Fair s r y = (seen r ≡ y) × Free s r

-- a call's report shows the cost that its shape has in the session's view
abbrev pub Priced : Session → SessionCall → Type 0
Priced s c = Fair s (report s c) (cost_of (view s) (shape c))

-- ---- refused, or taken with the cost y
settled-cost : (n k : ℕ) (s : Session) (o : List ℕ) (x : Outcome) (y : Cost) → (n ≡ 0 → seen (reported x) ≡ y) → Advances x.number
    → Fair s (reported (settle n k s o x)) (unless n (view s) y)
settled-cost zero k s o x y h g = (h refl, λ a b. absurd (g a b))
settled-cost (suc n) k s o x y h g = (refl, λ a b. (refl, refl))

accepts : Advances 0
accepts a b = a refl

-- accepted: the mode stays, and the phase is p
onward-cost : (s : Session) {m : Mode} {q p : Phase} {u n : ℕ} → m ≡ s.duplex.mode → q ≡ p → u ≡ n
    → record { view = record { mode = m; rule = s.rule; phase = q; message = s.message }; spent = u } ≡ costs (view s) p n
onward-cost s em ep eu =
    λ i. record { view = record { mode = em i; rule = s.rule; phase = ep i; message = s.message }; spent = eu i }

-- no call changes the mode
pub forward-mode : (rule : Rule) (c : Call) (d : Duplex) → (forward rule c d).mode ≡ d.mode
forward-mode rule c d = ap (λ (e : Duplex). e.mode) (forward-runs rule c d) ∙ run-mode (steps rule d.mode d.phase c) d

absorb-mode : (r cd : ℕ) (d : Duplex) (x : List ℕ) → (absorb r cd d x).mode ≡ d.mode
absorb-mode r cd d x = ap (λ (e : Duplex). e.mode) (absorb-runs r cd d x) ∙ run-mode _ d

squeeze-mode : (d : Duplex) (n cu : ℕ) → (squeeze_end d n cu).mode ≡ d.mode
squeeze-mode d n cu = ap (λ (e : Duplex). e.mode) (squeeze-runs d n cu) ∙ run-mode _ d

-- ---- calls of both modes
absorb-priced : (s : Session) (x : List ℕ) → Priced s (absorbing x)
unfolding report shape cost_of absorb_of unfinished_number forward phase_after
absorb-priced s x =
    settled-cost (unfinished_number s) 0 s [] _ _
    (λ z. onward-cost s (forward-mode s.rule (absorbs x) s.duplex) (forward-phase s.rule (absorbs x) s.duplex)
    (absorb-share (absorb_rate s.duplex.mode) 3 s.duplex x (absorb-rate-fits s.duplex.mode).0)) accepts

absorb-more-priced : (s : Session) (x : List ℕ) (r : ℕ) → Priced s (absorbing_more x r)
unfolding report shape cost_of absorb_more_of unfinished_number forward phase_after more_share
absorb-more-priced s x r =
    let c = absorbs_more x r in
    settled-cost (first (unfinished_number s) (rate_number s.duplex.mode r)) 0 s [] _ _
    (λ z. onward-cost s (forward-mode s.rule c s.duplex) (forward-phase s.rule c s.duplex)
    (absorb-more-share r s.duplex x (rate-fits s.duplex.mode r (second-zero (unfinished_number s) _ (sym z))).0)) accepts

-- with either colour
squeeze-cost : (cu : ℕ) (s : Session) (o : List ℕ) → Fair s (reported (squeeze_of cu s o)) (cost_of (view s) (squeezing (length o)))
unfolding cost_of squeeze_of unfinished_number
squeeze-cost cu s o =
    let n = length o in
    settled-cost (unfinished_number s) 0 s o _ _ (λ z. onward-cost s (squeeze-mode s.duplex n cu) (squeeze-phase s.duplex n cu) (squeeze-share s.duplex n cu)) accepts

squeeze-more-priced : (s : Session) (o : List ℕ) → Priced s (squeezing_more o)
unfolding report shape cost_of squeeze_more_of unfinished_number forward phase_after more_share
squeeze-more-priced s o =
    let c = squeezes_more (length o) in
    settled-cost (unfinished_number s) 0 s o _ _
    (λ z. onward-cost s (forward-mode s.rule c s.duplex) (forward-phase s.rule c s.duplex) (squeeze-more-share s.duplex (length o))) accepts

-- ---- the key call, and ratchet
given-length : (has : Bool) (x : List ℕ) → length (given has x) ≡ given_length has (length x)
given-length true x = refl
given-length false x = refl

key-priced : (s : Session) (key : List ℕ) (has_id : Bool) (id : List ℕ) (has_nonce : Bool) (nonce : List ℕ) (has_counter : Bool) (counter : List ℕ)
    → Priced s (keying key has_id id has_nonce nonce has_counter counter)
unfolding report shape cost_of key_of keyed_number unfinished_number forward phase_after
key-priced s key has_id id has_nonce nonce has_counter counter =
    let c = keys key has_id id has_nonce nonce has_counter counter in
    rw (← given-length has_id id, ← given-length has_nonce nonce)
    (settled-cost (first (keyed_number s) (key_number (length key) (length (given has_id id)) (length (given has_nonce nonce)))) 0 s [] _ _
    (λ z. onward-cost s (forward-mode s.rule c s.duplex) (forward-phase s.rule c s.duplex)
    (key-share s.duplex key has_id (given has_id id) (given has_nonce nonce) has_counter counter)) accepts)

-- it squeezes, then absorbs
ratchet-priced : (s : Session) → Priced s ratcheting
unfolding report shape cost_of ratchet_of keyed_number unfinished_number ratchet
ratchet-priced s =
    let d = s.duplex in
    let e = squeeze_end d 16 0x10 in
    let x = squeeze_out d 16 0x10 in
    settled-cost (keyed_number s) 0 s [] _ _
    (λ z. onward-cost s (absorb-mode 16 0 e x ∙ squeeze-mode d 16 0x10) (absorb-phase 16 0 e x) (ratchet-share d (keyed-mode s (sym z)))) accepts

-- ---- messages: encrypted or decrypted, the phases are the same
dec-phase : (bs : List (List ℕ)) (cu cv : ℕ) (d e : Duplex) → d.phase ≡ e.phase → (dec_end bs cu d).phase ≡ (enc_end bs cv e).phase
unfolding dec_end enc_end down
dec-phase [] cu cv d e h = h
dec-phase (b ∷ bs) cu cv d e h = dec-phase bs 0 0 _ _ refl

dec-mode : (bs : List (List ℕ)) (cu : ℕ) (d : Duplex) → (dec_end bs cu d).mode ≡ d.mode
unfolding dec_end down up
dec-mode [] cu d = refl
dec-mode (b ∷ bs) cu d = dec-mode bs 0 _

module _ (s : Session) (m : List ℕ) where
  encrypt-mode : (encrypt_end s m).duplex.mode ≡ s.duplex.mode
  unfolding encrypt_end forward
  encrypt-mode = forward-mode s.rule (encrypts m) s.duplex

  encrypt-phase : (encrypt_end s m).duplex.phase ≡ message_phase s.rule (length m) s.duplex.phase
  unfolding encrypt_end forward phase_after
  encrypt-phase = forward-phase s.rule (encrypts m) s.duplex

  decrypt-mode : (decrypt_end s m).duplex.mode ≡ s.duplex.mode
  unfolding decrypt_end
  decrypt-mode = dec-mode _ 0x80 s.duplex

  decrypt-phase : (decrypt_end s m).duplex.phase ≡ message_phase s.rule (length m) s.duplex.phase
  unfolding decrypt_end encrypt_end
  decrypt-phase = dec-phase (message_blocks s.rule m) 0x80 0x80 s.duplex s.duplex refl ∙ encrypt-phase

  encrypted : record { view = view (encrypt_end s m); spent = encrypt_ups s m } ≡ message_cost (view s) (length m)
  unfolding encrypt_end
  encrypted = onward-cost s encrypt-mode encrypt-phase (encrypt-share s m)

  decrypted : record { view = view (decrypt_end s m); spent = decrypt_ups s m } ≡ message_cost (view s) (length m)
  unfolding decrypt_end
  decrypted = onward-cost s decrypt-mode decrypt-phase (decrypt-share s m)

  -- past the tag
  sealed : record { view = view (tag_end (encrypt_end s m)); spent = seal_ups s m } ≡ seal_cost (view s) (length m)
  unfolding encrypt_end tag_end
  sealed = onward-cost s (squeeze-mode _ 16 0x40 ∙ encrypt-mode) (squeeze-phase _ 16 0x40) (seal-share s m)

  past : record { view = view (tag_end (decrypt_end s m)); spent = open_ups s m } ≡ seal_cost (view s) (length m)
  unfolding decrypt_end tag_end
  past = onward-cost s (squeeze-mode _ 16 0x40 ∙ decrypt-mode) (squeeze-phase _ 16 0x40) (open-share s m)

-- whether the tag was right or wrong
judged : (v : Bool) (e : Session) (good bad : List ℕ) (u : ℕ) → seen (reported (verdict v e good bad u)) ≡ record { view = view e; spent = u }
judged true e good bad u = refl
judged false e good bad u = refl

opened-cost : (s : Session) (t c good bad : List ℕ) → seen (reported (opened s t c good bad)) ≡ seal_cost (view s) (length c)
unfolding opened
opened-cost s t c good bad = judged (same_bytes (tag_out (decrypt_end s c)) t) (tag_end (decrypt_end s c)) good bad _ ∙ past s c

-- 0 or 4
tag-advances : (v : Bool) → Advances (tag_number v)
tag-advances true a b = a refl
tag-advances false a b = b refl

verdict-advances : (v : Bool) (e : Session) (good bad : List ℕ) (u : ℕ) → Advances (verdict v e good bad u).number
verdict-advances true e good bad u = tag-advances true
verdict-advances false e good bad u = tag-advances false

opened-advances : (s : Session) (t c good bad : List ℕ) → Advances (opened s t c good bad).number
unfolding opened
opened-advances s t c good bad = verdict-advances (same_bytes (tag_out (decrypt_end s c)) t) (tag_end (decrypt_end s c)) good bad (open_ups s c)

-- all but the last 16 bytes
front_length : (b : List ℕ) → length (take (length b - 16) b) ≡ length b - 16
front_length b = let l : min (length b - 16) (length b) ≡ length b - 16 = omega arith in length-take (length b - 16) b ∙ l

module _ (s : Session) (o m : List ℕ) where
  encrypt-priced : Priced s (encrypting o m)
  unfolding report shape cost_of encrypt_of keyed_number unfinished_number
  encrypt-priced = settled-cost (first (keyed_number s) (room_number (length o) (length m))) _ s o _ _ (λ z. encrypted s m) accepts

  decrypt-priced : Priced s (decrypting o m)
  unfolding report shape cost_of decrypt_of keyed_number unfinished_number
  decrypt-priced = settled-cost (first (keyed_number s) (room_number (length o) (length m))) _ s o _ _ (λ z. decrypted s m) accepts

  seal-detached-cost : Fair s (reported (seal_detached_of s o m)) (cost_of (view s) (sealing_detached (length o) true (length m)))
  unfolding cost_of seal_detached_of keyed_number unfinished_number
  seal-detached-cost = settled-cost (first (keyed_number s) (room_number (length o) (length m))) _ s o _ _ (λ z. sealed s m) accepts

  seal-cost : Fair s (reported (seal_of s o m)) (cost_of (view s) (sealing (length o) true (length m)))
  unfolding cost_of seal_of keyed_number unfinished_number
  seal-cost = settled-cost (first (keyed_number s) (room_number (length o) (length m + 16))) _ s o _ _ (λ z. sealed s m) accepts

  open-detached-priced : (t : List ℕ) → Priced s (opening_detached o t m)
  unfolding report shape cost_of open_detached_of keyed_number unfinished_number
  open-detached-priced t = settled-cost (first (keyed_number s) (room_number (length o) (length m))) _ s o _ _ (λ z. opened-cost s t m _ _) (opened-advances s t m _ _)

  open-priced : Priced s (opening o m)
  unfolding report shape cost_of open_of keyed_number unfinished_number
  open-priced = settled-cost (first (first (keyed_number s) (tail_number (length m))) (room_number (length o) (length m - 16))) _ s o _ _ (λ z. opened-cost s _ _ _ _ ∙ ap (seal_cost (view s)) (front_length m)) (opened-advances s _ _ _ _)

module _ (s : Session) (b : List ℕ) where
  encrypt-in-place-priced : Priced s (encrypting_in_place b)
  unfolding report shape cost_of encrypt_in_place_of keyed_number unfinished_number
  encrypt-in-place-priced = settled-cost (keyed_number s) 0 s b _ _ (λ z. encrypted s b) accepts

  decrypt-in-place-priced : Priced s (decrypting_in_place b)
  unfolding report shape cost_of decrypt_in_place_of keyed_number unfinished_number
  decrypt-in-place-priced = settled-cost (keyed_number s) 0 s b _ _ (λ z. decrypted s b) accepts

  seal-in-place-detached-priced : Priced s (sealing_in_place_detached b)
  unfolding report shape cost_of seal_in_place_detached_of keyed_number unfinished_number
  seal-in-place-detached-priced = settled-cost (keyed_number s) 0 s b _ _ (λ z. sealed s b) accepts

  seal-in-place-priced : Priced s (sealing_in_place b)
  unfolding report shape cost_of seal_in_place_of keyed_number unfinished_number
  seal-in-place-priced = settled-cost (first (keyed_number s) (tail_number (length b))) 0 s b _ _ (λ z. sealed s _ ∙ ap (seal_cost (view s)) (front_length b)) accepts

  open-in-place-detached-priced : (t : List ℕ) → Priced s (opening_in_place_detached b t)
  unfolding report shape cost_of open_in_place_detached_of keyed_number unfinished_number
  open-in-place-detached-priced t = settled-cost (keyed_number s) 0 s b _ _ (λ z. opened-cost s t b _ _) (opened-advances s t b _ _)

  open-in-place-priced : Priced s (opening_in_place b)
  unfolding report shape cost_of open_in_place_of keyed_number unfinished_number
  open-in-place-priced = settled-cost (first (keyed_number s) (tail_number (length b))) 0 s b _ _ (λ z. opened-cost s _ _ _ _ ∙ ap (seal_cost (view s)) (front_length b)) (opened-advances s _ _ _ _)

-- ---- a message handed over bit by bit
portioned-cost : (n k : ℕ) (s : Session) (o : List ℕ) (x : Portion) (y : Cost) → (n ≡ 0 → seen (fed x) ≡ y) → Advances x.number
    → Fair s (fed (portioned n k s o x)) (unless n (view s) y)
portioned-cost zero k s o x y h g = (h refl, λ a b. absurd (g a b))
portioned-cost (suc n) k s o x y h g = (refl, λ a b. (refl, refl))

begin-priced : (s : Session) (kind : Kind) → Priced s (beginning kind)
unfolding report shape cost_of begin_of keyed_number unfinished_number
begin-priced s kind = settled-cost (keyed_number s) 0 s [] _ _ (λ z. refl) accepts

-- a feed keeps the mode; its phase is Up once it made an Up
block-mode : (fits : Bool) (p : ℕ) (d : Duplex) → (block_for fits p d).mode ≡ d.mode
unfolding open_block close_block up
block-mode true p d = refl
block-mode false zero d = refl
block-mode false (suc p) d = refl

block-phase : (p : ℕ) (d : Duplex) → (open_block p d).phase ≡ Up
unfolding open_block up
block-phase zero d = refl
block-phase (suc p) d = refl

abbrev Keeps : Duplex → Progress → Type 0
Keeps d f = (f.duplex.mode ≡ d.mode) × (f.duplex.phase ≡ unless_empty f.spent d.phase Up)

up-after : (n : ℕ) (p : Phase) → unless_empty (1 + n) p Up ≡ Up
up-after n p = let e : 1 + n ≡ suc n = omega arith in rw e

up-stays : (n : ℕ) → unless_empty n Up Up ≡ Up
up-stays zero = refl
up-stays (suc n) = refl

-- a byte, and f after it
byte-keeps : (allowed fits : Bool) (p : ℕ) (d : Duplex) (b : ℕ) (f : Progress) → Keeps (block_for fits p d) f
    → Keeps d (within allowed (and_then (ups_before fits) b f) (stands p d))
byte-keeps false fits p d b f h = (refl, refl)
byte-keeps true true p d b f h = (h.0, rw zero-add h.1)
byte-keeps true false p d b f h = (
  h.0 ∙ block-mode false p d,
  h.1 ∙ ap (λ (q : Phase). unless_empty f.spent q Up) (block-phase p d) ∙ up-stays f.spent ∙ sym (up-after f.spent d.phase),
)

feed-keeps : (kind : Kind) (a p : ℕ) (d : Duplex) (x : List ℕ) → Keeps d (feed kind a p d x)
unfolding feed put
feed-keeps kind a p d [] = (refl, refl)
feed-keeps kind a p d (b ∷ x) =
    let fits = is_open p in
    let q = place_in fits p in
    let e = block_for fits p d in
    let k = feed-keeps kind (a - ups_before fits) (suc q) (put kind q b e) x in
    byte-keeps (leb (ups_before fits) a) fits p d (wrote q b e) (feed kind (a - ups_before fits) (suc q) (put kind q b e) x) k

feed-priced : (s : Session) (kind : Kind) (o x : List ℕ) (a : ℕ) → Priced s (feeding kind o x a)
unfolding report shape cost_of feed_of kind_number
feed-priced s kind o x a =
    let p = s.message.place in
    let d = s.duplex in
    let k = feed-follows kind a p d x in
    let h = feed-keeps kind a p d x in
    let ep = h.1 ∙ ap (λ (n : ℕ). unless_empty n d.phase Up) k.0 in
    portioned-cost (first (kind_number kind s) (first (mode_number d.mode) (room_number (length o) (length x)))) _ s o _ _
    (λ z i. record {
      view = record { mode = h.0 i; rule = s.rule; phase = ep i; message = record { begun = true; kind = kind; place = k.1.1 i } };
      spent = k.0 i;
    }) accepts

-- a finish closes the last block and squeezes the tag
end-mode : (rule : Rule) (p : ℕ) (d : Duplex) → (end_block rule p d).mode ≡ d.mode
unfolding end_block close_block down up
end-mode Crate zero d = refl
end-mode Specification zero d = refl
end-mode Crate (suc p) d = refl
end-mode Specification (suc p) d = refl

finished : (s : Session) → record { view = view (past_tag s); spent = finish_ups s } ≡ finish_cost (view s)
unfolding past_tag ended
finished s =
    let e = end_block s.rule s.message.place s.duplex in
    let em = squeeze-mode e 16 0x40 ∙ end-mode s.rule s.message.place s.duplex in
    λ i. record { view = record { mode = em i; rule = s.rule; phase = squeeze-phase e 16 0x40 i; message = idle }; spent = finish-share s i }

finish-seal-priced : (s : Session) → Priced s finishing_seal
unfolding report shape cost_of finish_seal_of kind_number
finish-seal-priced s = portioned-cost (first (kind_number Seal s) (mode_number s.duplex.mode)) 0 s [] _ _ (λ z. finished s) accepts

finish-open-priced : (s : Session) (t : List ℕ) → Priced s (finishing_open t)
unfolding report shape cost_of finish_open_of kind_number
finish-open-priced s t =
    portioned-cost (first (kind_number Open s) (mode_number s.duplex.mode)) 0 s [] _ _ (λ z. finished s)
    (tag-advances (same_bytes (squeeze_out (ended s) 16 0x40) t))

-- ---- any call
pub priced : (s : Session) (c : SessionCall) → Priced s c
unfolding report shape cost_of
priced s (absorbing x) = absorb-priced s x
priced s (absorbing_more x r) = absorb-more-priced s x r
priced s (squeezing o) = squeeze-cost 0x40 s o
priced s (squeezing_key o) = squeeze-cost 0x20 s o
priced s (squeezing_more o) = squeeze-more-priced s o
priced s (keying key has_id id has_nonce nonce has_counter counter) = key-priced s key has_id id has_nonce nonce has_counter counter
priced s ratcheting = ratchet-priced s
priced s (encrypting o m) = encrypt-priced s o m
priced s (encrypting_in_place b) = encrypt-in-place-priced s b
priced s (decrypting o c) = decrypt-priced s o c
priced s (decrypting_in_place b) = decrypt-in-place-priced s b
priced s (sealing_detached o true m) = seal-detached-cost s o m
priced s (sealing_detached o false m) = seal-detached-cost s o []
priced s (sealing o true m) = seal-cost s o m
priced s (sealing o false m) = seal-cost s o []
priced s (sealing_in_place_detached b) = seal-in-place-detached-priced s b
priced s (sealing_in_place b) = seal-in-place-priced s b
priced s (opening_detached o t c) = open-detached-priced s o c t
priced s (opening o b) = open-priced s o b
priced s (opening_in_place_detached b t) = open-in-place-detached-priced s b t
priced s (opening_in_place b) = open-in-place-priced s b
priced s (beginning kind) = begin-priced s kind
priced s (feeding kind o x a) = feed-priced s kind o x a
priced s finishing_seal = finish-seal-priced s
priced s (finishing_open t) = finish-open-priced s t

-- ---- `new`, which makes the session: refused, it is a fresh Hash session
pub new-priced : (rule : Rule) (key : List ℕ) (has_nonce : Bool) (nonce : List ℕ) (has_id : Bool) (id : List ℕ) (has_counter : Bool) (counter : List ℕ)
    → seen (reported (new_of rule key has_nonce nonce has_id id has_counter counter)) ≡ new_cost rule (length key) has_nonce (length nonce) has_id (length id) has_counter (length counter)
unfolding new_of new_cost forward phase_after
new-priced rule key has_nonce nonce has_id id has_counter counter =
    let s = session rule Keyed in
    let c = keys key has_id id has_nonce nonce has_counter counter in
    rw (← given-length has_id id, ← given-length has_nonce nonce)
    (settled-cost (key_number (length key) (length (given has_id id)) (length (given has_nonce nonce))) 0 (session rule Hash) [] _ _
    (λ z. onward-cost s (forward-mode rule c s.duplex) (forward-phase rule c s.duplex)
    (key-share s.duplex key has_id (given has_id id) (given has_nonce nonce) has_counter counter)) accepts).0
