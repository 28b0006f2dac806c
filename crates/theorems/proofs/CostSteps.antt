-- What an accepted call spends is the number of Up steps among the steps that it is made of (WalkSteps.antt, `forward-runs`).
use mathlib.Core.Path.{◌≡◌, refl, sym, ap, ap₂, ◌∙◌}
use mathlib.Core.Bool.{Bool, true, false}
use mathlib.Core.List.{List, [], ◌∷◌, ◌++◌}
use Prim.Native.Nat.{ℕ, suc, ◌+◌, ◌-◌}
use native.Mathlib.Nat.{zero-add}
use native.Mathlib.Omega.{arith}
use lib.ListN.{length, replicate, length-replicate}
use Rattle.laws.specs.Blocks.{cuts, blocks, sizes}
use Rattle.xoodyak.specs.declared.cyclist.Mode.{Mode}
use Rattle.xoodyak.specs.declared.cyclist.Phase.{Phase}
use Rattle.xoodyak.specs.declared.cyclist.Phase.TheVariants.{Up, Down}
use Rattle.xoodyak.specs.declared.cyclist.Duplex.{Duplex}
use Rattle.xoodyak.specs.declared.Rule.{Rule}
use Rattle.xoodyak.specs.declared.Session.{Session}
use Rattle.xoodyak.specs.Cyclist.{absorb_rate, squeeze_rate, up, down, ready, absorb, message_blocks, enc_end, given, chosen, if_given}
use Rattle.xoodyak.specs.Ups.{ready_ups, absorb_blocks_ups, absorb_ups, more_blocks_ups, absorb_more_ups, nexts_ups, squeeze_more_ups, squeeze_ups, enc_ups, if_given_ups, key_call_ups}
use Rattle.xoodyak.specs.Numbers.{first, unfinished_number, mode_number, keyed_number, key_number, rate_number}
use Rattle.xoodyak.specs.Calls.{Outcome, settle, absorb_of, absorb_more_of, squeeze_of, squeeze_more_of, key_of, encrypt_end, encrypt_ups, encrypt_in_place_of, tag_ups, seal_ups, seal_in_place_detached_of}
use Rattle.walkback.specs.Steps.{Step, up_step, down_step, ups, block_steps, ready_steps, absorb_block_steps, absorb_steps, next_steps, squeeze_more_steps, squeeze_steps}
use Rattle.walkback.specs.Walk.{Call, absorbs, absorbs_more, squeezes, squeezes_key, squeezes_more, keys, encrypts, seals, call_number, forward, if_steps, key_run, key_steps, steps}
use Rattle.walkback.specs.Costs.{SessionCall, absorbing, absorbing_more, squeezing, squeezing_key, squeezing_more, keying, encrypting_in_place, sealing_in_place_detached, report}
use Rattle.theorems.proofs.WalkSteps.{absorb-phase}
use Rattle.theorems.proofs.CostCalls.{forward-mode}

ups-append : (ss ts : List Step) → ups (ss ++ ts) ≡ ups ss + ups ts
unfolding ups
ups-append [] ts = sym (zero-add (ups ts))
ups-append (up_step cu ∷ ss) ts = let h = ups-append ss ts in omega arith
ups-append (down_step x cd ∷ ss) ts = ups-append ss ts

-- ---- each count along the steps
enc-ups : (bs : List (List ℕ)) (cu : ℕ) (d : Duplex) → enc_ups bs cu d ≡ ups (block_steps cu bs)
unfolding enc_ups block_steps ups
enc-ups [] cu d = refl
enc-ups (b ∷ bs) cu d = ap suc (enc-ups bs 0 _)

more-ups : (bs : List (List ℕ)) (d : Duplex) → more_blocks_ups bs d ≡ ups (block_steps 0 bs)
unfolding more_blocks_ups block_steps ups
more-ups [] d = refl
more-ups (b ∷ bs) d = ap suc (more-ups bs _)

nexts-ups : (ks : List ℕ) (d : Duplex) → nexts_ups ks d ≡ ups (next_steps ks)
unfolding nexts_ups next_steps ups
nexts-ups [] d = refl
nexts-ups (k ∷ ks) d = ap suc (nexts-ups ks _)

squeeze-more-ups : (d : Duplex) (n : ℕ) → squeeze_more_ups d n ≡ ups (squeeze_more_steps d.mode n)
unfolding squeeze_more_ups squeeze_more_steps
squeeze-more-ups d n = nexts-ups (sizes (squeeze_rate d.mode) n) d

squeeze-ups : (d : Duplex) (n cu : ℕ) → squeeze_ups d n cu ≡ ups (squeeze_steps d.mode cu n)
unfolding squeeze_ups squeeze_steps ups up
squeeze-ups d n cu = ap suc (squeeze-more-ups (up d cu) (n - squeeze_rate d.mode))

-- absorbing, from phase Down and from any
later-ups : (bs : List (List ℕ)) (d : Duplex) → d.phase ≡ Down → absorb_blocks_ups bs 0 d ≡ ups (block_steps 0 bs)
unfolding absorb_blocks_ups block_steps ups down
later-ups [] d e = refl
later-ups (b ∷ bs) d e = ap₂ ◌+◌ (ap ready_ups e) (later-ups bs (down (ready d) b 0) refl) ∙ omega arith

ready-ups : (p : Phase) (ss : List Step) → ups (ready_steps p ++ ss) ≡ ready_ups p + ups ss
unfolding ups
ready-ups Up ss = sym (zero-add (ups ss))
ready-ups Down ss = omega arith

blocks-ups : (bs : List (List ℕ)) (cd : ℕ) (d : Duplex) → absorb_blocks_ups bs cd d ≡ ups (absorb_block_steps d.phase cd bs)
unfolding absorb_blocks_ups absorb_block_steps ups down
blocks-ups [] cd d = refl
blocks-ups (b ∷ bs) cd d =
    ap (λ (n : ℕ). ready_ups d.phase + n) (later-ups bs (down (ready d) b cd) refl) ∙ sym (ready-ups d.phase (down_step b cd ∷ block_steps 0 bs))

absorb-ups : (r cd : ℕ) (d : Duplex) (x : List ℕ) (p : Phase) → d.phase ≡ p → absorb_ups r cd d x ≡ ups (absorb_steps p r cd x)
unfolding absorb_ups absorb_steps
absorb-ups r cd d x p e = blocks-ups (blocks r x) cd d ∙ ap (λ (q : Phase). ups (absorb_block_steps q cd (blocks r x))) e

-- the key call: each input after the first meets phase Down
if-ups : (f : Bool) (n : ℕ) (ss : List Step) → n ≡ ups ss → if_given_ups f n ≡ ups (if_steps f ss)
unfolding ups
if-ups true n ss e = e
if-ups false n ss e = refl

if-down : (f : Bool) (d : Duplex) (x : List ℕ) → d.phase ≡ Down → (if_given f (absorb 44 0 d x) d).phase ≡ Down
if-down true d x e = absorb-phase 44 0 d x
if-down false d x e = e

key-ups : (d : Duplex) (key : List ℕ) (has_id : Bool) (id nonce : List ℕ) (has_counter : Bool) (counter : List ℕ)
    → key_call_ups d key has_id id nonce has_counter counter ≡ ups (key_steps d.phase key has_id id nonce has_counter counter)
unfolding key_call_ups key_steps key_run
key-ups d key has_id id nonce has_counter counter =
    let t = chosen has_id id nonce in
    let x = key ++ (t ++ (length t ∷ [])) in
    let a = absorb 44 2 d x in
    let b = if_given has_id (absorb 44 0 a nonce) a in
    let ad : a.phase ≡ Down = absorb-phase 44 2 d x in
    ap₂ ◌+◌ (absorb-ups 44 2 d x d.phase refl)
    (ap₂ ◌+◌ (if-ups has_id _ _ (absorb-ups 44 0 a nonce Down ad)) (if-ups has_counter _ _ (absorb-ups 1 0 b counter Down (if-down has_id a nonce ad))))
    ∙ sym (ups-append _ _ ∙ ap (λ (n : ℕ). ups (absorb_steps d.phase 44 2 x) + n) (ups-append _ _))

-- ---- the count of each call
unfoldable pub ups_of : Rule → Call → Duplex → ℕ
ups_of rule (absorbs x) d = absorb_ups (absorb_rate d.mode) 3 d x
ups_of rule (absorbs_more x r) d = absorb_more_ups r d x
ups_of rule (squeezes n) d = squeeze_ups d n 0x40
ups_of rule (squeezes_key n) d = squeeze_ups d n 0x20
ups_of rule (squeezes_more n) d = squeeze_more_ups d n
ups_of rule (keys key has_id id has_nonce nonce has_counter counter) d = key_call_ups d key has_id (given has_id id) (given has_nonce nonce) has_counter counter
ups_of rule (encrypts x) d = enc_ups (message_blocks rule x) 0x80 d
ups_of rule (seals x) d = enc_ups (message_blocks rule x) 0x80 d + squeeze_ups (enc_end (message_blocks rule x) 0x80 d) 16 0x40

pub ups-of-steps : (rule : Rule) (c : Call) (d : Duplex) → ups_of rule c d ≡ ups (steps rule d.mode d.phase c)
unfolding ups_of steps absorb_more_ups forward
ups-of-steps rule (absorbs x) d = absorb-ups (absorb_rate d.mode) 3 d x d.phase refl
ups-of-steps rule (absorbs_more x r) d = more-ups (cuts r x) d
ups-of-steps rule (squeezes n) d = squeeze-ups d n 0x40
ups-of-steps rule (squeezes_key n) d = squeeze-ups d n 0x20
ups-of-steps rule (squeezes_more n) d = squeeze-more-ups d n
ups-of-steps rule (keys key has_id id has_nonce nonce has_counter counter) d = key-ups d key has_id (given has_id id) (given has_nonce nonce) has_counter counter
ups-of-steps rule (encrypts x) d = enc-ups (message_blocks rule x) 0x80 d
ups-of-steps rule (seals x) d =
    let bs = message_blocks rule x in
    ap₂ ◌+◌ (enc-ups bs 0x80 d)
    (squeeze-ups (enc_end bs 0x80 d) 16 0x40 ∙ ap (λ (m : Mode). ups (squeeze_steps m 0x40 16)) (forward-mode rule (encrypts x) d))
    ∙ sym (ups-append (block_steps 0x80 bs) _)

-- ---- the session's call for each
abbrev pub walked : Call → SessionCall
walked (absorbs x) = absorbing x
walked (absorbs_more x r) = absorbing_more x r
walked (squeezes n) = squeezing (replicate n 0)
walked (squeezes_key n) = squeezing_key (replicate n 0)
walked (squeezes_more n) = squeezing_more (replicate n 0)
walked (keys key has_id id has_nonce nonce has_counter counter) = keying key has_id id has_nonce nonce has_counter counter
walked (encrypts x) = encrypting_in_place x
walked (seals x) = sealing_in_place_detached x

settle-spent : (n k : ℕ) (s : Session) (o : List ℕ) (x : Outcome) → n ≡ 0 → (settle n k s o x).spent ≡ x.spent
settle-spent n k s o x e = ap (λ (j : ℕ). (settle j k s o x).spent) e

-- no message is begun, so that the first number is 0 and the second, if any, decides
module _ (s : Session) (h : s.message.begun ≡ false) where
  free : unfinished_number s ≡ 0
  unfolding unfinished_number
  free = rw h

  keyed : keyed_number s ≡ mode_number s.duplex.mode
  unfolding keyed_number
  keyed = rw free

  reports-ups : (c : Call) → call_number s.duplex.mode c ≡ 0 → (report s (walked c)).spent ≡ ups_of s.rule c s.duplex
  unfolding report ups_of call_number absorb_of absorb_more_of squeeze_of squeeze_more_of key_of encrypt_in_place_of seal_in_place_detached_of encrypt_ups seal_ups encrypt_end tag_ups
  reports-ups (absorbs x) e = settle-spent (unfinished_number s) 0 s [] _ free
  reports-ups (absorbs_more x r) e = settle-spent (first (unfinished_number s) (rate_number s.duplex.mode r)) 0 s [] _ (rw free e)
  reports-ups (squeezes n) e = settle-spent (unfinished_number s) 0 s (replicate n 0) _ free ∙ ap (λ (k : ℕ). squeeze_ups s.duplex k 0x40) (length-replicate n 0)
  reports-ups (squeezes_key n) e = settle-spent (unfinished_number s) 0 s (replicate n 0) _ free ∙ ap (λ (k : ℕ). squeeze_ups s.duplex k 0x20) (length-replicate n 0)
  reports-ups (squeezes_more n) e = settle-spent (unfinished_number s) 0 s (replicate n 0) _ free ∙ ap (squeeze_more_ups s.duplex) (length-replicate n 0)
  reports-ups (keys key has_id id has_nonce nonce has_counter counter) e =
      settle-spent (first (keyed_number s) (key_number (length key) (length (given has_id id)) (length (given has_nonce nonce)))) 0 s [] _ (rw keyed e)
  reports-ups (encrypts x) e = settle-spent (keyed_number s) 0 s x _ (keyed ∙ e)
  reports-ups (seals x) e = settle-spent (keyed_number s) 0 s x _ (keyed ∙ e)

  pub spent-ups : (c : Call) → call_number s.duplex.mode c ≡ 0 → (report s (walked c)).spent ≡ ups (steps s.rule s.duplex.mode s.duplex.phase c)
  spent-ups c e = reports-ups c e ∙ ups-of-steps s.rule c s.duplex
