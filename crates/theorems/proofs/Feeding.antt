-- Sealing and opening bit by bit (request T-02): for any cuts as the one-call form, counted by the definition's Up steps, prompt.
use mathlib.Core.Path.{◌≡◌, refl, sym, ap, ap₂, ◌∙◌}
use mathlib.Core.Bool.{Bool, true, false}
use mathlib.Core.List.{List, [], ◌∷◌, ◌++◌}
use mathlib.Core.Logic.{◌⊎◌, ◌≢◌, inl, inr}
use Prim.Native.Nat.{ℕ, zero, suc, ◌+◌, ◌<◌, ◌-◌, ◌*◌, ◌/◌, ◌%◌, ◌≤◌, min}
use native.Mathlib.Omega.{arith}
use native.Mathlib.Nat.{zero-mul, suc-mul, div-add-mod', mod-lt, mul-le-mul_right}
use lib.ListN.{length, take, drop, length-drop}
use lib.Seq.{take-append_seam}
use borrow.Author.Tests.{le-ltb}
use Rattle.laws.specs.Blocks.{cuts}
use Rattle.xoodyak.specs.declared.cyclist.Mode.TheVariants.{Keyed}
use Rattle.xoodyak.specs.declared.cyclist.Duplex.{Duplex}
use Rattle.xoodyak.specs.declared.Rule.{Rule}
use Rattle.xoodyak.specs.declared.Rule.TheVariants.{Crate, Specification}
use Rattle.xoodyak.specs.declared.feed.Kind.{Kind}
use Rattle.xoodyak.specs.declared.feed.Kind.TheVariants.{Seal, Open}
use Rattle.xoodyak.specs.declared.tag.Tag.{Tag}
use Rattle.xoodyak.specs.declared.Session.{Session}
use Rattle.xoodyak.specs.Cyclist.{message_blocks, squeeze_end, squeeze_out}
use Rattle.xoodyak.specs.Numbers.{first, mode_number, kind_number, room_number, missing, when, begun_number, other_kind}
use Rattle.xoodyak.specs.Calls.{mode, idle, same_bytes, tag_number, no_tag, taken, settle, encrypt_end, encrypt_out, decrypt_end, decrypt_out, verdict, opened, tag_end, tag_out, seal_in_place_detached_of, open_in_place_detached_of}
use Rattle.xoodyak.specs.Feed.{Progress, Portion, portioned, feed, begin_of, feed_of, ended, past_tag, finish_ups, finish_seal_of, finish_open_of, end_ups}
use Rattle.walkback.specs.Steps.{ups, block_steps}
use Rattle.walkback.specs.Walk.{seals, forward, steps}
use Rattle.theorems.proofs.Crypt.{keyed-taken, decrypt-encrypt, verdict-number, decrypt-length}
use Rattle.theorems.proofs.FeedLaws.{end_of, out_of, full, full-append, full-mode, feed-full, message-is, full-ups, end-ups-none, only-ups, seal-ups, same_count, feed-spends, feed-stops, feed-takes, feed-cap, end-cap}
use Rattle.theorems.proofs.Demand2.{Seals, opens-in-place-detached, seals-agree, seals-in-place-detached, seal-in-place-detached-is, open-in-place-detached-is, first-other, when-other, mode-other}
use Rattle.theorems.proofs.WalkCalls.{seal-in-place-detached-end, verdict-end, open-end}

-- ---- one feed after the other
-- a piece, the output that it may write to, and the allowance
pub record Offer : Type 0 where
  pub out : List ℕ
  pub piece : List ℕ
  pub allowance : ℕ

abbrev pub feeds : Kind → Session → Offer → Portion
feeds kind s o = feed_of kind s o.out o.piece o.allowance

-- the session after all of them, the bytes taken and those written, joined, and the permutations spent; a refused one takes and writes none
abbrev pub after_all : Kind → Session → List Offer → Session
after_all kind s [] = s
after_all kind s (o ∷ os) = after_all kind (feeds kind s o).session os

abbrev pub taken_all : Kind → Session → List Offer → List ℕ
taken_all kind s [] = []
taken_all kind s (o ∷ os) = take (feeds kind s o).taken o.piece ++ taken_all kind (feeds kind s o).session os

abbrev pub written_all : Kind → Session → List Offer → List ℕ
written_all kind s [] = []
written_all kind s (o ∷ os) = take (feeds kind s o).taken (feeds kind s o).bytes ++ written_all kind (feeds kind s o).session os

abbrev pub spent_all : Kind → Session → List Offer → ℕ
spent_all kind s [] = 0
spent_all kind s (o ∷ os) = (feeds kind s o).spent + spent_all kind (feeds kind s o).session os

-- ---- they are one run over the bytes taken
abbrev begun_at : Kind → Rule → ℕ → Duplex → Session
begun_at kind rule p d = record { duplex = d; rule = rule; message = record { begun = true; kind = kind; place = p } }

-- from place p and duplex d: y was taken, w written and n spent, and e is the session then
record Ran (kind : Kind) (rule : Rule) (p : ℕ) (d : Duplex) (y w : List ℕ) (n : ℕ) (e : Session) : Type 0 where
  session : e ≡ begun_at kind rule (full kind p d y).place (full kind p d y).duplex
  bytes : w ≡ (full kind p d y).bytes
  spent : n ≡ (full kind p d y).spent

module _ (kind : Kind) (rule : Rule) where
  -- an accepted feed, and what a feed of x is by its outcome
  abbrev accepted : Progress → List ℕ → Portion
  accepted f o = record {
    session = begun_at kind rule f.place f.duplex;
    number = 0;
    missing = 0;
    tag = no_tag;
    bytes = f.bytes ++ drop (length f.bytes) o;
    taken = length f.bytes;
    spent = f.spent;
  }

  abbrev RanBy : ℕ → Duplex → List ℕ → Portion → Type 0
  RanBy p d x f = Ran kind rule p d (take f.taken x) (take f.taken f.bytes) f.spent f.session

  portion-ran :
      (n k p a : ℕ) (d : Duplex) (o x : List ℕ) → RanBy p d x (portioned n k (begun_at kind rule p d) o (accepted (feed kind a p d x) o))
  unfolding full
  portion-ran zero k p a d o x =
      let f = feed kind a p d x in
      let e = feed-full kind a p d x in
      record {
        session = ap (λ (g : Progress). begun_at kind rule g.place g.duplex) e;
        bytes = take-append_seam f.bytes (drop (length f.bytes) o) ∙ ap (λ (g : Progress). g.bytes) e;
        spent = ap (λ (g : Progress). g.spent) e;
      }
  portion-ran (suc n) k p a d o x = record { session = refl; bytes = refl; spent = refl }

  -- the numbers that a feed may be refused with
  abbrev feed_number : Session → Offer → ℕ
  feed_number s o = first (kind_number kind s) (first (mode_number (mode s)) (room_number (length o.out) (length o.piece)))

  one-feed : (p : ℕ) (d : Duplex) (s : Session) (o : Offer) → s ≡ begun_at kind rule p d → RanBy p d o.piece (feeds kind s o)
  unfolding feed_of
  one-feed p d s o e =
      let n = feed_number (begun_at kind rule p d) o in
      rw e (portion-ran n (missing n (length o.out) (length o.piece)) p o.allowance d o.out o.piece)

  then-ran :
      {p : ℕ} {d : Duplex} {y w y' w' : List ℕ} {n n' : ℕ} {e e' : Session}
      → Ran kind rule p d y w n e → Ran kind rule (full kind p d y).place (full kind p d y).duplex y' w' n' e'
      → Ran kind rule p d (y ++ y') (w ++ w') (n + n') e'
  then-ran {p} {d} {y} {y' = y'} r r' =
      let q = sym (full-append kind y y' p d) in
      record {
        session = r'.session ∙ ap (λ (g : Progress). begun_at kind rule g.place g.duplex) q;
        bytes = ap₂ ◌++◌ r.bytes r'.bytes ∙ ap (λ (g : Progress). g.bytes) q;
        spent = ap₂ ◌+◌ r.spent r'.spent ∙ ap (λ (g : Progress). g.spent) q;
      }

  all-ran :
      (os : List Offer) (p : ℕ) (d : Duplex) (s : Session) → s ≡ begun_at kind rule p d
      → Ran kind rule p d (taken_all kind s os) (written_all kind s os) (spent_all kind s os) (after_all kind s os)
  unfolding full
  all-ran [] p d s e = record { session = e; bytes = refl; spent = refl }
  all-ran (o ∷ os) p d s e =
      let r = one-feed p d s o e in
      then-ran r (all-ran os _ _ (feeds kind s o).session r.session)

-- a message of this kind is begun, in a keyed session
abbrev pub Ready : Kind → Session → Type 0
Ready kind s = (s.message.begun ≡ true) × (s.message.kind ≡ kind) × (mode s ≡ Keyed)

-- ---- a message begun, the offers made and, below, finished: the session before the finish, what went in and came out, and what was spent
abbrev pub stop : Kind → Session → List Offer → Session
stop kind s os = after_all kind (begin_of kind s).session os

abbrev pub input : Kind → Session → List Offer → List ℕ
input kind s os = taken_all kind (begin_of kind s).session os

abbrev pub output : Kind → Session → List Offer → List ℕ
output kind s os = written_all kind (begin_of kind s).session os

abbrev pub spent : Kind → Session → List Offer → ℕ
spent kind s os = spent_all kind (begin_of kind s).session os

-- the finish of either kind, the tag being that received; and the plaintext
abbrev pub finish_of : Kind → Session → Tag → Portion
finish_of Seal s t = finish_seal_of s
finish_of Open s t = finish_open_of s t

abbrev pub plaintext : Kind → Session → List Offer → List ℕ
plaintext Seal s os = input Seal s os
plaintext Open s os = output Open s os

-- an accepted finish
abbrev finished : Session → ℕ → List ℕ → ℕ → Portion
finished e n t ups = record { session = e; number = n; missing = 0; tag = t; bytes = []; taken = 0; spent = ups }

module _ (k : ℕ) (s : Session) (o : List ℕ) (x : Portion) where
  no-refusal : {n : ℕ} → n ≡ 0 → portioned n k s o x ≡ x
  no-refusal e = ap (λ n. portioned n k s o x) e

begun-own : (kind : Kind) → begun_number true kind kind ≡ 0
begun-own Seal = refl
begun-own Open = refl

ready-kind : (kind : Kind) (s : Session) → Ready kind s → kind_number kind s ≡ 0
unfolding kind_number
ready-kind kind s r = ap₂ (λ b k. begun_number b kind k) r.0 r.1 ∙ begun-own kind

verdict-good : (b : Bool) (s : Session) (good bad : List ℕ) (u : ℕ) → (verdict b s good bad u).number ≡ 0 → (verdict b s good bad u).bytes ≡ good
verdict-good true s good bad u e = refl
verdict-good false s good bad u e = absurd (omega arith)

-- ---- from a keyed session with no message begun
module _ (s : Session) (none : s.message ≡ idle) (keyed : mode s ≡ Keyed) where
  idles : s.message.begun ≡ false
  idles = ap (λ m. m.begun) none

  begin-is : (kind : Kind) → begin_of kind s ≡ taken (begun_at kind s.rule 0 s.duplex) no_tag [] 0
  unfolding begin_of
  begin-is kind =
      ap (λ n. settle n 0 s [] (taken (begun_at kind s.rule 0 s.duplex) no_tag [] 0)) (keyed-taken s idles keyed)

  module _ (kind : Kind) (os : List Offer) where
    ran : Ran kind s.rule 0 s.duplex (input kind s os) (output kind s os) (spent kind s os) (stop kind s os)
    ran = all-ran kind s.rule os 0 s.duplex (begin_of kind s).session (ap (λ x. x.session) (begin-is kind))

    -- begin is accepted, and each feed and finish finds its message begun
    pub goes_on : ((begin_of kind s).number ≡ 0) × Ready kind (stop kind s os)
    goes_on = (
      ap (λ x. x.number) (begin-is kind),
      (
        ap (λ e. e.message.begun) ran.session,
        ap (λ e. e.message.kind) ran.session,
        ap mode ran.session ∙ full-mode kind 0 s.duplex (input kind s os) ∙ keyed,
      ),
    )

    finish-taken : first (kind_number kind (stop kind s os)) (mode_number (mode (stop kind s os))) ≡ 0
    finish-taken = ap₂ first (ready-kind kind (stop kind s os) goes_on.1) (ap mode_number goes_on.1.2)

    -- the end is that of the blocks of what was taken
    abbrev end : Duplex
    end = end_of kind (message_blocks s.rule (input kind s os)) 0x80 s.duplex

    ended_is : ended (stop kind s os) ≡ end
    unfolding ended
    ended_is = ap ended ran.session ∙ (message-is kind s.rule s.duplex (input kind s os)).end

    past_is : past_tag (stop kind s os) ≡ record { duplex = squeeze_end end 16 0x40; rule = s.rule; message = s.message }
    unfolding past_tag
    past_is = λ i. record { duplex = squeeze_end (ended_is i) 16 0x40; rule = (ran.session i).rule; message = sym none i }

    output-is : output kind s os ≡ out_of kind (message_blocks s.rule (input kind s os)) 0x80 s.duplex
    output-is = ran.bytes ∙ (message-is kind s.rule s.duplex (input kind s os)).out

  -- ---- any cuts
  finish-seal-is : (os : List Offer) → finish_seal_of (stop Seal s os) ≡ finished (past_tag (stop Seal s os)) 0 (squeeze_out (ended (stop Seal s os)) 16 0x40) (finish_ups (stop Seal s os))
  unfolding finish_seal_of
  finish-seal-is os = no-refusal 0 (stop Seal s os) [] _ (finish-taken Seal os)

  finish-open-is :
      (os : List Offer) (t : Tag)
      → finish_open_of (stop Open s os) t
      ≡ finished (past_tag (stop Open s os)) (tag_number (same_bytes (squeeze_out (ended (stop Open s os)) 16 0x40) t.bytes)) no_tag (finish_ups (stop Open s os))
  unfolding finish_open_of
  finish-open-is os t = no-refusal 0 (stop Open s os) [] _ (finish-taken Open os)

  -- sealing, cut and allowed for in any way: joined output, tag and end session are the one-call form's for the bytes taken
  pub sealing :
      (os : List Offer)
      → Seals s (input Seal s os) (output Seal s os) (finish_seal_of (stop Seal s os)).tag (finish_seal_of (stop Seal s os)).session
  unfolding encrypt_out encrypt_end tag_out tag_end
  sealing os =
      rw (finish-seal-is os)
      (record { cipher = output-is Seal os; tag = ap (λ d. squeeze_out d 16 0x40) (ended_is Seal os); end = past_is Seal os })

  -- so, where the offers took all of m, it is the one-call form
  pub sealing-is-one-call :
      (os : List Offer) (m : List ℕ) → input Seal s os ≡ m
      → (output Seal s os ≡ (seal_in_place_detached_of s m).bytes)
      × ((finish_seal_of (stop Seal s os)).tag ≡ (seal_in_place_detached_of s m).tag)
      × ((finish_seal_of (stop Seal s os)).session ≡ (seal_in_place_detached_of s m).session)
      × ((finish_seal_of (stop Seal s os)).number ≡ 0)
  sealing-is-one-call os m e =
      let a = seals-agree (sealing os) (seals-in-place-detached s idles keyed (input Seal s os)) in
      rw (← e) (a.0, a.1, a.2, ap (λ x. x.number) (finish-seal-is os))

  -- opening, likewise: the text handed out is that of the bytes taken, and number and end session are the one-call form's
  pub opening :
      (os : List Offer) (t : Tag)
      → (output Open s os ≡ decrypt_out s (input Open s os))
      × ((finish_open_of (stop Open s os) t).number ≡ (open_in_place_detached_of s (input Open s os) t).number)
      × ((finish_open_of (stop Open s os) t).session ≡ (open_in_place_detached_of s (input Open s os) t).session)
  unfolding decrypt_out decrypt_end tag_out tag_end opened
  opening os t =
      let c = input Open s os in
      let v = same_bytes (tag_out (decrypt_end s c)) t.bytes in
      let x = open-in-place-detached-is s idles keyed c t in (
        output-is Open os,
        ap (λ x. x.number) (finish-open-is os t)
            ∙ ap (λ d. tag_number (same_bytes (squeeze_out d 16 0x40) t.bytes)) (ended_is Open os)
            ∙ sym (ap (λ x. x.number) x ∙ verdict-number v _ _ _ _),
        ap (λ x. x.session) (finish-open-is os t) ∙ past_is Open os ∙ sym (ap (λ x. x.session) x ∙ verdict-end v _ _ _ _),
      )

  -- so, where the offers took all of c, it is the one-call form, of which 4 zeroes the text that feeding has handed out
  pub opening-is-one-call :
      (os : List Offer) (t : Tag) (c : List ℕ) → input Open s os ≡ c
      → ((finish_open_of (stop Open s os) t).number ≡ (open_in_place_detached_of s c t).number)
      × ((finish_open_of (stop Open s os) t).session ≡ (open_in_place_detached_of s c t).session)
      × ((open_in_place_detached_of s c t).number ≡ 0 → output Open s os ≡ (open_in_place_detached_of s c t).bytes)
  unfolding opened
  opening-is-one-call os t c e =
      let o = opening os t in
      let x = open-in-place-detached-is s idles keyed (input Open s os) t in
      rw (← e) (
        o.1,
        o.2,
        λ z. o.0 ∙ sym (ap (λ y. y.bytes) x ∙ verdict-good (same_bytes (tag_out (decrypt_end s (input Open s os))) t.bytes) _ _ _ _ (sym (ap (λ y. y.number) x) ∙ z)),
      )

  -- so what was sealed with any cuts is opened with any others: the text, 0, and the same end session
  pub pair :
      (os os' : List Offer) → input Open s os' ≡ output Seal s os
      → (output Open s os' ≡ input Seal s os)
      × ((finish_open_of (stop Open s os') (record { bytes = (finish_seal_of (stop Seal s os)).tag })).number ≡ 0)
      × ((finish_open_of (stop Open s os') (record { bytes = (finish_seal_of (stop Seal s os)).tag })).session ≡ (finish_seal_of (stop Seal s os)).session)
  pair os os' e =
      let t : Tag = record { bytes = (finish_seal_of (stop Seal s os)).tag } in
      let x = opens-in-place-detached s idles keyed (sealing os) in
      let o = opening os' t in (
        o.0 ∙ ap (decrypt_out s) (e ∙ (sealing os).cipher) ∙ decrypt-encrypt s (input Seal s os),
        o.1 ∙ ap (λ c. (open_in_place_detached_of s c t).number) e ∙ ap (λ y. y.number) x,
        o.2 ∙ ap (λ c. (open_in_place_detached_of s c t).session) e ∙ ap (λ y. y.session) x,
      )

  -- ---- walking back lists it as that: the sealing of the plaintext
  pub walks :
      (kind : Kind) (os : List Offer) (t : Tag)
      → (finish_of kind (stop kind s os) t).session.duplex ≡ forward s.rule (seals (plaintext kind s os)) s.duplex
  walks Seal os t =
      let m = input Seal s os in
      ap (λ e. e.duplex) (sealing-is-one-call os m refl).2
      ∙ seal-in-place-detached-end s m (ap (λ x. x.number) (seal-in-place-detached-is s idles keyed m))
  walks Open os t =
      let c = input Open s os in
      ap (λ e. e.duplex) ((opening os t).2 ∙ ap (λ x. x.session) (open-in-place-detached-is s idles keyed c t))
      ∙ open-end s t.bytes c _ _
      ∙ ap (λ m. forward s.rule (seals m) s.duplex) (sym (opening os t).0)

  -- ---- what it costs
  -- so far: one Up step for each block that the bytes taken have begun
  pub spends-so-far : (kind : Kind) (os : List Offer) → spent kind s os ≡ ups (block_steps 0x80 (cuts 24 (input kind s os)))
  spends-so-far kind os = (ran kind os).spent ∙ full-ups kind s.duplex (input kind s os) ∙ sym (only-ups 0x80 (cuts 24 (input kind s os)))

  finish-ups : (kind : Kind) (os : List Offer) (t : Tag) → (finish_of kind (stop kind s os) t).spent ≡ finish_ups (stop kind s os)
  finish-ups Seal os t = ap (λ x. x.spent) (finish-seal-is os)
  finish-ups Open os t = ap (λ x. x.spent) (finish-open-is os t)

  same_length : (kind : Kind) (os : List Offer) → length (input kind s os) ≡ length (plaintext kind s os)
  unfolding decrypt_out
  same_length Seal os = refl
  same_length Open os = sym (ap length (output-is Open os) ∙ decrypt-length s (input Open s os))

  module _ (kind : Kind) (os : List Offer) (t : Tag) where
    stop-ups : finish_ups (stop kind s os) ≡ end_ups s.rule (full kind 0 s.duplex (input kind s os)).place + 1
    unfolding finish_ups
    stop-ups = ap (λ a. end_ups a.rule a.message.place + 1) (ran kind os).session

    -- all feeds and the finish together make the Up steps of the one-call form
    pub spends :
        spent kind s os + (finish_of kind (stop kind s os) t).spent ≡ ups (steps s.rule (mode s) s.duplex.phase (seals (plaintext kind s os)))
    spends =
        let n = length (message_blocks s.rule (input kind s os)) in
        let e : spent kind s os + (finish_of kind (stop kind s os) t).spent ≡ n + 1 =
        omega (arith, (message-is kind s.rule s.duplex (input kind s os)).ups, (ran kind os).spent, stop-ups, finish-ups kind os t) in
        e
        ∙ ap (λ k. k + 1) (same_count s.rule (input kind s os) (plaintext kind s os) (same_length kind os))
        ∙ sym (seal-ups s.rule (mode s) s.duplex.phase (plaintext kind s os) keyed)

    -- finish spends one, but two under the specification's rule where no bytes were fed
    pub finish-spends-one : (s.rule ≡ Crate) ⊎ (0 < length (input kind s os)) → (finish_of kind (stop kind s os) t).spent ≡ 1
    finish-spends-one h = finish-ups kind os t ∙ stop-ups ∙ ap (λ n. n + 1) (end-ups-none kind s.rule s.duplex (input kind s os) h)

    pub finish-spends-two : s.rule ≡ Specification → input kind s os ≡ [] → (finish_of kind (stop kind s os) t).spent ≡ 2
    unfolding full end_ups
    finish-spends-two r e =
        finish-ups kind os t ∙ stop-ups ∙ ap₂ (λ a m. end_ups a (full kind 0 s.duplex m).place + 1) r e

-- ---- the allowance
module _ (kind : Kind) (s : Session) (o x : List ℕ) (a : ℕ) (ready : Ready kind s) (room : length x ≤ length o) where
  feed-is : feed_of kind s o x a ≡ accepted kind s.rule (feed kind a s.message.place s.duplex x) o
  unfolding feed_of room_number
  feed-is =
      no-refusal _ s o _
      (ap₂ first (ready-kind kind s ready) (ap₂ (λ m t. first (mode_number m) (when t 3)) ready.2 (le-ltb (length o) (length x) room)))

  -- a feed spends no more than its allowance, and stops with bytes left only where all of it is spent
  pub within-allowance : (feed_of kind s o x a).spent ≤ a
  within-allowance = rw feed-is (feed-spends kind x a s.message.place s.duplex)

  pub stops-when-spent : (feed_of kind s o x a).taken < length x → (feed_of kind s o x a).spent ≡ a
  stops-when-spent = rw feed-is (feed-stops kind x a s.message.place s.duplex)

  -- it takes all that is offered, or 24 bytes for each permutation of its allowance
  pub takes : min (length x) (24 * a) ≤ (feed_of kind s o x a).taken
  takes = rw feed-is (feed-takes kind x a s.message.place s.duplex)

  -- and leaves the message begun
  pub stays-ready : Ready kind (feed_of kind s o x a).session
  stays-ready =
      let f = feed-full kind a s.message.place s.duplex x in
      rw feed-is (refl, refl, ap (λ g. g.duplex.mode) f ∙ full-mode kind s.message.place s.duplex _ ∙ ready.2)

-- ---- the whole rest offered each time, to one output after the other: what is then left of x
abbrev pub rest_after : Kind → ℕ → List (List ℕ) → Session → List ℕ → List ℕ
rest_after kind a [] s x = x
rest_after kind a (o ∷ outs) s x = rest_after kind a outs (feed_of kind s o x a).session (drop (feed_of kind s o x a).taken x)

-- each output has room for n bytes
abbrev pub Rooms : ℕ → List (List ℕ) → Type 0
Rooms n [] = Unit {0}
Rooms n (o ∷ outs) = (n ≤ length o) × Rooms n outs

rooms-less : (n k : ℕ) (outs : List (List ℕ)) → k ≤ n → Rooms n outs → Rooms k outs
rooms-less n k [] h r = tt
rooms-less n k (o ∷ outs) h r = (omega (arith, r.0), rooms-less n k outs h r.1)

none_left :
    (kind : Kind) (a : ℕ) (outs : List (List ℕ)) (s : Session) (x : List ℕ) → Ready kind s → Rooms (length x) outs
    → length x ≤ length outs * (24 * a) → rest_after kind a outs s x ≡ []
none_left kind a [] s [] ready r h = refl
none_left kind a [] s (b ∷ x) ready r h = absurd (omega (arith, zero-mul (24 * a)))
none_left kind a (o ∷ outs) s x ready r h =
    let t = (feed_of kind s o x a).taken in
    let l : length (drop t x) ≡ length x - t = length-drop t x in
    none_left kind a outs (feed_of kind s o x a).session (drop t x) (stays-ready kind s o x a ready r.0)
    (rooms-less (length x) (length (drop t x)) outs (omega arith) r.1)
    (omega (arith, takes kind s o x a ready r.0, suc-mul (length outs) (24 * a)))

-- n bytes are taken within n divided by 24a, rounded up, feeds
pub prompt :
    (kind : Kind) (a : ℕ) (outs : List (List ℕ)) (s : Session) (x : List ℕ) → Ready kind s → Rooms (length x) outs → 1 ≤ a
    → (length x + (24 * a - 1)) / (24 * a) ≤ length outs → rest_after kind a outs s x ≡ []
prompt kind a outs s x ready r g h =
    let n = length x + (24 * a - 1) in
    let d : n / (24 * a) * (24 * a) + n % (24 * a) ≡ n = div-add-mod' n (24 * a) in
    let m : n % (24 * a) < 24 * a = mod-lt n (omega arith) in
    let k : n / (24 * a) * (24 * a) ≤ length outs * (24 * a) = mul-le-mul_right (24 * a) h in
    none_left kind a outs s x ready r (omega arith)

-- ---- a finish, right or wrong in its tag, ends the message
begun-other : (b : Bool) (kind begun : Kind) → begun_number b kind begun ≢ 4
begun-other true kind begun = when-other (other_kind kind begun) 7 (λ e. omega arith)
begun-other false kind begun = λ e. omega arith

kind-other : (kind : Kind) (s : Session) → first (kind_number kind s) (mode_number (mode s)) ≢ 4
unfolding kind_number
kind-other kind s = first-other _ _ (begun-other s.message.begun kind s.message.kind) (mode-other (mode s))

over :
    (n : ℕ) (s : Session) (x : Portion) → n ≢ 4 → x.session.message ≡ idle → ((portioned n 0 s [] x).number ≡ 0) ⊎ ((portioned n 0 s [] x).number ≡ 4)
    → (portioned n 0 s [] x).session.message ≡ idle
over zero s x h e c = e
over (suc n) s x h e (inl c) = absurd (omega arith)
over (suc n) s x h e (inr c) = absurd (h c)

pub ends :
    (kind : Kind) (s : Session) (t : Tag) → ((finish_of kind s t).number ≡ 0) ⊎ ((finish_of kind s t).number ≡ 4) → (finish_of kind s t).session.message ≡ idle
unfolding finish_seal_of finish_open_of past_tag
ends Seal s t = over _ s _ (kind-other Seal s) refl
ends Open s t = over _ s _ (kind-other Open s) refl

-- ---- any place above 24, which no call makes, counts as 24
abbrev pub at24 : Session → Session
at24 s = record {
  duplex = s.duplex;
  rule = s.rule;
  message = record { begun = s.message.begun; kind = s.message.kind; place = min s.message.place 24 };
}

abbrev pub portion24 : Portion → Portion
portion24 x = record {
  session = at24 x.session;
  number = x.number;
  missing = x.missing;
  tag = x.tag;
  bytes = x.bytes;
  taken = x.taken;
  spent = x.spent;
}

portioned-24 : (n k : ℕ) (s : Session) (o : List ℕ) (x : Portion) → portioned n k (at24 s) o (portion24 x) ≡ portion24 (portioned n k s o x)
portioned-24 zero k s o x = refl
portioned-24 (suc n) k s o x = refl

pub feed-24 : (kind : Kind) (s : Session) (o x : List ℕ) (a : ℕ) → feed_of kind (at24 s) o x a ≡ portion24 (feed_of kind s o x a)
unfolding feed_of kind_number
feed-24 kind s o x a =
    let n = feed_number kind s.rule s (record { out = o; piece = x; allowance = a }) in
    let k = missing n (length o) (length x) in
    let f = feed kind a s.message.place s.duplex x in
    ap (λ g. portioned n k (at24 s) o (accepted kind s.rule g o)) (sym (feed-cap kind x a s.message.place s.duplex))
    ∙ portioned-24 n k s o (accepted kind s.rule f o)

ended-24 : (s : Session) → ended (at24 s) ≡ ended s
unfolding ended
ended-24 s = (end-cap s.rule s.message.place s.duplex).0

past-24 : (s : Session) → past_tag (at24 s) ≡ past_tag s
unfolding past_tag
past-24 s = ap (λ d. record { duplex = squeeze_end d 16 0x40; rule = s.rule; message = idle }) (ended-24 s)

ups-24 : (s : Session) → finish_ups (at24 s) ≡ finish_ups s
unfolding finish_ups
ups-24 s = ap (λ n. n + 1) (end-cap s.rule s.message.place s.duplex).1

finished-24 :
    (n : ℕ) (s : Session) (v : List ℕ → ℕ) (t : List ℕ → List ℕ)
    → portioned n 0 (at24 s) [] (finished (past_tag (at24 s)) (v (squeeze_out (ended (at24 s)) 16 0x40)) (t (squeeze_out (ended (at24 s)) 16 0x40)) (finish_ups (at24 s)))
    ≡ portion24 (portioned n 0 s [] (finished (past_tag s) (v (squeeze_out (ended s) 16 0x40)) (t (squeeze_out (ended s) 16 0x40)) (finish_ups s)))
unfolding past_tag
finished-24 zero s v t =
    λ i. finished (past-24 s i) (v (squeeze_out (ended-24 s i) 16 0x40)) (t (squeeze_out (ended-24 s i) 16 0x40)) (ups-24 s i)
finished-24 (suc n) s v t = refl

pub finish-24 : (kind : Kind) (s : Session) (t : Tag) → finish_of kind (at24 s) t ≡ portion24 (finish_of kind s t)
unfolding finish_seal_of finish_open_of kind_number
finish-24 Seal s t = finished-24 (first (kind_number Seal s) (mode_number (mode s))) s (λ _. 0) (λ x. x)
finish-24 Open s t = finished-24 (first (kind_number Open s) (mode_number (mode s))) s (λ x. tag_number (same_bytes x t.bytes)) (λ _. no_tag)
