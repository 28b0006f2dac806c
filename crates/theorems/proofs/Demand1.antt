-- Demand 1: the numbers, each given exactly when the table says, and that a refused call leaves everything as it was.
use mathlib.Core.Path.{◌≡◌, refl, sym, ap, ◌∙◌}
use mathlib.Core.Bool.{Bool, true, false, not}
use mathlib.Core.List.{List, [], ◌∷◌, ◌++◌}
use mathlib.Core.Logic.{◌↔◌, ◌≢◌, ◌⊎◌, inl, inr, ⊎_elim}
use Prim.Native.Nat.{ℕ, zero, suc, ◌+◌, ◌-◌, ◌<◌}
use native.Mathlib.Omega.{arith}
use lib.Dec.{ltb, eqb}
use lib.ListN.{length}
use borrow.Author.Tests.{ltb-true, ltb-false, eq-eqb, ne_eqb}
use Rattle.xoodyak.specs.declared.cyclist.Mode.{Mode}
use Rattle.xoodyak.specs.declared.cyclist.Mode.TheVariants.{Hash, Keyed}
use Rattle.xoodyak.specs.declared.tag.Tag.{Tag}
use Rattle.xoodyak.specs.declared.Rule.{Rule}
use Rattle.xoodyak.specs.declared.feed.Kind.{Kind}
use Rattle.xoodyak.specs.declared.feed.Kind.TheVariants.{Seal, Open}
use Rattle.xoodyak.specs.declared.Session.{Session}
use Rattle.xoodyak.specs.Cyclist.{absorb_rate, given, squeeze_out}
use Rattle.xoodyak.specs.Numbers.{when, first, unfinished_number, mode_number, keyed_number, key_number, room_number, missing, tail_number, rate_number, begun_number, kind_number}
use Rattle.xoodyak.specs.Calls.{Outcome, refused, settle, session, mode, both, same_bytes, verdict, opened, open_ups, tag_end, tag_out, decrypt_end, verify_of, absorb_of, absorb_more_of, squeeze_of, squeeze_more_of, key_of, new_of, ratchet_of, encrypt_of, decrypt_of, encrypt_in_place_of, decrypt_in_place_of, seal_detached_of, seal_of, seal_in_place_detached_of, seal_in_place_of, open_detached_of, open_of, open_in_place_detached_of, open_in_place_of}
use Rattle.xoodyak.specs.Feed.{Portion, portioned, begin_of, feed_of, ended, finish_seal_of, finish_open_of}
use Rattle.theorems.proofs.Crypt.{all_but16, last16, first-zero, both_true, Decides, tag-decides, opened-decides}

-- ---- the table
-- a number, and the condition under which it is given
abbrev pub Row : Type 1
Row = ℕ × Type 0

-- `before` says that no earlier row's condition holds
abbrev pub From : Type 0 → ℕ → List Row → Type 0
From before n [] = (n ≡ 0) ↔ before
From before n (r ∷ rows) = ((n ≡ r.0) ↔ (before × r.1)) × From (before × (¬ r.1)) n rows

-- n is the number of a row exactly when its condition holds and no earlier one's does, and 0 exactly when none does
abbrev pub Exactly : ℕ → List Row → Type 0
Exactly n rows = From (Unit {0}) n rows

-- with 3 the answer counts the bytes that the output lacks, and any other counts none
abbrev pub Counts : ℕ → ℕ → ℕ → Type 0
Counts n count lacks = (n ≡ 3 → count ≡ lacks) × (n ≢ 3 → count ≡ 0)

-- a call with outcome x on session s and buffer o, which lacks so many bytes: its number is by the rows, its count exact; after all but 0
-- and 4 session and buffer hold what they held, any tag is zeros and no permutation is spent
pub record Answers (x : Outcome) (s : Session) (o : List ℕ) (lacks : ℕ) (rows : List Row) : Type 0 where
  pub number : Exactly x.number rows
  pub count : Counts x.number x.missing lacks
  pub refusal : x.number ≢ 0 → x.number ≢ 4 → x ≡ refused s x.number x.missing o

-- a session that isn't in Hash is Keyed
pub keyed-iff : (m : Mode) → (m ≢ Hash) ↔ (m ≡ Keyed)
keyed-iff Hash = (λ n. absurd (n refl), λ e h. let z : ◌≡◌ {A = ℕ} 0 1 = cc in omega arith)
keyed-iff Keyed = (λ n. refl, λ e h. let z : ◌≡◌ {A = ℕ} 0 1 = cc in omega arith)

-- ---- how a table is proved
-- n is the number of the first row whose condition holds, and 0 where none does
data First (n : ℕ) : List Row → Type 1 where
  here : {r : Row} {rows : List Row} → r.1 → n ≡ r.0 → First n (r ∷ rows)
  later : {r : Row} {rows : List Row} → (¬ r.1) → First n rows → First n (r ∷ rows)
  none : n ≡ 0 → First n []

-- k is neither 0 nor a number of the rows
abbrev apart : ℕ → List Row → Bool
apart k [] = not (eqb k 0)
apart k (r ∷ rows) = both (not (eqb k r.0)) (apart k rows)

-- the numbers of the rows differ, and none is 0
abbrev distinct : List Row → Bool
distinct [] = true
distinct (r ∷ rows) = both (apart r.0 rows) (distinct rows)

not-true : (b : Bool) → not b ≡ true → b ≡ true → ⊥
not-true b p q = let z : ◌≡◌ {A = ℕ} 0 1 = cc (ap not q) in omega arith

differ : (a b : ℕ) → not (eqb a b) ≡ true → a ≢ b
differ a b h e = not-true (eqb a b) h (eq-eqb a b e)

module _ (k : ℕ) (r : Row) (rows : List Row) (h : apart k (r ∷ rows) ≡ true) where
  apart-head : k ≢ r.0
  apart-head = differ k r.0 (both_true (not (eqb k r.0)) (apart k rows) h).0

  apart-tail : apart k rows ≡ true
  apart-tail = (both_true (not (eqb k r.0)) (apart k rows) h).1

module _ (r : Row) (rows : List Row) (h : distinct (r ∷ rows) ≡ true) where
  distinct_head : apart r.0 rows ≡ true
  distinct_head = (both_true (apart r.0 rows) (distinct rows) h).0

  distinct_tail : distinct rows ≡ true
  distinct_tail = (both_true (apart r.0 rows) (distinct rows) h).1

apart-zero : (k : ℕ) (rows : List Row) → apart k rows ≡ true → k ≢ 0
apart-zero k [] h = differ k 0 h
apart-zero k (r ∷ rows) h = apart-zero k rows (apart-tail k r rows h)

apart-first : {n : ℕ} {rows : List Row} (k : ℕ) → First n rows → apart k rows ≡ true → n ≢ k
apart-first k (none f) h e = differ k 0 h (sym e ∙ f)
apart-first k (here {r = r} {rows = rows} p f) h e = apart-head k r rows h (sym e ∙ f)
apart-first k (later {r = r} {rows = rows} p f) h e = apart-first k f (apart-tail k r rows h) e

-- past the row that gave the number
past : (before : Type 0) (k n : ℕ) (rows : List Row) → (¬ before) → apart k rows ≡ true → n ≡ k → From before n rows
past before k n [] f h e = (λ z. absurd (differ k 0 h (sym e ∙ z)), λ b. absurd (f b))
past before k n (r ∷ rows) f h e = (
  (λ z. absurd (apart-head k r rows h (sym e ∙ z)), λ b. absurd (f b.0)),
  past (before × (¬ r.1)) k n rows (λ b. f b.0) (apart-tail k r rows h) e,
)

table-from : {n : ℕ} {rows : List Row} (before : Type 0) → before → First n rows → distinct rows ≡ true → From before n rows
table-from before b (none f) h = (λ _. b, λ _. f)
table-from {n} before b (here {r = r} {rows = rows} p f) h = (
  (λ _. (b, p), λ _. f),
  past (before × (¬ r.1)) r.0 n rows (λ y. y.1 p) (distinct_head r rows h) f,
)
table-from before b (later {r = r} {rows = rows} p f) h = (
  (λ e. absurd (apart-first r.0 f (distinct_head r rows h) e), λ y. absurd (p y.1)),
  table-from (before × (¬ r.1)) (b, p) f (distinct_tail r rows h),
)

table : {n : ℕ} {rows : List Row} → First n rows → distinct rows ≡ true → Exactly n rows
table f h = table-from (Unit {0}) tt f h

first_some : (a b : ℕ) → a ≢ 0 → first a b ≡ a
first_some zero b h = absurd (h refl)
first_some (suc a) b h = refl

-- the first refusal of two: the rows of the one, and then those of the other
then : {a b : ℕ} {rows more : List Row} → First a rows → First b more → distinct rows ≡ true → First (first a b) (rows ++ more)
then (none f) g h = rw f g
then {a} {b} (here {r = r} {rows = rows} p f) g h =
    here p (first_some a b (λ z. apart-zero r.0 rows (distinct_head r rows h) (sym f ∙ z)) ∙ f)
then (later {r = r} {rows = rows} p f) g h = later p (then f g (distinct_tail r rows h))

settle-number : (n k : ℕ) (s : Session) (o : List ℕ) (x : Outcome) → (settle n k s o x).number ≡ first n x.number
settle-number zero k s o x = refl
settle-number (suc n) k s o x = refl

-- ---- each number's condition
given-row : {n k : ℕ} {P : Type 0} → P → n ≡ k → First n ((k, P) ∷ [])
given-row p e = here p e

no_row : {n k : ℕ} {P : Type 0} → (¬ P) → n ≡ 0 → First n ((k, P) ∷ [])
no_row p e = later p (none e)

when-row : (b : Bool) (k : ℕ) (P : Type 0) → (b ≡ true → P) → (b ≡ false → ¬ P) → First (when b k) ((k, P) ∷ [])
when-row true k P p q = given-row (p refl) refl
when-row false k P p q = no_row (q refl) refl

less-row : (a b k : ℕ) → First (when (ltb a b) k) ((k, a < b) ∷ [])
less-row a b k = when-row (ltb a b) k (a < b) (ltb-true a b) (λ e h. omega (arith, ltb-false a b e))

mode-row : (m : Mode) → First (mode_number m) ((1, m ≡ Hash) ∷ [])
mode-row Hash = given-row refl refl
mode-row Keyed = no_row ((keyed-iff Keyed).1 refl) refl

-- a message is begun and not finished
abbrev pub Unfinished : Session → Type 0
Unfinished s = s.message.begun ≡ true

pub finished : (s : Session) → s.message.begun ≡ false → ¬ Unfinished s
finished s e h = let z : ◌≡◌ {A = ℕ} 0 1 = cc in omega arith

unfinished-row : (s : Session) → First (unfinished_number s) ((7, Unfinished s) ∷ [])
unfolding unfinished_number
unfinished-row s = when-row s.message.begun 7 _ (λ e. e) (finished s)

keyed-rows : (s : Session) → First (keyed_number s) ((7, Unfinished s) ∷ (1, mode s ≡ Hash) ∷ [])
unfolding keyed_number
keyed-rows s = then (unfinished-row s) (mode-row (mode s)) refl

-- a message of this kind is begun
abbrev pub Begun : Kind → Session → Type 0
Begun kind s = (s.message.begun ≡ true) × (s.message.kind ≡ kind)

begun-row : (b : Bool) (kind begun : Kind) → First (begun_number b kind begun) ((7, ¬ ((b ≡ true) × (begun ≡ kind))) ∷ [])
begun-row true Seal Seal = no_row (λ n. n (refl, refl)) refl
begun-row true Open Open = no_row (λ n. n (refl, refl)) refl
begun-row true Seal Open = given-row (λ e. let z : ◌≡◌ {A = ℕ} 0 1 = cc e.1 in omega arith) refl
begun-row true Open Seal = given-row (λ e. let z : ◌≡◌ {A = ℕ} 0 1 = cc e.1 in omega arith) refl
begun-row false kind begun = given-row (λ e. let z : ◌≡◌ {A = ℕ} 0 1 = cc e.0 in omega arith) refl

kind_row : (kind : Kind) (s : Session) → First (kind_number kind s) ((7, ¬ (Begun kind s)) ∷ [])
unfolding kind_number
kind_row kind s = begun-row s.message.begun kind s.message.kind

-- the key alone exceeds 43; the key fits, but key and key id together exceed 43; only the nonce breaks it
abbrev pub key_rows : ℕ → ℕ → ℕ → List Row
key_rows key id nonce = (2, 43 < key) ∷ (8, 43 < key + id) ∷ (9, 44 < key + 1 + id + nonce) ∷ []

key-rows : (key id nonce : ℕ) → First (key_number key id nonce) (key_rows key id nonce)
unfolding key_number
key-rows key id nonce = then (less-row 43 key 2) (then (less-row 43 (key + id) 8) (less-row 44 (key + 1 + id + nonce) 9) refl) refl

room_row : (room result : ℕ) → First (room_number room result) ((3, room < result) ∷ [])
unfolding room_number
room_row room result = less-row room result 3

tail-row : (size : ℕ) → First (tail_number size) ((10, size < 16) ∷ [])
unfolding tail_number
tail-row size = less-row size 16 10

rate-row : (m : Mode) (r : ℕ) → First (rate_number m r) ((5, (r ≡ 0) ⊎ (absorb_rate m < r)) ∷ [])
unfolding rate_number
rate-row m zero = given-row (inl refl) refl
rate-row m (suc r) =
    when-row (ltb (absorb_rate m) (suc r)) 5 _ (λ e. inr (ltb-true (absorb_rate m) (suc r) e))
    (λ e. ⊎_elim (λ z. omega arith) (λ h. omega (arith, ltb-false (absorb_rate m) (suc r) e)))

decides-row : (n : ℕ) (P : Type 0) → Decides n P → First n ((4, ¬ P) ∷ [])
decides-row n P (inl e, d, f) = no_row (λ g. g (d.0 e)) e
decides-row n P (inr e, d, f) = given-row (f.0 e) e

settle-refusal :
    (n k : ℕ) (s : Session) (o : List ℕ) (x : Outcome) → (x.number ≡ 0) ⊎ (x.number ≡ 4)
    → (settle n k s o x).number ≢ 0 → (settle n k s o x).number ≢ 4 → settle n k s o x ≡ refused s (settle n k s o x).number (settle n k s o x).missing o
settle-refusal zero k s o x (inl e) p q = absurd (p e)
settle-refusal zero k s o x (inr e) p q = absurd (q e)
settle-refusal (suc n) k s o x e p q = refl

-- ---- the count
-- a call that writes into no output
no-count : (n : ℕ) → Counts n 0 0
no-count n = (λ _. refl, λ _. refl)

room-count : (n room result : ℕ) → Counts n (missing n room result) (result - room)
unfolding missing
room-count n room result = (λ e. rw e, λ h. rw (ne_eqb n 3 h))

settle-count :
    (n k lacks : ℕ) (s : Session) (o : List ℕ) (x : Outcome) → Counts n k lacks → (x.number ≡ 0) ⊎ (x.number ≡ 4) → x.missing ≡ 0
    → Counts (settle n k s o x).number (settle n k s o x).missing lacks
settle-count zero k lacks s o x c (inl e) z = (λ h. absurd (omega (arith, sym e ∙ h)), λ _. z)
settle-count zero k lacks s o x c (inr e) z = (λ h. absurd (omega (arith, sym e ∙ h)), λ _. z)
settle-count (suc n) k lacks s o x c e z = c

opened-count : (s : Session) (t c good bad : List ℕ) → (opened s t c good bad).missing ≡ 0
unfolding opened
opened-count s t c good bad = go (same_bytes (tag_out (decrypt_end s c)) t)
  where
    go : (b : Bool) → (verdict b (tag_end (decrypt_end s c)) good bad (open_ups s c)).missing ≡ 0
    go true = refl
    go false = refl

-- a call that is refused by the rows alone
plain :
    (n k : ℕ) {lacks : ℕ} (s : Session) (o : List ℕ) (x : Outcome) {rows : List Row} → First n rows → Counts n k lacks → x.number ≡ 0
    → x.missing ≡ 0 → distinct rows ≡ true
    → Answers (settle n k s o x) s o lacks rows
plain n k s o x f c e z h = record {
  number = rw (settle-number n k s o x, e, first-zero n) (table f h);
  count = settle-count n k _ s o x c (inl e) z;
  refusal = settle-refusal n k s o x (inl e);
}

-- an opening call: the tag is looked at last
opening :
    (n k : ℕ) {lacks : ℕ} (s : Session) (o t c good bad : List ℕ) {rows : List Row} → First n rows → Counts n k lacks → distinct rows ≡ true
    → distinct (rows ++ ((4, tag_out (decrypt_end s c) ≢ t) ∷ [])) ≡ true
    → Answers (settle n k s o (opened s t c good bad)) s o lacks (rows ++ ((4, tag_out (decrypt_end s c) ≢ t) ∷ []))
opening n k s o t c good bad f counts h g = record {
  number = rw (settle-number n k s o (opened s t c good bad)) (table (then f (decides-row _ _ (opened-decides s t c good bad)) h) g);
  count = settle-count n k _ s o (opened s t c good bad) counts (opened-decides s t c good bad).0 (opened-count s t c good bad);
  refusal = settle-refusal n k s o (opened s t c good bad) (opened-decides s t c good bad).0;
}

-- ---- the calls on a message handed over bit by bit
-- what their outcome has of any other's
abbrev pub outcome_of : Portion → Outcome
outcome_of x = record { session = x.session; number = x.number; missing = x.missing; tag = x.tag; bytes = x.bytes; spent = x.spent }

-- and after all but 0 and 4 nothing was taken or spent
pub record Portions (x : Portion) (s : Session) (o : List ℕ) (lacks : ℕ) (rows : List Row) : Type 0 where
  pub answers : Answers (outcome_of x) s o lacks rows
  pub idle : x.number ≢ 0 → x.number ≢ 4 → (x.taken ≡ 0) × (x.spent ≡ 0)

portioned-outcome : (n k : ℕ) (s : Session) (o : List ℕ) (x : Portion) → outcome_of (portioned n k s o x) ≡ settle n k s o (outcome_of x)
portioned-outcome zero k s o x = refl
portioned-outcome (suc n) k s o x = refl

portioned-idle :
    (n k : ℕ) (s : Session) (o : List ℕ) (x : Portion) → (x.number ≡ 0) ⊎ (x.number ≡ 4)
    → (portioned n k s o x).number ≢ 0 → (portioned n k s o x).number ≢ 4 → ((portioned n k s o x).taken ≡ 0) × ((portioned n k s o x).spent ≡ 0)
portioned-idle zero k s o x (inl e) p q = absurd (p e)
portioned-idle zero k s o x (inr e) p q = absurd (q e)
portioned-idle (suc n) k s o x e p q = (refl, refl)

portion :
    (n k : ℕ) {lacks : ℕ} (s : Session) (o : List ℕ) (x : Portion) {rows more : List Row} → First n rows → First x.number more
    → Counts n k lacks → (x.number ≡ 0) ⊎ (x.number ≡ 4) → x.missing ≡ 0 → distinct rows ≡ true → distinct (rows ++ more) ≡ true
    → Portions (portioned n k s o x) s o lacks (rows ++ more)
portion n k s o x f f' c e z h g = record {
  answers = rw (portioned-outcome n k s o x) (record {
    number = rw (settle-number n k s o (outcome_of x)) (table (then f f' h) g);
    count = settle-count n k _ s o (outcome_of x) c e z;
    refusal = settle-refusal n k s o (outcome_of x) e;
  });
  idle = portioned-idle n k s o x e;
}

-- ---- the table of each call
-- `absorb`: 7 on an unfinished message
pub absorb-answers : (s : Session) (x : List ℕ) → Answers (absorb_of s x) s [] 0 ((7, Unfinished s) ∷ [])
unfolding absorb_of
absorb-answers s x = plain _ _ s [] _ (unfinished-row s) (no-count _) refl refl refl

-- `squeeze` and `squeeze_key`: the same
pub squeeze-answers : (cu : ℕ) (s : Session) (o : List ℕ) → Answers (squeeze_of cu s o) s o 0 ((7, Unfinished s) ∷ [])
unfolding squeeze_of
squeeze-answers cu s o = plain _ _ s o _ (unfinished-row s) (no-count _) refl refl refl

-- `squeeze_more`: the same
pub squeeze-more-answers : (s : Session) (o : List ℕ) → Answers (squeeze_more_of s o) s o 0 ((7, Unfinished s) ∷ [])
unfolding squeeze_more_of
squeeze-more-answers s o = plain _ _ s o _ (unfinished-row s) (no-count _) refl refl refl

-- `absorb_more`: 7 on an unfinished message; 5 where the rate is 0 or above the session's absorb rate, even on empty input
pub absorb-more-answers :
    (s : Session) (x : List ℕ) (r : ℕ)
    → Answers (absorb_more_of s x r) s [] 0 ((7, Unfinished s) ∷ (5, (r ≡ 0) ⊎ (absorb_rate (mode s) < r)) ∷ [])
unfolding absorb_more_of
absorb-more-answers s x r = plain _ _ s [] _ (then (unfinished-row s) (rate-row (mode s) r) refl) (no-count _) refl refl refl

module _ (key : List ℕ) (has_id : Bool) (id : List ℕ) (has_nonce : Bool) (nonce : List ℕ) (has_counter : Bool) (counter : List ℕ) where
  -- `absorb_key_and_nonce`: 7 on an unfinished message; 1 in Hash; 2, 8 or 9 by the lengths of key, key id and nonce
  pub key-answers :
      (s : Session)
      → Answers (key_of s key has_id id has_nonce nonce has_counter counter) s [] 0
      ((7, Unfinished s) ∷ (1, mode s ≡ Hash) ∷ key_rows (length key) (length (given has_id id)) (length (given has_nonce nonce)))
  unfolding key_of
  key-answers s = plain _ _ s [] _ (then (keyed-rows s) (key-rows (length key) _ _) refl) (no-count _) refl refl refl

  -- `new`: 2, 8 or 9 likewise; refused, it hands back a fresh Hash session with that rule
  pub new-answers :
      (rule : Rule)
      → Answers (new_of rule key has_nonce nonce has_id id has_counter counter) (session rule Hash) [] 0
      (key_rows (length key) (length (given has_id id)) (length (given has_nonce nonce)))
  unfolding new_of
  new-answers rule = plain _ _ (session rule Hash) [] _ (key-rows (length key) _ _) (no-count _) refl refl refl

module _ (s : Session) where
  -- `ratchet`: 7 on an unfinished message; 1 in Hash
  pub ratchet-answers : Answers (ratchet_of s) s [] 0 ((7, Unfinished s) ∷ (1, mode s ≡ Hash) ∷ [])
  unfolding ratchet_of
  ratchet-answers = plain _ _ s [] _ (keyed-rows s) (no-count _) refl refl refl

  -- `encrypt`: 7 on an unfinished message; 1 in Hash; 3 where the output is shorter than the message
  pub encrypt-answers : (o m : List ℕ) → Answers (encrypt_of s o m) s o (length m - length o) ((7, Unfinished s) ∷ (1, mode s ≡ Hash) ∷ (3, length o < length m) ∷ [])
  unfolding encrypt_of
  encrypt-answers o m = plain _ _ s o _ (then (keyed-rows s) (room_row (length o) (length m)) refl) (room-count _ (length o) (length m)) refl refl refl

  -- `decrypt`: the same
  pub decrypt-answers : (o c : List ℕ) → Answers (decrypt_of s o c) s o (length c - length o) ((7, Unfinished s) ∷ (1, mode s ≡ Hash) ∷ (3, length o < length c) ∷ [])
  unfolding decrypt_of
  decrypt-answers o c = plain _ _ s o _ (then (keyed-rows s) (room_row (length o) (length c)) refl) (room-count _ (length o) (length c)) refl refl refl

  -- `encrypt_in_place`: 7 on an unfinished message; 1 in Hash
  pub encrypt-in-place-answers : (b : List ℕ) → Answers (encrypt_in_place_of s b) s b 0 ((7, Unfinished s) ∷ (1, mode s ≡ Hash) ∷ [])
  unfolding encrypt_in_place_of
  encrypt-in-place-answers b = plain _ _ s b _ (keyed-rows s) (no-count _) refl refl refl

  -- `decrypt_in_place`: the same
  pub decrypt-in-place-answers : (b : List ℕ) → Answers (decrypt_in_place_of s b) s b 0 ((7, Unfinished s) ∷ (1, mode s ≡ Hash) ∷ [])
  unfolding decrypt_in_place_of
  decrypt-in-place-answers b = plain _ _ s b _ (keyed-rows s) (no-count _) refl refl refl

  -- `aead_encrypt_detached`: 7 on an unfinished message; 1 in Hash; 3 where the output is shorter than the message
  pub seal-detached-answers : (o m : List ℕ) → Answers (seal_detached_of s o m) s o (length m - length o) ((7, Unfinished s) ∷ (1, mode s ≡ Hash) ∷ (3, length o < length m) ∷ [])
  unfolding seal_detached_of
  seal-detached-answers o m = plain _ _ s o _ (then (keyed-rows s) (room_row (length o) (length m)) refl) (room-count _ (length o) (length m)) refl refl refl

  -- `aead_encrypt`: 7 on an unfinished message; 1 in Hash; 3 where the output is shorter than message and tag
  pub seal-answers : (o m : List ℕ) → Answers (seal_of s o m) s o (length m + 16 - length o) ((7, Unfinished s) ∷ (1, mode s ≡ Hash) ∷ (3, length o < length m + 16) ∷ [])
  unfolding seal_of
  seal-answers o m = plain _ _ s o _ (then (keyed-rows s) (room_row (length o) (length m + 16)) refl) (room-count _ (length o) (length m + 16)) refl refl refl

  -- `aead_encrypt_in_place_detached`: 7 on an unfinished message; 1 in Hash
  pub seal-in-place-detached-answers : (b : List ℕ) → Answers (seal_in_place_detached_of s b) s b 0 ((7, Unfinished s) ∷ (1, mode s ≡ Hash) ∷ [])
  unfolding seal_in_place_detached_of
  seal-in-place-detached-answers b = plain _ _ s b _ (keyed-rows s) (no-count _) refl refl refl

  -- `aead_encrypt_in_place`: 7 on an unfinished message; 1 in Hash; 10 where the buffer is under 16
  pub seal-in-place-answers : (b : List ℕ) → Answers (seal_in_place_of s b) s b 0 ((7, Unfinished s) ∷ (1, mode s ≡ Hash) ∷ (10, length b < 16) ∷ [])
  unfolding seal_in_place_of
  seal-in-place-answers b = plain _ _ s b _ (then (keyed-rows s) (tail-row (length b)) refl) (no-count _) refl refl refl

  -- `aead_decrypt_detached`: 7 on an unfinished message; 1 in Hash; 3 where the output is shorter than the ciphertext; 4 where the tag differs
  pub open-detached-answers :
      (o : List ℕ) (t : Tag) (c : List ℕ)
      → Answers (open_detached_of s o t c) s o (length c - length o)
      ((7, Unfinished s) ∷ (1, mode s ≡ Hash) ∷ (3, length o < length c) ∷ (4, tag_out (decrypt_end s c) ≢ t.bytes) ∷ [])
  unfolding open_detached_of
  open-detached-answers o t c =
      opening _ _ s o t.bytes c _ _ (then (keyed-rows s) (room_row (length o) (length c)) refl) (room-count _ (length o) (length c)) refl refl

  -- `aead_decrypt`: 7 on an unfinished message; 1 in Hash; 10 where the input is under 16; 3 where the output is shorter than its result; 4 where the tag differs
  pub open-answers :
      (o b : List ℕ)
      → Answers (open_of s o b) s o (length b - 16 - length o)
      ((7, Unfinished s)
      ∷ (1, mode s ≡ Hash)
      ∷ (10, length b < 16)
      ∷ (3, length o < length b - 16)
      ∷ (4, tag_out (decrypt_end s (all_but16 b)) ≢ last16 b)
      ∷ [])
  unfolding open_of
  open-answers o b =
      opening _ _ s o _ _ _ _ (then (then (keyed-rows s) (tail-row (length b)) refl) (room_row (length o) (length b - 16)) refl) (room-count _ (length o) (length b - 16)) refl refl

  -- `aead_decrypt_in_place_detached`: 7 on an unfinished message; 1 in Hash; 4 where the tag differs
  pub open-in-place-detached-answers :
      (b : List ℕ) (t : Tag)
      → Answers (open_in_place_detached_of s b t) s b 0 ((7, Unfinished s) ∷ (1, mode s ≡ Hash) ∷ (4, tag_out (decrypt_end s b) ≢ t.bytes) ∷ [])
  unfolding open_in_place_detached_of
  open-in-place-detached-answers b t = opening _ _ s b t.bytes b _ _ (keyed-rows s) (no-count _) refl refl

  -- `aead_decrypt_in_place`: 7 on an unfinished message; 1 in Hash; 10 where the buffer is under 16; 4 where the tag differs
  pub open-in-place-answers :
      (b : List ℕ)
      → Answers (open_in_place_of s b) s b 0
      ((7, Unfinished s) ∷ (1, mode s ≡ Hash) ∷ (10, length b < 16) ∷ (4, tag_out (decrypt_end s (all_but16 b)) ≢ last16 b) ∷ [])
  unfolding open_in_place_of
  open-in-place-answers b =
      opening _ _ s b _ _ _ _ (then (keyed-rows s) (tail-row (length b)) refl) (no-count _) refl refl

module _ (s : Session) where
  -- `begin`: 7 on an unfinished message; 1 in Hash
  pub begin-answers : (kind : Kind) → Answers (begin_of kind s) s [] 0 ((7, Unfinished s) ∷ (1, mode s ≡ Hash) ∷ [])
  unfolding begin_of
  begin-answers kind = plain _ _ s [] _ (keyed-rows s) (no-count _) refl refl refl

  -- `feed`: 7 where no message of its kind is begun; 1 in Hash; 3 where the output is shorter than the piece
  pub feed-answers :
      (kind : Kind) (o x : List ℕ) (a : ℕ)
      → Portions (feed_of kind s o x a) s o (length x - length o) ((7, ¬ (Begun kind s)) ∷ (1, mode s ≡ Hash) ∷ (3, length o < length x) ∷ [])
  unfolding feed_of
  feed-answers kind o x a =
      portion _ _ s o _ (then (kind_row kind s) (then (mode-row (mode s)) (room_row (length o) (length x)) refl) refl) (none refl) (room-count _ (length o) (length x)) (inl refl) refl refl refl

  -- `finish_seal`: 7 where no sealing is begun; 1 in Hash
  pub finish-seal-answers : Portions (finish_seal_of s) s [] 0 ((7, ¬ (Begun Seal s)) ∷ (1, mode s ≡ Hash) ∷ [])
  unfolding finish_seal_of
  finish-seal-answers = portion _ _ s [] _ (then (kind_row Seal s) (mode-row (mode s)) refl) (none refl) (no-count _) (inl refl) refl refl refl

  -- `finish_open`: 7 where no opening is begun; 1 in Hash; 4 where the tag differs
  pub finish-open-answers :
      (t : Tag)
      → Portions (finish_open_of s t) s [] 0
      ((7, ¬ (Begun Open s)) ∷ (1, mode s ≡ Hash) ∷ (4, squeeze_out (ended s) 16 0x40 ≢ t.bytes) ∷ [])
  unfolding finish_open_of
  finish-open-answers t =
      let d = tag-decides (squeeze_out (ended s) 16 0x40) t.bytes in
      portion _ _ s [] _ (then (kind_row Open s) (mode-row (mode s)) refl) (decides-row _ _ d) (no-count _) d.0 refl refl refl

-- `Tag::verify` answers 4 where the bytes differ, and has no session
pub verify-numbers : (t : Tag) (b : List ℕ) → Exactly (verify_of t b) ((4, t.bytes ≢ b) ∷ [])
unfolding verify_of
verify-numbers t b = table (decides-row _ _ (tag-decides t.bytes b)) refl
