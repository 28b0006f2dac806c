-- What a list of session calls costs in permutations: as the calls report it, and from what is public of them.
use Rattle.std.specs.Prelude.{Bool, true, false, List, [], ◌∷◌, ℕ, zero, suc, ◌+◌, ◌-◌, length}
use Rattle.xoodyak.specs.declared.cyclist.Mode.{Mode}
use Rattle.xoodyak.specs.declared.cyclist.Mode.TheVariants.{Hash, Keyed}
use Rattle.xoodyak.specs.declared.cyclist.Phase.{Phase}
use Rattle.xoodyak.specs.declared.cyclist.Phase.TheVariants.{Up, Down}
use Rattle.xoodyak.specs.declared.Rule.{Rule}
use Rattle.xoodyak.specs.declared.feed.Kind.{Kind}
use Rattle.xoodyak.specs.declared.feed.Kind.TheVariants.{Seal, Open}
use Rattle.xoodyak.specs.declared.feed.Message.{Message}
use Rattle.xoodyak.specs.declared.Session.{Session}
use Rattle.xoodyak.specs.Cyclist.{absorb_rate, squeeze_rate, given}
use Rattle.xoodyak.specs.Numbers.{first, unfinished_number, kind_number, mode_number, keyed_number, key_number, room_number, tail_number, rate_number}
use Rattle.xoodyak.specs.Calls.{Outcome, idle, session, absorb_of, absorb_more_of, squeeze_of, squeeze_more_of, key_of, ratchet_of, encrypt_of, encrypt_in_place_of, decrypt_of, decrypt_in_place_of, seal_detached_of, seal_of, seal_in_place_detached_of, seal_in_place_of, open_detached_of, open_of, open_in_place_detached_of, open_in_place_of}
use Rattle.xoodyak.specs.Feed.{Portion, begin_of, feed_of, finish_seal_of, finish_open_of}
use Rattle.xoodyak.specs.Shares.{absorb_share, more_share, squeeze_share, message_share, seal_share, key_share, feed_share, feed_taken, place_after, finish_share}
use Rattle.walkback.specs.Walk.{unless_empty, message_phase}

-- A session call, where A stands for each text: its bytes, or their number. `o` in a comment is a lent output, of which only the room counts.
pub data CallOf (A : Type 0) : Type 0 where
  absorbing : A → CallOf A
  -- with the rate
  absorbing_more : A → ℕ → CallOf A
  -- o
  squeezing : A → CallOf A
  squeezing_key : A → CallOf A
  squeezing_more : A → CallOf A
  -- key, key id, nonce and counter, the last three with their flags
  keying : A → Bool → A → Bool → A → Bool → A → CallOf A
  ratcheting : CallOf A
  -- o and the message; or the buffer that holds it
  encrypting : A → A → CallOf A
  encrypting_in_place : A → CallOf A
  decrypting : A → A → CallOf A
  decrypting_in_place : A → CallOf A
  -- o and the message with its flag; or the buffer
  sealing_detached : A → Bool → A → CallOf A
  sealing : A → Bool → A → CallOf A
  sealing_in_place_detached : A → CallOf A
  sealing_in_place : A → CallOf A
  -- o, the tag of the detached forms, and the ciphertext; or the buffer
  opening_detached : A → A → A → CallOf A
  opening : A → A → CallOf A
  opening_in_place_detached : A → A → CallOf A
  opening_in_place : A → CallOf A
  -- bit by bit: o, the piece and the allowance; the tag
  beginning : Kind → CallOf A
  feeding : Kind → A → A → ℕ → CallOf A
  finishing_seal : CallOf A
  finishing_open : A → CallOf A

-- a call with its texts, and what is public of it: the lengths for the texts
abbrev pub SessionCall : Type 0
SessionCall = CallOf (List ℕ)

abbrev pub Shape : Type 0
Shape = CallOf ℕ

unfoldable pub shape : SessionCall → Shape
shape (absorbing x) = absorbing (length x)
shape (absorbing_more x r) = absorbing_more (length x) r
shape (squeezing o) = squeezing (length o)
shape (squeezing_key o) = squeezing_key (length o)
shape (squeezing_more o) = squeezing_more (length o)
shape (keying key has_id id has_nonce nonce has_counter counter) = keying (length key) has_id (length id) has_nonce (length nonce) has_counter (length counter)
shape ratcheting = ratcheting
shape (encrypting o m) = encrypting (length o) (length m)
shape (encrypting_in_place b) = encrypting_in_place (length b)
shape (decrypting o c) = decrypting (length o) (length c)
shape (decrypting_in_place b) = decrypting_in_place (length b)
shape (sealing_detached o has m) = sealing_detached (length o) has (length m)
shape (sealing o has m) = sealing (length o) has (length m)
shape (sealing_in_place_detached b) = sealing_in_place_detached (length b)
shape (sealing_in_place b) = sealing_in_place (length b)
shape (opening_detached o t c) = opening_detached (length o) (length t) (length c)
shape (opening o b) = opening (length o) (length b)
shape (opening_in_place_detached b t) = opening_in_place_detached (length b) (length t)
shape (opening_in_place b) = opening_in_place (length b)
shape (beginning kind) = beginning kind
shape (feeding kind o x allowance) = feeding kind (length o) (length x) allowance
shape finishing_seal = finishing_seal
shape (finishing_open t) = finishing_open (length t)

-- ---- as the calls report it: the session after a call, its number and what it spent
pub record Report : Type 0 where
  pub session : Session
  pub number : ℕ
  pub spent : ℕ

abbrev pub reported : Outcome → Report
reported x = record { session = x.session; number = x.number; spent = x.spent }

abbrev pub fed : Portion → Report
fed x = record { session = x.session; number = x.number; spent = x.spent }

unfoldable pub report : Session → SessionCall → Report
report s (absorbing x) = reported (absorb_of s x)
report s (absorbing_more x r) = reported (absorb_more_of s x r)
report s (squeezing o) = reported (squeeze_of 0x40 s o)
report s (squeezing_key o) = reported (squeeze_of 0x20 s o)
report s (squeezing_more o) = reported (squeeze_more_of s o)
report s (keying key has_id id has_nonce nonce has_counter counter) = reported (key_of s key has_id id has_nonce nonce has_counter counter)
report s ratcheting = reported (ratchet_of s)
report s (encrypting o m) = reported (encrypt_of s o m)
report s (encrypting_in_place b) = reported (encrypt_in_place_of s b)
report s (decrypting o c) = reported (decrypt_of s o c)
report s (decrypting_in_place b) = reported (decrypt_in_place_of s b)
report s (sealing_detached o has m) = reported (seal_detached_of s o (given has m))
report s (sealing o has m) = reported (seal_of s o (given has m))
report s (sealing_in_place_detached b) = reported (seal_in_place_detached_of s b)
report s (sealing_in_place b) = reported (seal_in_place_of s b)
report s (opening_detached o t c) = reported (open_detached_of s o (record { bytes = t }) c)
report s (opening o b) = reported (open_of s o b)
report s (opening_in_place_detached b t) = reported (open_in_place_detached_of s b (record { bytes = t }))
report s (opening_in_place b) = reported (open_in_place_of s b)
report s (beginning kind) = reported (begin_of kind s)
report s (feeding kind o x allowance) = fed (feed_of kind s o x allowance)
report s finishing_seal = fed (finish_seal_of s)
report s (finishing_open t) = fed (finish_open_of s (record { bytes = t }))

-- ---- from what is public: a session without its 48 bytes
pub record View : Type 0 where
  pub mode : Mode
  pub rule : Rule
  pub phase : Phase
  pub message : Message

abbrev pub view : Session → View
view s = record { mode = s.duplex.mode; rule = s.rule; phase = s.duplex.phase; message = s.message }

-- a session with this view and no bytes, of which the numbers are asked
abbrev pub blank : View → Session
blank v = record { duplex = record { st = []; mode = v.mode; phase = v.phase }; rule = v.rule; message = v.message }

-- the view after a call, and its share
pub record Cost : Type 0 where
  pub view : View
  pub spent : ℕ

-- refused, where the view stays and nothing is spent; or what the call costs
abbrev pub unless : ℕ → View → Cost → Cost
unless zero v x = x
unless (suc n) v x = record { view = v; spent = 0 }

-- an accepted call: the phase after it, and its share
abbrev pub costs : View → Phase → ℕ → Cost
costs v p n = record { view = record { mode = v.mode; rule = v.rule; phase = p; message = v.message }; spent = n }

-- and the message after it
abbrev pub message_costs : View → Phase → Message → ℕ → Cost
message_costs v p m n = record { view = record { mode = v.mode; rule = v.rule; phase = p; message = m }; spent = n }

-- an optional argument's length
abbrev pub given_length : Bool → ℕ → ℕ
given_length true n = n
given_length false n = 0

-- encrypting or decrypting n bytes; sealing or opening them
abbrev pub message_cost : View → ℕ → Cost
message_cost v n = costs v (message_phase v.rule n v.phase) (message_share v.rule n)

abbrev pub seal_cost : View → ℕ → Cost
seal_cost v n = costs v Up (seal_share v.rule n)

abbrev pub finish_cost : View → Cost
finish_cost v = message_costs v Up idle (finish_share v.rule v.message.place)

unfoldable pub cost_of : View → Shape → Cost
cost_of v (absorbing n) = unless (unfinished_number (blank v)) v (costs v Down (absorb_share v.phase (absorb_rate v.mode) n))
cost_of v (absorbing_more n r) =
    unless (first (unfinished_number (blank v)) (rate_number v.mode r)) v (costs v (unless_empty n v.phase Down) (more_share r n))
cost_of v (squeezing n) = unless (unfinished_number (blank v)) v (costs v Up (squeeze_share v.mode n))
cost_of v (squeezing_key n) = unless (unfinished_number (blank v)) v (costs v Up (squeeze_share v.mode n))
cost_of v (squeezing_more n) = unless (unfinished_number (blank v)) v (costs v (unless_empty n v.phase Up) (more_share (squeeze_rate v.mode) n))
cost_of v (keying key has_id id has_nonce nonce has_counter counter) =
    unless (first (keyed_number (blank v)) (key_number key (given_length has_id id) (given_length has_nonce nonce))) v
    (costs v Down (key_share v.phase key has_id (given_length has_id id) (given_length has_nonce nonce) has_counter counter))
cost_of v ratcheting = unless (keyed_number (blank v)) v (costs v Down 1)
cost_of v (encrypting o n) = unless (first (keyed_number (blank v)) (room_number o n)) v (message_cost v n)
cost_of v (encrypting_in_place n) = unless (keyed_number (blank v)) v (message_cost v n)
cost_of v (decrypting o n) = unless (first (keyed_number (blank v)) (room_number o n)) v (message_cost v n)
cost_of v (decrypting_in_place n) = unless (keyed_number (blank v)) v (message_cost v n)
cost_of v (sealing_detached o has m) =
    let n = given_length has m in
    unless (first (keyed_number (blank v)) (room_number o n)) v (seal_cost v n)
cost_of v (sealing o has m) =
    let n = given_length has m in
    unless (first (keyed_number (blank v)) (room_number o (n + 16))) v (seal_cost v n)
cost_of v (sealing_in_place_detached n) = unless (keyed_number (blank v)) v (seal_cost v n)
cost_of v (sealing_in_place n) = unless (first (keyed_number (blank v)) (tail_number n)) v (seal_cost v (n - 16))
cost_of v (opening_detached o t n) = unless (first (keyed_number (blank v)) (room_number o n)) v (seal_cost v n)
cost_of v (opening o n) = unless (first (first (keyed_number (blank v)) (tail_number n)) (room_number o (n - 16))) v (seal_cost v (n - 16))
cost_of v (opening_in_place_detached n t) = unless (keyed_number (blank v)) v (seal_cost v n)
cost_of v (opening_in_place n) = unless (first (keyed_number (blank v)) (tail_number n)) v (seal_cost v (n - 16))
cost_of v (beginning kind) =
    unless (keyed_number (blank v)) v (message_costs v v.phase (record { begun = true; kind = kind; place = 0 }) 0)
-- the phase is Up once a block was begun
cost_of v (feeding kind o n allowance) =
    let place = v.message.place in
    let share = feed_share place allowance n in
    unless (first (kind_number kind (blank v)) (first (mode_number v.mode) (room_number o n))) v
    (message_costs v (unless_empty share v.phase Up) (record { begun = true; kind = kind; place = place_after place (feed_taken place allowance n) }) share)
cost_of v finishing_seal = unless (first (kind_number Seal (blank v)) (mode_number v.mode)) v (finish_cost v)
cost_of v (finishing_open t) = unless (first (kind_number Open (blank v)) (mode_number v.mode)) v (finish_cost v)

-- a session made by `new`, which is refused with a fresh Hash session
unfoldable pub new_cost : Rule → ℕ → Bool → ℕ → Bool → ℕ → Bool → ℕ → Cost
new_cost rule key has_nonce nonce has_id id has_counter counter =
    let i = given_length has_id id in
    let n = given_length has_nonce nonce in
    unless (key_number key i n) (view (session rule Hash)) (costs (view (session rule Keyed)) Down (key_share Up key has_id i n has_counter counter))

-- ---- lists of calls
abbrev pub shapes : List SessionCall → List Shape
shapes [] = []
shapes (c ∷ cs) = shape c ∷ shapes cs

-- what each call of the list reports, and each one's share
unfoldable pub reports : Session → List SessionCall → List ℕ
reports s [] = []
reports s (c ∷ cs) = (report s c).spent ∷ reports (report s c).session cs

unfoldable pub shares : View → List Shape → List ℕ
shares v [] = []
shares v (c ∷ cs) = (cost_of v c).spent ∷ shares (cost_of v c).view cs

unfoldable pub sum : List ℕ → ℕ
sum [] = 0
sum (n ∷ ns) = n + sum ns
