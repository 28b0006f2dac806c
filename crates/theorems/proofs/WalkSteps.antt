-- A call is its steps: running it forward runs them, and undoing them in reverse undoes it.
use mathlib.Core.Path.{◌≡◌, refl, sym, ap, ◌∙◌}
use mathlib.Core.Bool.{Bool, true, false}
use mathlib.Core.List.{List, [], ◌∷◌, ◌++◌}
use Prim.Native.Nat.{ℕ, zero, suc, ◌-◌, ◌<◌}
use native.Mathlib.Omega.{arith}
use lib.Dec.{lit<}
use lib.ListN.{length, take, drop}
use Rattle.laws.specs.Lists.{All, Bytes48, add_front, add_at}
use Rattle.laws.specs.Blocks.{cut, cuts, blocks, cut_sizes, sizes}
use Rattle.laws.proofs.Words.{⊙-lt}
use Rattle.laws.proofs.Bytes.{all_append}
use Rattle.laws.proofs.Lists.{add_front-back}
use Rattle.laws.proofs.Adding.{add_at-back, add_at-swap, add_at-front, bytes-add_at, bytes-add_front, all_take, all_drop}
use Rattle.xoodoo.specs.Xoodoo.{xoodoo, inverse}
use Rattle.xoodoo.proofs.Inverse.{xoodoo-inverse, inverse-xoodoo, xoodoo-keeps, inverse-keeps}
use Rattle.xoodyak.specs.declared.cyclist.Mode.{Mode}
use Rattle.xoodyak.specs.declared.cyclist.Mode.TheVariants.{Hash, Keyed}
use Rattle.xoodyak.specs.declared.cyclist.Phase.{Phase}
use Rattle.xoodyak.specs.declared.cyclist.Phase.TheVariants.{Up, Down}
use Rattle.xoodyak.specs.declared.cyclist.Duplex.{Duplex}
use Rattle.xoodyak.specs.declared.Rule.{Rule}
use Rattle.xoodyak.specs.declared.Rule.TheVariants.{Crate, Specification}
use Rattle.xoodyak.specs.Cyclist.{absorb_rate, squeeze_rate, up_colour, down_colour, up_bytes, down_bytes, up, down, ready_from, ready, absorb_blocks, absorb, more_blocks, absorb_more, next, nexts_end, squeeze_more_end, squeeze_end, message_blocks, enc_end, given, chosen, if_given, key_call}
use Rattle.xoodyak.specs.Numbers.{mode_number}
use Rattle.walkback.specs.Steps.{Step, up_step, down_step, does, undoes, run, undo, block_steps, ready_steps, absorb_block_steps, absorb_steps, next_steps, squeeze_more_steps, squeeze_steps}
use Rattle.walkback.specs.Walk.{Call, absorbs, absorbs_more, squeezes, squeezes_key, squeezes_more, keys, encrypts, seals, call_number, forward, if_steps, key_run, key_steps, steps, unless_empty, message_phase, phase_after, of_bytes}
use Rattle.xoodyak.proofs.Settle.{key_fits, second-zero}
use Rattle.walkback.proofs.Undoing.{chosen-length}

-- ---- one step and its undoing
-- a step whose colour and data are bytes
abbrev pub step_bytes : Step → Type 0
step_bytes (up_step cu) = cu < 256
step_bytes (down_step x cd) = All 256 x × (cd < 256)

colour-back : (m : Mode) (cu : ℕ) (st : List ℕ) → up_colour m cu (up_colour m cu st) ≡ st
colour-back Hash cu st = refl
colour-back Keyed cu st = add_at-back st 47 cu

colour-keeps : (m : Mode) (cu : ℕ) {st : List ℕ} → cu < 256 → Bytes48 st → Bytes48 (up_colour m cu st)
colour-keeps Hash cu k h = h
colour-keeps Keyed cu k h = bytes-add_at 47 cu h k

down-colour-lt : (m : Mode) (cd : ℕ) → cd < 256 → down_colour m cd < 256
down-colour-lt Hash cd h = ⊙-lt 8 h (lit< tt)
down-colour-lt Keyed cd h = h

-- what Down adds, added twice, is gone
down-back : (m : Mode) (x : List ℕ) (cd : ℕ) (st : List ℕ) → down_bytes m x cd (down_bytes m x cd st) ≡ st
unfolding down_bytes
down-back m x cd st =
    let n = length x in
    let k = down_colour m cd in
    ap (λ l. add_at (add_at l n 1) 47 k)
    (add_at-front (add_at (add_front st x) n 1) x 47 k
    ∙ ap (λ l. add_at l 47 k) (add_at-front (add_front st x) x n 1 ∙ ap (λ l. add_at l n 1) (add_front-back st x)))
    ∙ ap (λ l. add_at l 47 k) (add_at-swap (add_at st n 1) 47 k n 1 ∙ ap (λ l. add_at l 47 k) (add_at-back st n 1))
    ∙ add_at-back st 47 k

down-keeps : (m : Mode) (x : List ℕ) (cd : ℕ) {st : List ℕ} → All 256 x → cd < 256 → Bytes48 st → Bytes48 (down_bytes m x cd st)
unfolding down_bytes
down-keeps m x cd hx hc h =
    bytes-add_at 47 (down_colour m cd) (bytes-add_at (length x) 1 (bytes-add_front x h hx) (lit< tt)) (down-colour-lt m cd hc)

does-keeps : (m : Mode) (s : Step) {st : List ℕ} → step_bytes s → Bytes48 st → Bytes48 (does m s st)
unfolding does up_bytes
does-keeps m (up_step cu) k h = xoodoo-keeps (colour-keeps m cu k h)
does-keeps m (down_step x cd) k h = down-keeps m x cd k.0 k.1 h

undoes-keeps : (m : Mode) (s : Step) {st : List ℕ} → step_bytes s → Bytes48 st → Bytes48 (undoes m s st)
unfolding undoes
undoes-keeps m (up_step cu) k h = colour-keeps m cu k (inverse-keeps h)
undoes-keeps m (down_step x cd) k h = down-keeps m x cd k.0 k.1 h

undoes-does : (m : Mode) (s : Step) {st : List ℕ} → step_bytes s → Bytes48 st → undoes m s (does m s st) ≡ st
unfolding does undoes up_bytes
undoes-does m (up_step cu) {st} k h = ap (up_colour m cu) (inverse-xoodoo (colour-keeps m cu k h)) ∙ colour-back m cu st
undoes-does m (down_step x cd) {st} k h = down-back m x cd st

does-undoes : (m : Mode) (s : Step) {st : List ℕ} → step_bytes s → Bytes48 st → does m s (undoes m s st) ≡ st
unfolding does undoes up_bytes
does-undoes m (up_step cu) {st} k h = ap xoodoo (colour-back m cu (inverse st)) ∙ xoodoo-inverse h
does-undoes m (down_step x cd) {st} k h = down-back m x cd st

-- ---- a list of steps
abbrev pub all_bytes : List Step → Type 0
all_bytes [] = Unit {0}
all_bytes (s ∷ ss) = step_bytes s × all_bytes ss

pub run-keeps : (m : Mode) (ss : List Step) {st : List ℕ} → all_bytes ss → Bytes48 st → Bytes48 (run m ss st)
unfolding run
run-keeps m [] k h = h
run-keeps m (s ∷ ss) k h = run-keeps m ss k.1 (does-keeps m s k.0 h)

pub undo-keeps : (m : Mode) (ss : List Step) {st : List ℕ} → all_bytes ss → Bytes48 st → Bytes48 (undo m ss st)
unfolding undo
undo-keeps m [] k h = h
undo-keeps m (s ∷ ss) k h = undoes-keeps m s k.0 (undo-keeps m ss k.1 h)

pub undo-run : (m : Mode) (ss : List Step) {st : List ℕ} → all_bytes ss → Bytes48 st → undo m ss (run m ss st) ≡ st
unfolding run undo
undo-run m [] k h = refl
undo-run m (s ∷ ss) k h = ap (undoes m s) (undo-run m ss k.1 (does-keeps m s k.0 h)) ∙ undoes-does m s k.0 h

pub run-undo : (m : Mode) (ss : List Step) {st : List ℕ} → all_bytes ss → Bytes48 st → run m ss (undo m ss st) ≡ st
unfolding run undo
run-undo m [] k h = refl
run-undo m (s ∷ ss) k h = ap (run m ss) (does-undoes m s k.0 (undo-keeps m ss k.1 h)) ∙ run-undo m ss k.1 h

all-steps : (ss ts : List Step) → all_bytes ss → all_bytes ts → all_bytes (ss ++ ts)
all-steps [] ts h k = k
all-steps (s ∷ ss) ts h k = (h.0, all-steps ss ts h.1 k)

-- ---- the steps of a call whose inputs are bytes
abbrev blocks_bytes : List (List ℕ) → Type 0
blocks_bytes [] = Unit {0}
blocks_bytes (b ∷ bs) = All 256 b × blocks_bytes bs

cut-bytes : (f r : ℕ) (x : List ℕ) → All 256 x → blocks_bytes (cut f r x)
cut-bytes zero r x h = tt
cut-bytes (suc f) r [] h = tt
cut-bytes (suc f) r (a ∷ x) h = (all_take 256 r (a ∷ x) h, cut-bytes f r (drop r (a ∷ x)) (all_drop 256 r (a ∷ x) h))

cuts-bytes : (r : ℕ) (x : List ℕ) → All 256 x → blocks_bytes (cuts r x)
unfolding cuts
cuts-bytes r x h = cut-bytes (length x) r x h

blocks-bytes : (r : ℕ) (x : List ℕ) → All 256 x → blocks_bytes (blocks r x)
unfolding blocks
blocks-bytes r [] h = (tt, tt)
blocks-bytes r (a ∷ x) h = cuts-bytes r (a ∷ x) h

message-bytes : (rule : Rule) (x : List ℕ) → All 256 x → blocks_bytes (message_blocks rule x)
unfolding message_blocks
message-bytes Crate x h = cuts-bytes 24 x h
message-bytes Specification x h = blocks-bytes 24 x h

block-steps : (cu : ℕ) (bs : List (List ℕ)) → cu < 256 → blocks_bytes bs → all_bytes (block_steps cu bs)
unfolding block_steps
block-steps cu [] h k = tt
block-steps cu (b ∷ bs) h k = (h, ((k.0, lit< tt), block-steps 0 bs (lit< tt) k.1))

ready-steps : (p : Phase) → all_bytes (ready_steps p)
ready-steps Up = tt
ready-steps Down = (lit< tt, tt)

absorb-block-steps : (p : Phase) (cd : ℕ) (bs : List (List ℕ)) → cd < 256 → blocks_bytes bs → all_bytes (absorb_block_steps p cd bs)
unfolding absorb_block_steps
absorb-block-steps p cd [] h k = tt
absorb-block-steps p cd (b ∷ bs) h k =
    all-steps (ready_steps p) _ (ready-steps p) ((k.0, h), block-steps 0 bs (lit< tt) k.1)

absorb-steps : (p : Phase) (r cd : ℕ) (x : List ℕ) → cd < 256 → All 256 x → all_bytes (absorb_steps p r cd x)
unfolding absorb_steps
absorb-steps p r cd x h k = absorb-block-steps p cd (blocks r x) h (blocks-bytes r x k)

next-steps : (ks : List ℕ) → all_bytes (next_steps ks)
unfolding next_steps
next-steps [] = tt
next-steps (k ∷ ks) = ((tt, lit< tt), (lit< tt, next-steps ks))

squeeze-more-steps : (m : Mode) (n : ℕ) → all_bytes (squeeze_more_steps m n)
unfolding squeeze_more_steps
squeeze-more-steps m n = next-steps (sizes (squeeze_rate m) n)

squeeze-steps : (m : Mode) (cu n : ℕ) → cu < 256 → all_bytes (squeeze_steps m cu n)
unfolding squeeze_steps
squeeze-steps m cu n h = (h, squeeze-more-steps m (n - squeeze_rate m))

if-steps : (f : Bool) (ss : List Step) → all_bytes ss → all_bytes (if_steps f ss)
if-steps true ss h = h
if-steps false ss h = tt

given-bytes : (f : Bool) (x : List ℕ) → All 256 x → All 256 (given f x)
given-bytes true x h = h
given-bytes false x h = tt

chosen-bytes : (f : Bool) (x y : List ℕ) → All 256 x → All 256 y → All 256 (chosen f x y)
chosen-bytes true x y h k = h
chosen-bytes false x y h k = k

key-run-bytes : (key t : List ℕ) → length t < 256 → All 256 key → All 256 t → All 256 (key_run key t)
unfolding key_run
key-run-bytes key t h k l = all_append 256 key _ k (all_append 256 t _ l (h, tt))

-- the one-byte length of t fits since the lengths were accepted
pub call-bytes : (rule : Rule) (m : Mode) (p : Phase) (c : Call) → call_number m c ≡ 0 → of_bytes c → all_bytes (steps rule m p c)
unfolding steps call_number key_steps
call-bytes rule m p (absorbs x) n k = absorb-steps p (absorb_rate m) 3 x (lit< tt) k
call-bytes rule m p (absorbs_more x r) n k = block-steps 0 (cuts r x) (lit< tt) (cuts-bytes r x k)
call-bytes rule m p (squeezes l) n k = squeeze-steps m 0x40 l (lit< tt)
call-bytes rule m p (squeezes_key l) n k = squeeze-steps m 0x20 l (lit< tt)
call-bytes rule m p (squeezes_more l) n k = squeeze-more-steps m l
call-bytes rule m p (keys key has_id id has_nonce nonce has_counter counter) n k =
    let i = given has_id id in
    let o = given has_nonce nonce in
    let bi = given-bytes has_id id k.1 in
    let bo = given-bytes has_nonce nonce k.2 in
    let h = key_fits (length key) (length i) (length o) (second-zero (mode_number m) _ (sym n)) in
    let l : length (chosen has_id i o) < 256 = omega (arith, chosen-length has_id i o, h) in
    all-steps (absorb_steps p 44 2 (key_run key (chosen has_id i o))) _
    (absorb-steps p 44 2 (key_run key (chosen has_id i o)) (lit< tt) (key-run-bytes key (chosen has_id i o) l k.0 (chosen-bytes has_id i o bi bo)))
    (all-steps (if_steps has_id (absorb_steps Down 44 0 o)) _
    (if-steps has_id (absorb_steps Down 44 0 o) (absorb-steps Down 44 0 o (lit< tt) bo))
    (if-steps has_counter (absorb_steps Down 1 0 counter) (absorb-steps Down 1 0 counter (lit< tt) k.3)))
call-bytes rule m p (encrypts x) n k = block-steps 0x80 (message_blocks rule x) (lit< tt) (message-bytes rule x k)
call-bytes rule m p (seals x) n k =
    all-steps (block_steps 0x80 (message_blocks rule x)) _ (block-steps 0x80 (message_blocks rule x) (lit< tt) (message-bytes rule x k)) (squeeze-steps m 0x40 16 (lit< tt))

-- ---- the steps on a session: bytes, mode and phase
unfoldable pub stepped : Step → Duplex → Duplex
stepped (up_step cu) d = up d cu
stepped (down_step x cd) d = down d x cd

unfoldable pub run_all : List Step → Duplex → Duplex
run_all [] d = d
run_all (s ∷ ss) d = run_all ss (stepped s d)

-- they run on the bytes, and leave the mode
stepped-mode : (s : Step) (d : Duplex) → (stepped s d).mode ≡ d.mode
unfolding stepped up down
stepped-mode (up_step cu) d = refl
stepped-mode (down_step x cd) d = refl

stepped-st : (s : Step) (d : Duplex) → (stepped s d).st ≡ does d.mode s d.st
unfolding stepped up down does
stepped-st (up_step cu) d = refl
stepped-st (down_step x cd) d = refl

pub run-mode : (ss : List Step) (d : Duplex) → (run_all ss d).mode ≡ d.mode
unfolding run_all
run-mode [] d = refl
run-mode (s ∷ ss) d = run-mode ss (stepped s d) ∙ stepped-mode s d

pub run-st : (ss : List Step) (d : Duplex) → (run_all ss d).st ≡ run d.mode ss d.st
unfolding run_all run
run-st [] d = refl
run-st (s ∷ ss) d = run-st ss (stepped s d) ∙ rw (stepped-mode s d, stepped-st s d)

run-append : (ss ts : List Step) (d : Duplex) → run_all (ss ++ ts) d ≡ run_all ts (run_all ss d)
unfolding run_all
run-append [] ts d = refl
run-append (s ∷ ss) ts d = run-append ss ts (stepped s d)

-- ---- each core of a call runs its steps
enc-runs : (bs : List (List ℕ)) (cu : ℕ) (d : Duplex) → enc_end bs cu d ≡ run_all (block_steps cu bs) d
unfolding enc_end block_steps run_all stepped
enc-runs [] cu d = refl
enc-runs (b ∷ bs) cu d = enc-runs bs 0 (down (up d cu) b 0)

more-runs : (bs : List (List ℕ)) (d : Duplex) → more_blocks bs d ≡ run_all (block_steps 0 bs) d
unfolding more_blocks block_steps run_all stepped
more-runs [] d = refl
more-runs (b ∷ bs) d = more-runs bs (down (up d 0) b 0)

-- a Down leaves the phase Down, so that every later block has its Up
later-runs : (bs : List (List ℕ)) (d : Duplex) → d.phase ≡ Down → absorb_blocks bs 0 d ≡ run_all (block_steps 0 bs) d
unfolding absorb_blocks block_steps run_all stepped ready down up
later-runs [] d e = refl
later-runs (b ∷ bs) d e = rw e (later-runs bs (down (up d 0) b 0) refl)

ready-runs : (p : Phase) (ss : List Step) (d : Duplex) → run_all (ready_steps p ++ ss) d ≡ run_all ss (ready_from p d)
unfolding run_all stepped
ready-runs Up ss d = refl
ready-runs Down ss d = refl

absorb-blocks-run : (bs : List (List ℕ)) (cd : ℕ) (d : Duplex) → absorb_blocks bs cd d ≡ run_all (absorb_block_steps d.phase cd bs) d
unfolding absorb_blocks absorb_block_steps run_all stepped ready down
absorb-blocks-run [] cd d = refl
absorb-blocks-run (b ∷ bs) cd d =
    later-runs bs (down (ready_from d.phase d) b cd) refl ∙ sym (ready-runs d.phase (down_step b cd ∷ block_steps 0 bs) d)

pub absorb-runs : (r cd : ℕ) (d : Duplex) (x : List ℕ) → absorb r cd d x ≡ run_all (absorb_steps d.phase r cd x) d
unfolding absorb absorb_steps
absorb-runs r cd d x = absorb-blocks-run (blocks r x) cd d

nexts-run : (ks : List ℕ) (d : Duplex) → nexts_end ks d ≡ run_all (next_steps ks) d
unfolding nexts_end next_steps run_all stepped next
nexts-run [] d = refl
nexts-run (k ∷ ks) d = nexts-run ks (up (down d [] 0) 0)

squeeze-more-runs : (d : Duplex) (n : ℕ) → squeeze_more_end d n ≡ run_all (squeeze_more_steps d.mode n) d
unfolding squeeze_more_end squeeze_more_steps
squeeze-more-runs d n = nexts-run (sizes (squeeze_rate d.mode) n) d

pub squeeze-runs : (d : Duplex) (n cu : ℕ) → squeeze_end d n cu ≡ run_all (squeeze_steps d.mode cu n) d
unfolding squeeze_end squeeze_steps run_all stepped up
squeeze-runs d n cu = squeeze-more-runs (up d cu) (n - squeeze_rate d.mode)

-- ---- the phase at the end
blocks-phase : (cu : ℕ) (bs : List (List ℕ)) (d : Duplex) → d.phase ≡ Down → (run_all (block_steps cu bs) d).phase ≡ Down
unfolding block_steps run_all stepped down
blocks-phase cu [] d e = e
blocks-phase cu (b ∷ bs) d e = blocks-phase 0 bs (down (up d cu) b 0) refl

cuts-phase : (cu r : ℕ) (x : List ℕ) (d : Duplex) → (run_all (block_steps cu (cuts r x)) d).phase ≡ unless_empty (length x) d.phase Down
unfolding cuts block_steps run_all stepped down
cuts-phase cu r [] d = refl
cuts-phase cu r (a ∷ x) d = blocks-phase 0 (cut (length x) r (drop r (a ∷ x))) (down (up d cu) (take r (a ∷ x)) 0) refl

message-phase : (rule : Rule) (cu : ℕ) (x : List ℕ) (d : Duplex)
    → (run_all (block_steps cu (message_blocks rule x)) d).phase ≡ message_phase rule (length x) d.phase
unfolding message_blocks blocks block_steps run_all stepped down
message-phase Crate cu x d = cuts-phase cu 24 x d
message-phase Specification cu [] d = refl
message-phase Specification cu (a ∷ x) d = cuts-phase cu 24 (a ∷ x) d

absorb-blocks-phase : (bs : List (List ℕ)) (cd : ℕ) (d : Duplex) → d.phase ≡ Down → (absorb_blocks bs cd d).phase ≡ Down
unfolding absorb_blocks down
absorb-blocks-phase [] cd d e = e
absorb-blocks-phase (b ∷ bs) cd d e = absorb-blocks-phase bs 0 (down (ready d) b cd) refl

pub absorb-phase : (r cd : ℕ) (d : Duplex) (x : List ℕ) → (absorb r cd d x).phase ≡ Down
unfolding absorb blocks cuts absorb_blocks down
absorb-phase r cd d [] = refl
absorb-phase r cd d (a ∷ x) = absorb-blocks-phase (cut (length x) r (drop r (a ∷ x))) 0 (down (ready d) (take r (a ∷ x)) cd) refl

nexts-phase : (ks : List ℕ) (d : Duplex) → d.phase ≡ Up → (nexts_end ks d).phase ≡ Up
unfolding nexts_end next up
nexts-phase [] d e = e
nexts-phase (k ∷ ks) d e = nexts-phase ks (next d) refl

more-phase : (d : Duplex) (n : ℕ) → (squeeze_more_end d n).phase ≡ unless_empty n d.phase Up
unfolding squeeze_more_end sizes nexts_end next up
more-phase d zero = refl
more-phase d (suc n) = nexts-phase (cut_sizes n (squeeze_rate d.mode) (suc n - squeeze_rate d.mode)) (next d) refl

pub squeeze-phase : (d : Duplex) (n cu : ℕ) → (squeeze_end d n cu).phase ≡ Up
unfolding squeeze_end squeeze_more_end up
squeeze-phase d n cu = nexts-phase (sizes (squeeze_rate d.mode) (n - squeeze_rate d.mode)) (up d cu) refl

-- ---- the key call
if-runs : (f : Bool) (r : ℕ) (d : Duplex) (x : List ℕ) → d.phase ≡ Down
    → if_given f (absorb r 0 d x) d ≡ run_all (if_steps f (absorb_steps Down r 0 x)) d
unfolding run_all
if-runs true r d x e = absorb-runs r 0 d x ∙ ap (λ p. run_all (absorb_steps p r 0 x) d) e
if-runs false r d x e = refl

if-phase : (f : Bool) (r : ℕ) (d : Duplex) (x : List ℕ) → d.phase ≡ Down → (if_given f (absorb r 0 d x) d).phase ≡ Down
if-phase true r d x e = absorb-phase r 0 d x
if-phase false r d x e = e

module _ (d : Duplex) (key : List ℕ) (has_id : Bool) (id nonce : List ℕ) (has_counter : Bool) (counter : List ℕ) where
  keyed : Duplex
  keyed = absorb 44 2 d (key_run key (chosen has_id id nonce))

  nonced : Duplex
  nonced = if_given has_id (absorb 44 0 keyed nonce) keyed

  nonced-phase : nonced.phase ≡ Down
  unfolding keyed nonced
  nonced-phase = if-phase has_id 44 keyed nonce (absorb-phase 44 2 d _)

  key-runs : key_call d key has_id id nonce has_counter counter ≡ run_all (key_steps d.phase key has_id id nonce has_counter counter) d
  unfolding key_call key_steps key_run keyed nonced
  key-runs =
      if-runs has_counter 1 nonced counter nonced-phase
      ∙ ap (run_all (if_steps has_counter (absorb_steps Down 1 0 counter)))
      (if-runs has_id 44 keyed nonce (absorb-phase 44 2 d _) ∙ ap (run_all (if_steps has_id (absorb_steps Down 44 0 nonce))) (absorb-runs 44 2 d _))
      ∙ sym (run-append _ _ d ∙ run-append _ _ (run_all (absorb_steps d.phase 44 2 (key_run key (chosen has_id id nonce))) d))

  key-phase : (key_call d key has_id id nonce has_counter counter).phase ≡ Down
  unfolding key_call key_run keyed nonced
  key-phase = if-phase has_counter 1 nonced counter nonced-phase

-- ---- every call runs its steps, and ends in the phase said
pub forward-runs : (rule : Rule) (c : Call) (d : Duplex) → forward rule c d ≡ run_all (steps rule d.mode d.phase c) d
unfolding forward steps absorb_more
forward-runs rule (absorbs x) d = absorb-runs (absorb_rate d.mode) 3 d x
forward-runs rule (absorbs_more x r) d = more-runs (cuts r x) d
forward-runs rule (squeezes n) d = squeeze-runs d n 0x40
forward-runs rule (squeezes_key n) d = squeeze-runs d n 0x20
forward-runs rule (squeezes_more n) d = squeeze-more-runs d n
forward-runs rule (keys key has_id id has_nonce nonce has_counter counter) d =
    key-runs d key has_id (given has_id id) (given has_nonce nonce) has_counter counter
forward-runs rule (encrypts x) d = enc-runs (message_blocks rule x) 0x80 d
forward-runs rule (seals x) d =
    ap (λ e. squeeze_end e 16 0x40) (enc-runs (message_blocks rule x) 0x80 d)
    ∙ squeeze-runs (run_all (block_steps 0x80 (message_blocks rule x)) d) 16 0x40
    ∙ ap (λ m. run_all (squeeze_steps m 0x40 16) (run_all (block_steps 0x80 (message_blocks rule x)) d)) (run-mode (block_steps 0x80 (message_blocks rule x)) d)
    ∙ sym (run-append (block_steps 0x80 (message_blocks rule x)) _ d)

pub forward-phase : (rule : Rule) (c : Call) (d : Duplex) → (forward rule c d).phase ≡ phase_after rule d.phase c
unfolding forward phase_after absorb_more
forward-phase rule (absorbs x) d = absorb-phase (absorb_rate d.mode) 3 d x
forward-phase rule (absorbs_more x r) d = ap (λ e. e.phase) (more-runs (cuts r x) d) ∙ cuts-phase 0 r x d
forward-phase rule (squeezes n) d = squeeze-phase d n 0x40
forward-phase rule (squeezes_key n) d = squeeze-phase d n 0x20
forward-phase rule (squeezes_more n) d = more-phase d n
forward-phase rule (keys key has_id id has_nonce nonce has_counter counter) d =
    key-phase d key has_id (given has_id id) (given has_nonce nonce) has_counter counter
forward-phase rule (encrypts x) d = ap (λ e. e.phase) (enc-runs (message_blocks rule x) 0x80 d) ∙ message-phase rule 0x80 x d
forward-phase rule (seals x) d = squeeze-phase (enc_end (message_blocks rule x) 0x80 d) 16 0x40
