-- Laws of feeding: what the allowances let through, wherever it was cut, makes the steps of the message's blocks.
use mathlib.Core.Path.{◌≡◌, refl, sym, ap, ◌∙◌}
use mathlib.Core.Bool.{Bool, true, false}
use mathlib.Core.List.{List, [], ◌∷◌, ◌++◌}
use mathlib.Core.Logic.{◌⊎◌, inl, inr}
use Prim.Native.Nat.{ℕ, zero, suc, ◌+◌, ◌-◌, ◌*◌, ◌<◌, ◌≤◌, min}
use native.Mathlib.Nat.{not-suc-le-zero, le_of_suc-le-suc, le_refl}
use native.Mathlib.Omega.{arith}
use lib.Dec.{leb, ltb, lit<, lit≤}
use lib.ListN.{length, take, drop, length-drop, take-append-drop}
use lib.Seq.{length-take-le}
use borrow.Author.Tests.{lt-ltb, ltb-true, ltb-false, le-leb, leb-true, leb-false, le-ltb}
use Rattle.laws.specs.Lists.{add_front, add_at}
use Rattle.laws.specs.Blocks.{cuts, blocks, sizes}
use Rattle.laws.proofs.Blocks.{cuts-step, cuts-nil}
use Rattle.xoodyak.specs.declared.cyclist.Mode.{Mode}
use Rattle.xoodyak.specs.declared.cyclist.Mode.TheVariants.{Keyed}
use Rattle.xoodyak.specs.declared.cyclist.Phase.{Phase}
use Rattle.xoodyak.specs.declared.cyclist.Phase.TheVariants.{Down}
use Rattle.xoodyak.specs.declared.cyclist.Duplex.{Duplex}
use Rattle.xoodyak.specs.declared.Rule.{Rule}
use Rattle.xoodyak.specs.declared.Rule.TheVariants.{Crate, Specification}
use Rattle.xoodyak.specs.declared.feed.Kind.{Kind}
use Rattle.xoodyak.specs.declared.feed.Kind.TheVariants.{Seal, Open}
use Rattle.xoodyak.specs.Cyclist.{down_colour, down_bytes, up, down, message_blocks, enc_end, enc_out, dec_end, dec_out}
use Rattle.xoodyak.specs.Feed.{is_open, close_block, open_block, put, wrote, run_end, run_out, Progress, stands, ups_before, place_in, block_for, and_then, within, feed, end_block, end_ups}
use Rattle.xoodyak.proofs.BlockWords.{down-zero}
use Rattle.xoodyak.proofs.Runs.{text, text-length, run-out, run-end}
use Rattle.walkback.specs.Steps.{Step, ups, block_steps, next_steps, squeeze_more_steps, squeeze_steps}
use Rattle.walkback.specs.Walk.{seals, steps}
use Rattle.theorems.proofs.Crypt.{both_true, up-mode, up-length, add-zero-at, by_blocks, some_cuts}

-- ---- a byte fed, by whether the block begun last can take it: the duplex then, and what follows
abbrev after : Kind → Bool → ℕ → Duplex → ℕ → Duplex
after kind t p d b = put kind (place_in t p) b (block_for t p d)

abbrev fed : Bool → ℕ → Duplex → ℕ → Progress → Progress
fed t p d b g = and_then (ups_before t) (wrote (place_in t p) b (block_for t p d)) g

-- ---- feeding all of x, as if the allowance never ended
unfoldable pub full : Kind → ℕ → Duplex → List ℕ → Progress
full kind p d [] = stands p d
full kind p d (b ∷ x) = fed (is_open p) p d b (full kind (suc (place_in (is_open p) p)) (after kind (is_open p) p d b) x)

feed-cons :
    (kind : Kind) (p : ℕ) (d : Duplex) (b : ℕ) (x : List ℕ) (g : Progress) (t : Bool)
    → g ≡ full kind (suc (place_in (is_open p) p)) (after kind (is_open p) p d b) (take (length g.bytes) x)
    → within t (fed (is_open p) p d b g) (stands p d)
    ≡ full kind p d (take (length (within t (fed (is_open p) p d b g) (stands p d)).bytes) (b ∷ x))
unfolding full
feed-cons kind p d b x g true ih = ap (fed (is_open p) p d b) ih
feed-cons kind p d b x g false ih = refl

-- a feed is that of the bytes which it takes
pub feed-full : (kind : Kind) (a p : ℕ) (d : Duplex) (x : List ℕ) → feed kind a p d x ≡ full kind p d (take (length (feed kind a p d x).bytes) x)
unfolding feed full
feed-full kind a p d [] = refl
feed-full kind a p d (b ∷ x) = feed-cons kind p d b x _ (leb (ups_before (is_open p)) a) (feed-full kind (a - ups_before (is_open p)) _ _ x)

-- one run after the other
abbrev pub joined : Progress → Progress → Progress
joined f g = record { duplex = g.duplex; place = g.place; spent = f.spent + g.spent; bytes = f.bytes ++ g.bytes }

pub full-append :
    (kind : Kind) (x y : List ℕ) (p : ℕ) (d : Duplex)
    → full kind p d (x ++ y) ≡ joined (full kind p d x) (full kind (full kind p d x).place (full kind p d x).duplex y)
unfolding full
full-append kind [] y p d =
    let g = full kind p d y in
    let s : g.spent ≡ 0 + g.spent = omega arith in
    λ i. record { duplex = g.duplex; place = g.place; spent = s i; bytes = g.bytes }
full-append kind (b ∷ x) y p d =
    let t = is_open p in
    let u = ups_before t in
    let f = full kind (suc (place_in t p)) (after kind t p d b) x in
    let g = full kind f.place f.duplex y in
    let s : u + (f.spent + g.spent) ≡ (u + f.spent) + g.spent = omega arith in
    ap (fed t p d b) (full-append kind x y (suc (place_in t p)) (after kind t p d b))
    ∙ (λ i. record { duplex = g.duplex; place = g.place; spent = s i; bytes = wrote (place_in t p) b (block_for t p d) ∷ (f.bytes ++ g.bytes) })

-- no feed changes the mode
open-mode : (p : ℕ) (d : Duplex) → (open_block p d).mode ≡ d.mode
unfolding open_block close_block
open-mode zero d = up-mode d 0x80
open-mode (suc p) d = up-mode (close_block (suc p) d) 0

for-mode : (t : Bool) (p : ℕ) (d : Duplex) → (block_for t p d).mode ≡ d.mode
for-mode true p d = refl
for-mode false p d = open-mode p d

pub full-mode : (kind : Kind) (p : ℕ) (d : Duplex) (x : List ℕ) → (full kind p d x).duplex.mode ≡ d.mode
unfolding full put
full-mode kind p d [] = refl
full-mode kind p d (b ∷ x) = full-mode kind (suc (place_in (is_open p) p)) _ x ∙ for-mode (is_open p) p d

-- ---- inside a block
full-as :
    (kind : Kind) (p : ℕ) (d : Duplex) (b : ℕ) (x : List ℕ) (t : Bool) → is_open p ≡ t
    → full kind p d (b ∷ x) ≡ fed t p d b (full kind (suc (place_in t p)) (after kind t p d b) x)
unfolding full
full-as kind p d b x t e = ap (λ t. fed t p d b (full kind (suc (place_in t p)) (after kind t p d b) x)) e

is-open : (p : ℕ) → 0 < p → p < 24 → is_open p ≡ true
is-open p h g = rw (lt-ltb 0 p h, lt-ltb p 24 g)

-- a run that stays inside the block
abbrev ran : Kind → ℕ → Duplex → List ℕ → Progress
ran kind p d x = record { duplex = run_end kind p d x; place = p + length x; spent = 0; bytes = run_out kind p d x }

run_is : (kind : Kind) (x : List ℕ) (p : ℕ) (d : Duplex) → 0 < p → p + length x ≤ 24 → full kind p d x ≡ ran kind p d x
unfolding full run_end run_out
run_is kind [] p d h g =
    let q : p ≡ p + 0 = omega arith in
    λ i. record { duplex = d; place = q i; spent = 0; bytes = [] }
run_is kind (b ∷ x) p d h g =
    let q : suc p + length x ≡ p + suc (length x) = omega arith in
    let e = put kind p b d in
    full-as kind p d b x true (is-open p h (omega arith))
    ∙ ap (and_then 0 (wrote p b d)) (run_is kind x (suc p) e (omega arith) (omega arith))
    ∙ (λ i. record { duplex = run_end kind (suc p) e x; place = q i; spent = 0; bytes = wrote p b d ∷ run_out kind (suc p) e x })

-- ---- a whole block, from Up on
abbrev block_at : Kind → Duplex → List ℕ → Progress
block_at kind e x = record {
  duplex = record { st = add_front e.st (text kind x e.st); mode = e.mode; phase = e.phase };
  place = length x;
  spent = 1;
  bytes = add_front x e.st;
}

block-is :
    (kind : Kind) (x : List ℕ) (p : ℕ) (d : Duplex) → is_open p ≡ false → 0 < length x → length x ≤ 24 → 24 ≤ length (open_block p d).st
    → full kind p d x ≡ block_at kind (open_block p d) x
unfolding run_end run_out
block-is kind [] p d s h g l = absurd (not-suc-le-zero h)
block-is kind (b ∷ x) p d s h g l =
    let e = open_block p d in
    let q : 1 + length x ≡ suc (length x) = omega arith in
    let ee = run-end e.mode e.phase kind (b ∷ x) [] e.st 0 refl (omega arith) in
    let eo = run-out e.mode e.phase kind (b ∷ x) [] e.st 0 refl (omega arith) in
    full-as kind p d b x false s
    ∙ ap (and_then 1 (wrote 0 b e)) (run_is kind x 1 (put kind 0 b e) (lit< tt) (omega arith))
    ∙ (λ i. record { duplex = ee i; place = q i; spent = 1; bytes = eo i })

-- closing it is what Down does after the block's bytes
closed :
    (kind : Kind) (e : Duplex) (x : List ℕ) → length x ≤ 24
    → close_block (block_at kind e x).place (block_at kind e x).duplex ≡ down e (text kind x e.st) 0
unfolding close_block down down_bytes
closed kind e x h =
    let n : min (length x) 24 ≡ length (text kind x e.st) = rw (text-length kind x e.st) (omega arith) in
    let s = add_front e.st (text kind x e.st) in
    let q : add_at s (min (length x) 24) 1 ≡ add_at (add_at s (length (text kind x e.st)) 1) 47 (down_colour e.mode 0) =
    ap (λ k. add_at s k 1) n
    ∙ sym (ap (add_at (add_at s (length (text kind x e.st)) 1) 47) (down-zero e.mode) ∙ add-zero-at (add_at s (length (text kind x e.st)) 1) 47) in
    λ i. record { st = q i; mode = e.mode; phase = Down }

-- ---- the blocks of a message, of either kind
abbrev pub end_of : Kind → List (List ℕ) → ℕ → Duplex → Duplex
end_of Seal = enc_end
end_of Open = dec_end

abbrev pub out_of : Kind → List (List ℕ) → ℕ → Duplex → List ℕ
out_of Seal = enc_out
out_of Open = dec_out

module _ (cu : ℕ) (d : Duplex) where
  end-nil : (kind : Kind) → end_of kind [] cu d ≡ d
  unfolding enc_end dec_end
  end-nil Seal = refl
  end-nil Open = refl

  out-nil : (kind : Kind) → out_of kind [] cu d ≡ []
  unfolding enc_out dec_out
  out-nil Seal = refl
  out-nil Open = refl

  end-cons :
      (kind : Kind) (b : List ℕ) (bs : List (List ℕ))
      → end_of kind (b ∷ bs) cu d ≡ end_of kind bs 0 (down (up d cu) (text kind b (up d cu).st) 0)
  unfolding enc_end dec_end
  end-cons Seal b bs = refl
  end-cons Open b bs = refl

  out-cons :
      (kind : Kind) (b : List ℕ) (bs : List (List ℕ))
      → out_of kind (b ∷ bs) cu d ≡ add_front b (up d cu).st ++ out_of kind bs 0 (down (up d cu) (text kind b (up d cu).st) 0)
  unfolding enc_out dec_out
  out-cons Seal b bs = refl
  out-cons Open b bs = refl

-- what was fed is these blocks, of which the last is not closed yet
record Whole (kind : Kind) (f : Progress) (bs : List (List ℕ)) (cu : ℕ) (d : Duplex) : Type 0 where
  end : close_block f.place f.duplex ≡ end_of kind bs cu d
  out : f.bytes ≡ out_of kind bs cu d
  ups : f.spent ≡ length bs
  some : 0 < f.place

abbrev Blocks : Kind → List ℕ → Type 0
Blocks kind m =
    0 < length m
    → (p : ℕ) (d c : Duplex) (cu : ℕ) → is_open p ≡ false → open_block p d ≡ up c cu → Whole kind (full kind p d m) (cuts 24 m) cu c

open-some : (p : ℕ) (d : Duplex) → 0 < p → open_block p d ≡ up (close_block p d) 0
unfolding open_block
open-some zero d h = absurd (not-suc-le-zero h)
open-some (suc p) d h = refl

-- a block, and the others after it
module _ (kind : Kind) (x : List ℕ) (cu : ℕ) (c : Duplex) (h : 0 < length x) (g : length x ≤ 24) where
  then-blocks :
      (y : List ℕ) → (0 < length y → length x ≡ 24) → Blocks kind y
      → Whole kind (joined (block_at kind (up c cu) x) (full kind (length x) (block_at kind (up c cu) x).duplex y)) (x ∷ cuts 24 y) cu c
  unfolding full
  then-blocks [] k ih =
      let n : cuts 24 [] ≡ [] = cuts-nil 24 [] (lit≤ tt) in
      let e = up c cu in
      record {
        end = closed kind e x g ∙ sym (ap (λ bs. end_of kind (x ∷ bs) cu c) n ∙ end-cons cu c kind x [] ∙ end-nil _ _ kind);
        out = sym (ap (λ bs. out_of kind (x ∷ bs) cu c) n ∙ out-cons cu c kind x [] ∙ ap (λ o. add_front x e.st ++ o) (out-nil _ _ kind));
        ups = sym (ap (λ (bs : List (List ℕ)). suc (length bs)) n);
        some = h;
      }
  then-blocks (b ∷ y) k ih =
      let e = up c cu in
      let l : length x ≡ 24 = k (omega arith) in
      let d = (block_at kind e x).duplex in
      let q : open_block (length x) d ≡ up (down e (text kind x e.st) 0) 0 = open-some (length x) d h ∙ ap (λ a. up a 0) (closed kind e x g) in
      let w = ih (omega arith) (length x) d (down e (text kind x e.st) 0) 0 (ap is_open l) q in
      record {
        end = w.end ∙ sym (end-cons cu c kind x (cuts 24 (b ∷ y)));
        out = ap (λ o. add_front x e.st ++ o) w.out ∙ sym (out-cons cu c kind x (cuts 24 (b ∷ y)));
        ups = omega (arith, w.ups);
        some = w.some;
      }

all_blocks : (kind : Kind) (m : List ℕ) → Blocks kind m
all_blocks kind =
    by_blocks (Blocks kind) (λ h. absurd (not-suc-le-zero h))
    (λ m k h e ih _ p d c cu s o.
    let x = take k m in
    let y = drop k m in
    let l : length x ≡ k = length-take-le k m (omega arith) in
    let n : length y ≡ length m - k = length-drop k m in
    let g : length x ≤ 24 = omega arith in
    let f : full kind p d x ≡ block_at kind (up c cu) x =
    block-is kind x p d s (omega arith) g (rw (o, up-length c cu) (lit≤ tt)) ∙ ap (λ a. block_at kind a x) o in
    let q : full kind p d m ≡ joined (block_at kind (up c cu) x) (full kind (length x) (block_at kind (up c cu) x).duplex y) =
    ap (full kind p d) (sym (take-append-drop k m))
    ∙ full-append kind x y p d
    ∙ ap (λ (a : Progress). joined a (full kind a.place a.duplex y)) f in
    rw (q, cuts-step 24 m k (lit< tt) h e) (then-blocks kind x cu c (omega arith) g y (λ z. omega arith) ih))

-- ---- the message's end
end-some : (rule : Rule) (p : ℕ) (d : Duplex) → 0 < p → (end_block rule p d ≡ close_block p d) × (end_ups rule p ≡ 0)
unfolding end_block end_ups
end-some rule zero d h = absurd (not-suc-le-zero h)
end-some Crate (suc p) d h = (refl, refl)
end-some Specification (suc p) d h = (refl, refl)

-- what was fed from the message's beginning on, and its end: the blocks that the rule gives the message
pub record Message (kind : Kind) (rule : Rule) (d : Duplex) (m : List ℕ) (f : Progress) : Type 0 where
  pub end : end_block rule f.place f.duplex ≡ end_of kind (message_blocks rule m) 0x80 d
  pub out : f.bytes ≡ out_of kind (message_blocks rule m) 0x80 d
  pub ups : f.spent + end_ups rule f.place ≡ length (message_blocks rule m)

message-some : (kind : Kind) (rule : Rule) (d : Duplex) (m : List ℕ) → 0 < length m → Message kind rule d m (full kind 0 d m)
unfolding open_block
message-some kind rule d m h =
    let f = full kind 0 d m in
    let w = all_blocks kind m h 0 d d 0x80 refl refl in
    let z = end-some rule f.place f.duplex w.some in
    let e = some_cuts rule m h in
    record {
      end = z.0 ∙ w.end ∙ ap (λ bs. end_of kind bs 0x80 d) (sym e);
      out = w.out ∙ ap (λ bs. out_of kind bs 0x80 d) (sym e);
      ups = rw e (omega (arith, w.ups, z.1));
    }

pub message-is : (kind : Kind) (rule : Rule) (d : Duplex) (m : List ℕ) → Message kind rule d m (full kind 0 d m)
unfolding full end_block end_ups message_blocks blocks cuts enc_end enc_out dec_end dec_out
message-is Seal Crate d [] = record { end = refl; out = refl; ups = refl }
message-is Open Crate d [] = record { end = refl; out = refl; ups = refl }
message-is Seal Specification d [] = record { end = refl; out = refl; ups = refl }
message-is Open Specification d [] = record { end = refl; out = refl; ups = refl }
message-is kind rule d (b ∷ m) = message-some kind rule d (b ∷ m) (omega arith)

crate-ups : (p : ℕ) → end_ups Crate p ≡ 0
unfolding end_ups
crate-ups zero = refl
crate-ups (suc p) = refl

-- an Up step for each block begun
pub full-ups : (kind : Kind) (d : Duplex) (m : List ℕ) → (full kind 0 d m).spent ≡ length (cuts 24 m)
unfolding message_blocks
full-ups kind d m =
    let f = full kind 0 d m in
    let z : end_ups Crate f.place ≡ 0 = crate-ups f.place in
    let u : f.spent + end_ups Crate f.place ≡ length (cuts 24 m) = (message-is kind Crate d m).ups in
    omega arith

-- the end makes none, but for the empty block
pub end-ups-none :
    (kind : Kind) (rule : Rule) (d : Duplex) (m : List ℕ) → (rule ≡ Crate) ⊎ (0 < length m) → end_ups rule (full kind 0 d m).place ≡ 0
unfolding open_block
end-ups-none kind rule d m (inl e) = rw e (crate-ups (full kind 0 d m).place)
end-ups-none kind rule d m (inr h) =
    (end-some rule (full kind 0 d m).place (full kind 0 d m).duplex (all_blocks kind m h 0 d d 0x80 refl refl).some).1

-- ---- how much a feed takes and spends
cons-spends :
    (a p : ℕ) (d : Duplex) (b u : ℕ) (g : Progress) (t : Bool) → leb u a ≡ t → g.spent ≤ a - u
    → (within t (and_then u b g) (stands p d)).spent ≤ a
cons-spends a p d b u g true e h = omega (arith, leb-true u a e)
cons-spends a p d b u g false e h = omega arith

-- never more than the allowance
pub feed-spends : (kind : Kind) (x : List ℕ) (a p : ℕ) (d : Duplex) → (feed kind a p d x).spent ≤ a
unfolding feed
feed-spends kind [] a p d = omega arith
feed-spends kind (b ∷ x) a p d =
    let u = ups_before (is_open p) in
    cons-spends a p d _ u _ (leb u a) refl (feed-spends kind x (a - u) _ _)

ups-le : (t : Bool) → ups_before t ≤ 1
ups-le true = lit≤ tt
ups-le false = lit≤ tt

cons-stops :
    (a p : ℕ) (d : Duplex) (b u n : ℕ) (g : Progress) (t : Bool) → leb u a ≡ t → u ≤ 1 → (length g.bytes < n → g.spent ≡ a - u)
    → length (within t (and_then u b g) (stands p d)).bytes < suc n
    → (within t (and_then u b g) (stands p d)).spent ≡ a
cons-stops a p d b u n g true e l ih h = omega (arith, leb-true u a e, ih (le_of_suc-le-suc h))
cons-stops a p d b u n g false e l ih h = omega (arith, leb-false u a e)

-- and all of it where bytes are left
pub feed-stops : (kind : Kind) (x : List ℕ) (a p : ℕ) (d : Duplex) → length (feed kind a p d x).bytes < length x → (feed kind a p d x).spent ≡ a
unfolding feed
feed-stops kind [] a p d h = absurd (not-suc-le-zero h)
feed-stops kind (b ∷ x) a p d h =
    let u = ups_before (is_open p) in
    cons-stops a p d _ u (length x) _ (leb u a) refl (ups-le (is_open p)) (feed-stops kind x (a - u) _ _) h

-- the bytes that the block begun last can still take
abbrev left : Bool → ℕ → ℕ
left true p = 24 - p
left false p = 0

left-least : (p : ℕ) → 0 < p → 24 - p ≤ left (is_open p) p
left-least p h = go (ltb p 24) refl
  where
    go : (t : Bool) → ltb p 24 ≡ t → 24 - p ≤ left (is_open p) p
    go true e = rw (lt-ltb 0 p h, e) (le_refl _)
    go false e = rw (lt-ltb 0 p h, e) (omega (arith, ltb-false p 24 e))

prompt-cons :
    (kind : Kind) (a p : ℕ) (d : Duplex) (b : ℕ) (x : List ℕ) (t : Bool) → is_open p ≡ t
    → ((a' q : ℕ) (e : Duplex) → 0 < q → min (length x) (24 - q + 24 * a') ≤ length (feed kind a' q e x).bytes)
    → min (suc (length x)) (left t p + 24 * a)
    ≤ length (within (leb (ups_before t) a) (fed t p d b (feed kind (a - ups_before t) (suc (place_in t p)) (after kind t p d b) x)) (stands p d)).bytes
prompt-cons kind a p d b x true s ih =
    let h : (ltb 0 p ≡ true) × (ltb p 24 ≡ true) = both_true (ltb 0 p) (ltb p 24) s in
    rw (le-leb 0 a (omega arith)) (omega (arith, ltb-true p 24 h.1, ih (a - 0) (suc p) (put kind p b d) (omega arith)))
prompt-cons kind zero p d b x false s ih = omega arith
prompt-cons kind (suc a) p d b x false s ih =
    rw (le-leb 1 (suc a) (omega arith)) (omega (arith, ih (suc a - 1) 1 (put kind 0 b (open_block p d)) (omega arith)))

feed-prompt : (kind : Kind) (x : List ℕ) (a p : ℕ) (d : Duplex) → min (length x) (left (is_open p) p + 24 * a) ≤ length (feed kind a p d x).bytes
unfolding feed
feed-prompt kind [] a p d = omega arith
feed-prompt kind (b ∷ x) a p d =
    prompt-cons kind a p d b x (is_open p) refl (λ a' q e h. omega (arith, left-least q h, feed-prompt kind x a' q e))

-- with an allowance of a: all of x, or 24 bytes for each Up of it
pub feed-takes : (kind : Kind) (x : List ℕ) (a p : ℕ) (d : Duplex) → min (length x) (24 * a) ≤ length (feed kind a p d x).bytes
feed-takes kind x a p d = omega (arith, feed-prompt kind x a p d)

-- ---- a place above 24 counts as 24
abbrev pub capped : Progress → Progress
capped f = record { duplex = f.duplex; place = min f.place 24; spent = f.spent; bytes = f.bytes }

close-cap : (p : ℕ) (d : Duplex) → close_block (min p 24) d ≡ close_block p d
unfolding close_block
close-cap p d =
    let q : min (min p 24) 24 ≡ min p 24 = omega arith in
    ap (λ k. record { st = add_at d.st k 1; mode = d.mode; phase = Down }) q

open-cap : (p : ℕ) (d : Duplex) → 24 ≤ p → open_block (min p 24) d ≡ open_block p d
open-cap p d h = open-some (min p 24) d (omega arith) ∙ ap (λ e. up e 0) (close-cap p d) ∙ sym (open-some p d (omega arith))

pub end-cap : (rule : Rule) (p : ℕ) (d : Duplex) → (end_block rule (min p 24) d ≡ end_block rule p d) × (end_ups rule (min p 24) ≡ end_ups rule p)
end-cap rule zero d = (refl, refl)
end-cap rule (suc p) d =
    let a = end-some rule (min (suc p) 24) d (omega arith) in
    let b = end-some rule (suc p) d (omega arith) in
    (a.0 ∙ close-cap (suc p) d ∙ sym b.0, a.1 ∙ sym b.1)

is-shut : (p : ℕ) → 24 ≤ p → is_open p ≡ false
is-shut p h = rw (lt-ltb 0 p (omega arith), le-ltb p 24 h)

next_place : (t : Bool) (p : ℕ) → is_open p ≡ t → suc (place_in t p) ≤ 24
next_place true p e = ltb-true p 24 (both_true (ltb 0 p) (ltb p 24) e).1
next_place false p e = lit≤ tt

within-place : (t : Bool) (u b p : ℕ) (d : Duplex) (g : Progress) → g.place ≤ 24 → p ≤ 24 → (within t (and_then u b g) (stands p d)).place ≤ 24
within-place true u b p d g h k = h
within-place false u b p d g h k = k

feed-place : (kind : Kind) (x : List ℕ) (a p : ℕ) (d : Duplex) → p ≤ 24 → (feed kind a p d x).place ≤ 24
unfolding feed
feed-place kind [] a p d h = h
feed-place kind (b ∷ x) a p d h =
    within-place (leb (ups_before (is_open p)) a) _ _ p d _ (feed-place kind x _ _ _ (next_place (is_open p) p refl)) h

capped-within :
    (t : Bool) (f : Progress) (p : ℕ) (d : Duplex) → f.place ≤ 24 → capped (within t f (stands p d)) ≡ within t f (stands (min p 24) d)
capped-within true f p d h =
    let q : min f.place 24 ≡ f.place = omega arith in
    λ i. record { duplex = f.duplex; place = q i; spent = f.spent; bytes = f.bytes }
capped-within false f p d h = refl

-- a byte that begins a block, from the duplex after Up
abbrev begins : Kind → ℕ → ℕ → List ℕ → Duplex → Progress
begins kind a b x e = and_then 1 (wrote 0 b e) (feed kind (a - 1) 1 (put kind 0 b e) x)

feed-shut :
    (kind : Kind) (a b : ℕ) (x : List ℕ) (p : ℕ) (d : Duplex) → is_open p ≡ false
    → feed kind a p d (b ∷ x) ≡ within (leb 1 a) (begins kind a b x (open_block p d)) (stands p d)
unfolding feed
feed-shut kind a b x p d e =
    ap (λ t. within (leb (ups_before t) a) (fed t p d b (feed kind (a - ups_before t) (suc (place_in t p)) (after kind t p d b) x)) (stands p d)) e

feed-over : (kind : Kind) (x : List ℕ) (a p : ℕ) (d : Duplex) → 24 ≤ p → capped (feed kind a p d x) ≡ feed kind a (min p 24) d x
unfolding feed
feed-over kind [] a p d h = refl
feed-over kind (b ∷ x) a p d h =
    ap capped (feed-shut kind a b x p d (is-shut p h))
    ∙ capped-within (leb 1 a) (begins kind a b x (open_block p d)) p d (feed-place kind x (a - 1) 1 (put kind 0 b (open_block p d)) (lit≤ tt))
    ∙ ap (λ e. within (leb 1 a) (begins kind a b x e) (stands (min p 24) d)) (sym (open-cap p d h))
    ∙ sym (feed-shut kind a b x (min p 24) d (is-shut (min p 24) (omega arith)))

pub feed-cap : (kind : Kind) (x : List ℕ) (a p : ℕ) (d : Duplex) → capped (feed kind a p d x) ≡ feed kind a (min p 24) d x
feed-cap kind x a p d = go (ltb p 24) refl
  where
    go : (t : Bool) → ltb p 24 ≡ t → capped (feed kind a p d x) ≡ feed kind a (min p 24) d x
    go true e =
        let q : min p 24 ≡ p = omega (arith, ltb-true p 24 e) in
        let f = feed kind a p d x in
        let h : f.place ≤ 24 = feed-place kind x a p d (omega (arith, ltb-true p 24 e)) in
        capped-within true f p d h ∙ ap (λ k. feed kind a k d x) (sym q)
    go false e = feed-over kind x a p d (ltb-false p 24 e)

-- ---- the Up steps of the one-call form: one for each block, and one for the tag
block-ups : (cu : ℕ) (bs : List (List ℕ)) (ss : List Step) → ups (block_steps cu bs ++ ss) ≡ length bs + ups ss
unfolding ups block_steps
block-ups cu [] ss = omega arith
block-ups cu (b ∷ bs) ss = omega (arith, block-ups 0 bs ss)

pub only-ups : (cu : ℕ) (bs : List (List ℕ)) → ups (block_steps cu bs) ≡ length bs
unfolding ups block_steps
only-ups cu [] = refl
only-ups cu (b ∷ bs) = ap suc (only-ups 0 bs)

tag-ups : (m : Mode) → m ≡ Keyed → ups (squeeze_steps m 0x40 16) ≡ 1
unfolding ups squeeze_steps squeeze_more_steps next_steps sizes
tag-ups m e = rw e

pub seal-ups : (rule : Rule) (m : Mode) (p : Phase) (x : List ℕ) → m ≡ Keyed → ups (steps rule m p (seals x)) ≡ length (message_blocks rule x) + 1
unfolding steps
seal-ups rule m p x e = block-ups 0x80 (message_blocks rule x) (squeeze_steps m 0x40 16) ∙ ap (λ n. length (message_blocks rule x) + n) (tag-ups m e)

-- messages of one length have as many blocks
cuts-count : (x y : List ℕ) → length x ≡ length y → length (cuts 24 x) ≡ length (cuts 24 y)
cuts-count =
    by_blocks (λ (x : List ℕ). (y : List ℕ) → length x ≡ length y → length (cuts 24 x) ≡ length (cuts 24 y))
    (λ y e. rw (cuts-nil 24 [] (lit≤ tt), cuts-nil 24 y (omega arith)))
    (λ x k h q ih y e.
    rw (cuts-step 24 x k (lit< tt) h q, cuts-step 24 y k (lit< tt) (omega arith) (omega arith))
    (ap suc (ih (drop k y) (rw (length-drop k x, length-drop k y) (omega arith)))))

pub same_count : (rule : Rule) (x y : List ℕ) → length x ≡ length y → length (message_blocks rule x) ≡ length (message_blocks rule y)
unfolding message_blocks blocks
same_count Crate x y e = cuts-count x y e
same_count Specification [] [] e = refl
same_count Specification [] (b ∷ y) e = absurd (omega arith)
same_count Specification (a ∷ x) [] e = absurd (omega arith)
same_count Specification (a ∷ x) (b ∷ y) e = cuts-count (a ∷ x) (b ∷ y) e
