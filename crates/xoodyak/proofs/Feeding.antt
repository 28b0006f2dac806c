-- Feeding a message: one run inside a block after the other, what a refusal hands back, and the end.
use mathlib.Core.Path.{◌≡◌, refl, sym, ap, ◌∙◌}
use mathlib.Core.Bool.{Bool, true, false}
use mathlib.Core.List.{List, [], ◌∷◌, ◌++◌, append_assoc, append-nil}
use Prim.Native.Nat.{ℕ, zero, suc, ◌+◌, ◌-◌, ◌<◌, ◌≤◌, min}
use native.Mathlib.Nat.{not-suc-le-zero, add-zero, zero-add, add_assoc, sub-zero}
use native.Mathlib.Omega.{arith}
use lib.Dec.{leb, ltb, lit<}
use lib.ListN.{length, take, drop, take-append-drop}
use lib.Seq.{length-take-le}
use borrow.Author.Tests.{ltb-true, lt-ltb, le-leb}
use borrow.Rule.Slice.PartMut.{put_mid, Post-is, drop_put}
use Rattle.laws.proofs.Lists.{length-mid, take-put-end}
use Rattle.xoodyak.specs.declared.cyclist.Duplex.{Duplex}
use Rattle.xoodyak.specs.declared.Rule.{Rule}
use Rattle.xoodyak.specs.declared.Rule.TheVariants.{Crate, Specification}
use Rattle.xoodyak.specs.declared.feed.Kind.{Kind}
use Rattle.xoodyak.specs.Cyclist.{up}
use Rattle.xoodyak.specs.declared.Session.{Session}
use Rattle.xoodyak.specs.declared.numbers.Refusal.{Refusal}
use Rattle.xoodyak.specs.Refusals.{number_of, missing_of}
use Rattle.xoodyak.proofs.Settle.{number-pos}
use Rattle.xoodyak.specs.Calls.{no_tag, both}
use Rattle.xoodyak.specs.Feed.{is_open, close_block, open_block, put, wrote, run_end, run_out, Progress, stands, ups_before, place_in, block_for, feed, end_block, end_ups, Portion, portioned}

-- ---- the place of a byte
pub open_is : (p : ℕ) → (p ≡ 0 → ⊥) → ltb p 24 ≡ is_open p
open_is p h = let l : 0 < p = omega arith in rw (lt-ltb 0 p l)

open-within : (p : ℕ) → 0 < p → p < 24 → is_open p ≡ true
open-within p h g = rw (lt-ltb 0 p h, lt-ltb p 24 g)

pub place-later : (p : ℕ) (d : Duplex) → (p ≡ 0 → ⊥) → open_block p d ≡ up (close_block p d) 0
unfolding open_block
place-later zero d h = absurd (h refl)
place-later (suc p) d h = refl

pub end_later : (rule : Rule) (p : ℕ) (d : Duplex) → (p ≡ 0 → ⊥) → end_block rule p d ≡ close_block p d
unfolding end_block
end_later rule zero d h = absurd (h refl)
end_later Crate (suc p) d h = refl
end_later Specification (suc p) d h = refl

pub ups-later : (rule : Rule) (p : ℕ) → (p ≡ 0 → ⊥) → 0 ≡ end_ups rule p
unfolding end_ups
ups-later rule zero h = absurd (h refl)
ups-later Crate (suc p) h = refl
ups-later Specification (suc p) h = refl

pub ups-few : (rule : Rule) (p : ℕ) → end_ups rule p ≤ 1
unfolding end_ups
ups-few Crate zero = omega arith
ups-few Specification zero = omega arith
ups-few Crate (suc p) = omega arith
ups-few Specification (suc p) = omega arith

pub length-run_out : (kind : Kind) (p : ℕ) (d : Duplex) (x : List ℕ) → length (run_out kind p d x) ≡ length x
unfolding run_out
length-run_out kind p d [] = refl
length-run_out kind p d (b ∷ x) = ap suc (length-run_out kind (suc p) (put kind p b d) x)

-- ---- a run inside a block
-- what came before: so many Up steps, and these bytes
abbrev pub past : ℕ → List ℕ → Progress → Progress
past ups y f = record { duplex = f.duplex; place = f.place; spent = ups + f.spent; bytes = y ++ f.bytes }

pub past-none : (f : Progress) → f ≡ past 0 [] f
past-none f = rw zero-add

past-past : (s u : ℕ) (y z : List ℕ) (f : Progress) → past s y (past u z f) ≡ past (s + u) (y ++ z) f
past-past s u y z f = rw (add_assoc, append_assoc)

-- the block has a byte already, so that it stays open up to the run's end
feed-run : (kind : Kind) (a q : ℕ) (d : Duplex) (b x : List ℕ) → 0 < q → q + length b ≤ 24
    → feed kind a q d (b ++ x) ≡ past 0 (run_out kind q d b) (feed kind a (q + length b) (run_end kind q d b) x)
unfolding feed run_out run_end
feed-run kind a q d [] x h g = rw add-zero (past-none _)
feed-run kind a q d (c ∷ b) x h g =
    let e : q + suc (length b) ≡ suc q + length b = omega arith in
    rw (open-within q h (omega arith), le-leb 0 a (omega arith), sub-zero, e)
    (ap (past 0 (wrote q c d ∷ [])) (feed-run kind a (suc q) (put kind q c d) b x (omega arith) (omega arith))
    ∙ rw zero-add)

module _ (kind : Kind) (a p : ℕ) (d : Duplex) (fits : Bool) (ef : fits ≡ is_open p) (h : leb (ups_before fits) a ≡ true) where
  feed-turn : (b x : List ℕ) (k : ℕ) → length b ≡ k → 0 < k → place_in fits p + k ≤ 24
      → feed kind a p d (b ++ x)
      ≡ past (ups_before fits) (run_out kind (place_in fits p) (block_for fits p d) b)
      (feed kind (a - ups_before fits) (place_in fits p + k) (run_end kind (place_in fits p) (block_for fits p d) b) x)
  unfolding feed run_out run_end
  feed-turn [] x k e l g = let z : 0 < 0 = omega arith in absurd (not-suc-le-zero z)
  feed-turn (c ∷ b) x k e l g =
      let q = place_in fits p in
      let t = block_for fits p d in
      let j : q + k ≡ suc q + length b = omega arith in
      rw (← ef, h, j)
      (ap (past (ups_before fits) (wrote q c t ∷ [])) (feed-run kind (a - ups_before fits) (suc q) (put kind q c t) b x (omega arith) (omega arith))
      ∙ rw zero-add)

-- ---- the loop over runs
both-split : (s t : Bool) → both s t ≡ true → (s ≡ true) × (t ≡ true)
both-split true t e = (refl, e)
both-split false t e = (e, cc)

-- a block has room for the byte
pub place-within : (fits : Bool) (p : ℕ) → fits ≡ is_open p → place_in fits p < 24
place-within true p e = ltb-true _ _ (both-split (ltb 0 p) _ (sym e)).1
place-within false p e = lit< tt

-- while it goes on, a byte is left and its Up is within the allowance
module _ (going fits : Bool) (left a : ℕ) (e : going ≡ both (ltb 0 left) (leb (ups_before fits) a)) (g : going ≡ true) where
  pub going-left : 0 < left
  going-left = ltb-true _ _ (both-split (ltb 0 left) _ (sym e ∙ g)).0

  pub going-allowed : leb (ups_before fits) a ≡ true
  going-allowed = (both-split (ltb 0 left) _ (sym e ∙ g)).1

-- a turn goes from i to e: the Up steps u before it, the run from place q to the duplex t, and y in the output o
module _ (kind : Kind) (a p spent i e q u : ℕ) (fits : Bool) (d t : Duplex) (x o o₀ y : List ℕ)
    (ef : fits ≡ is_open p) (h : i < length x) (g : leb (ups_before fits) (a - spent) ≡ true) (lo : length x ≤ length o)
    (eq : q ≡ place_in fits p) (eu : u ≡ ups_before fits) (ee : e ≡ i + min (24 - q) (length x - i))
    (et : t ≡ run_end kind (place_in fits p) (block_for fits p d) (take (e - i) (drop i x)))
    (ey : y ≡ run_out kind (place_in fits p) (block_for fits p d) (take (e - i) (drop i x)))
  where
    room : (i < e) × (e ≤ length x) × (place_in fits p + (e - i) ≤ 24)
    room = let z = place-within fits p ef in (omega arith, omega arith, omega arith)

    len-y : length y ≡ e - i
    len-y = let r = room in ap length ey ∙ length-run_out kind (place_in fits p) (block_for fits p d) (take (e - i) (drop i x)) ∙ length-mid i e x (omega arith)

    pub feed-turned : drop i o ≡ drop i o₀
        → (drop e (put_mid i (e - i) o y) ≡ drop e o₀)
        × (past (spent + u) (take e (put_mid i (e - i) o y)) (feed kind (a - (spent + u)) (q + (e - i)) t (drop e x)) ≡ past spent (take i o) (feed kind (a - spent) p d (drop i x)))
    feed-turned s =
        let r = room in
        let b = take (e - i) (drop i x) in
        let past-i : (l : List ℕ) → drop (e - i) (drop i l) ≡ drop e l = λ (l : List ℕ). Post-is i e l (omega arith) in
        let split : drop i x ≡ b ++ drop e x = sym (take-append-drop (e - i) (drop i x)) ∙ ap (λ (l : List ℕ). b ++ l) (past-i x) in
        let k : a - (spent + ups_before fits) ≡ a - spent - ups_before fits = omega arith in (
          drop_put i e o y (omega arith) (omega arith) len-y ∙ sym (past-i o) ∙ ap (drop (e - i)) s ∙ past-i o₀,
          rw (take-put-end i e o y (omega arith) (omega arith) len-y, et, ey, eq, eu, k)
              (sym
              (ap (past spent (take i o))
              (ap (feed kind (a - spent) p d) split
              ∙ feed-turn kind (a - spent) p d fits ef g b (drop e x) (e - i) (length-mid i e x (omega arith)) (omega arith) (omega arith))
              ∙ past-past spent (ups_before fits) (take i o) _ _)),
        )

-- where it does not go on, the rest changes nothing
pub feed-stops : (kind : Kind) (a p : ℕ) (d : Duplex) (x : List ℕ) (fits going : Bool) → fits ≡ is_open p
    → going ≡ both (ltb 0 (length x)) (leb (ups_before fits) a) → going ≡ false → feed kind a p d x ≡ stands p d
unfolding feed
feed-stops kind a p d [] fits going ef e g = refl
feed-stops kind a p d (b ∷ x) fits going ef e g =
    let z : 0 < suc (length x) = omega arith in
    let n : leb (ups_before fits) a ≡ false = rw (lt-ltb 0 (suc (length x)) z) at (sym e ∙ g) in
    rw (← ef, n)

-- what the loop leaves, where f is the whole
pub feed-done : (kind : Kind) (a p spent i : ℕ) (d : Duplex) (x o o₀ : List ℕ) (f : Progress) → feed kind (a - spent) p d (drop i x) ≡ stands p d
    → i ≤ length o → drop i o ≡ drop i o₀ → past spent (take i o) (feed kind (a - spent) p d (drop i x)) ≡ f
    → ((d ≡ f.duplex) × ((p ≡ f.place) × ((i ≡ length f.bytes) × (spent ≡ f.spent)))) × (o ≡ f.bytes ++ drop (length f.bytes) o₀)
feed-done kind a p spent i d x o o₀ f g h s e =
    let l = length-take-le i o h in
    let w : record { duplex = d; place = p; spent = spent; bytes = take i o } ≡ f = rw (g, append-nil, add-zero) at e in
    rw (← w) ((refl, (refl, (sym l, refl))), rw (l, ← s) (sym (take-append-drop i o)))

-- ---- a call that asked a check, which refused it with r or let it through
abbrev denied : ℕ → ℕ → Session → List ℕ → Portion
denied n k s o = record { session = s; number = n; missing = k; tag = no_tag; bytes = o; taken = 0; spent = 0 }

other-denied : (m n k : ℕ) (s : Session) (o : List ℕ) (x : Portion) → (m ≡ 0 → ⊥) → m ≡ n → portioned n k s o x ≡ denied m k s o
other-denied m zero k s o x h e = absurd (h e)
other-denied m (suc n) k s o x h e = rw e

pub portion-denied : (r : Refusal) (n k : ℕ) → (number_of r ≡ n) × (missing_of r ≡ k) → (s : Session) (o : List ℕ) (x : Portion)
    → portioned n k s o x ≡ denied (number_of r) (missing_of r) s o
portion-denied r n k e s o x = rw e.1 (other-denied (number_of r) n k s o x (number-pos r) e.0)

pub portion-taken : (n : ℕ) → 0 ≡ n → (k : ℕ) (s : Session) (o : List ℕ) (x : Portion) → portioned n k s o x ≡ x
portion-taken n z k s o x = ap (λ (j : ℕ). portioned j k s o x) (sym z)
