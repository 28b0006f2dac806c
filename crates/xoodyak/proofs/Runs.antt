-- A run inside a block, all its bytes at once, and one that is a whole block, from its Up on.
use mathlib.Core.Path.{◌≡◌, refl, sym, ap, ap₂, ◌∙◌}
use mathlib.Core.Bool.{false}
use mathlib.Core.List.{List, [], ◌∷◌, ◌++◌, append_assoc}
use Prim.Native.Nat.{ℕ, zero, suc, ◌+◌, ◌-◌, ◌≤◌, min}
use native.Mathlib.Nat.{not-suc-le-zero, le_of_suc-le-suc}
use native.Mathlib.Omega.{arith}
use lib.ListN.{length, get_or, set, take, drop, length-append, length-drop, take-append-drop}
use lib.Seq.{set_at, get_or_at, length-take-le}
use borrow.Author.Tests.{ltb-false}
use borrow.Rule.Slice.PartMut.{put_mid}
use Rattle.laws.specs.Words.{◌⊕◌}
use Rattle.laws.specs.Lists.{add_front, add_at}
use Rattle.laws.proofs.Lists.{add_front-nil, add_front-take, length-add_front}
use Rattle.xoodoo.specs.Xoodoo.{xoodoo}
use Rattle.xoodyak.specs.declared.cyclist.Mode.{Mode}
use Rattle.xoodyak.specs.declared.cyclist.Phase.{Phase}
use Rattle.xoodyak.specs.declared.cyclist.Phase.TheVariants.{Up}
use Rattle.xoodyak.specs.declared.cyclist.Duplex.{Duplex}
use Rattle.xoodyak.specs.declared.feed.Kind.{Kind}
use Rattle.xoodyak.specs.declared.feed.Kind.TheVariants.{Seal, Open}
use Rattle.xoodyak.specs.Cyclist.{up}
use Rattle.xoodyak.specs.Feed.{is_open, close_block, open_block, plain_of, put, run_end, run_out}
use Rattle.xoodyak.proofs.BlockWords.{held, up_is}
use Rattle.xoodyak.proofs.Feeding.{open_is, place-later}

-- what goes into Down of bytes that meet Up's answer
abbrev pub text : Kind → List ℕ → List ℕ → List ℕ
text Seal x answer = x
text Open x answer = add_front x answer

pub text-length : (kind : Kind) (x answer : List ℕ) → length (text kind x answer) ≡ length x
text-length Seal x answer = refl
text-length Open x answer = length-add_front x answer

text-nil : (kind : Kind) (rest : List ℕ) → add_front rest (text kind [] rest) ≡ rest
text-nil Seal rest = add_front-nil rest
text-nil Open rest = add_front-nil rest

text-cons :
    (kind : Kind) (b a : ℕ) (x rest : List ℕ)
    → add_front (a ∷ rest) (text kind (b ∷ x) (a ∷ rest)) ≡ (a ⊕ plain_of kind b a) ∷ add_front rest (text kind x rest)
text-cons Seal b a x rest = refl
text-cons Open b a x rest = refl

-- the bytes of a run: those before its place stay
module _ (m : Mode) (ph : Phase) where
  put-at :
      (kind : Kind) (pre : List ℕ) (a : ℕ) (rest : List ℕ) (p b : ℕ) → length pre ≡ p
      → put kind p b (held ph m (pre ++ (a ∷ rest))) ≡ held ph m ((pre ++ ((a ⊕ plain_of kind b a) ∷ [])) ++ rest)
  unfolding put
  put-at kind pre a rest p b e =
      let s = pre ++ (a ∷ rest) in
      let v : get_or s p 0 ⊕ plain_of kind b (get_or s p 0) ≡ a ⊕ plain_of kind b a = ap (λ c. c ⊕ plain_of kind b c) (get_or_at pre a rest 0 p e) in
      ap (held ph m) (ap (set s p) v ∙ set_at pre a rest (a ⊕ plain_of kind b a) p e ∙ sym (append_assoc pre ((a ⊕ plain_of kind b a) ∷ []) rest))

  pub run-out :
      (kind : Kind) (x pre rest : List ℕ) (p : ℕ) → length pre ≡ p → length x ≤ length rest
      → run_out kind p (held ph m (pre ++ rest)) x ≡ add_front x rest
  unfolding run_out
  run-out kind [] pre rest p e h = refl
  run-out kind (b ∷ x) pre [] p e h = absurd (not-suc-le-zero h)
  run-out kind (b ∷ x) pre (a ∷ rest) p e h =
      let v = a ⊕ plain_of kind b a in
      let l : length (pre ++ (v ∷ [])) ≡ suc p = length-append pre (v ∷ []) ∙ omega arith in
      ap₂ ◌∷◌ (ap (λ c. b ⊕ c) (get_or_at pre a rest 0 p e))
      (ap (λ d. run_out kind (suc p) d x) (put-at kind pre a rest p b e) ∙ run-out kind x (pre ++ (v ∷ [])) rest (suc p) l (le_of_suc-le-suc h))

  pub run-end :
      (kind : Kind) (x pre rest : List ℕ) (p : ℕ) → length pre ≡ p → length x ≤ length rest
      → run_end kind p (held ph m (pre ++ rest)) x ≡ held ph m (pre ++ add_front rest (text kind x rest))
  unfolding run_end
  run-end kind [] pre rest p e h = ap (λ l. held ph m (pre ++ l)) (sym (text-nil kind rest))
  run-end kind (b ∷ x) pre [] p e h = absurd (not-suc-le-zero h)
  run-end kind (b ∷ x) pre (a ∷ rest) p e h =
      let v = a ⊕ plain_of kind b a in
      let l : length (pre ++ (v ∷ [])) ≡ suc p = length-append pre (v ∷ []) ∙ omega arith in
      ap (λ d. run_end kind (suc p) d x) (put-at kind pre a rest p b e)
      ∙ run-end kind x (pre ++ (v ∷ [])) rest (suc p) l (le_of_suc-le-suc h)
      ∙ ap (held ph m) (append_assoc pre (v ∷ []) (add_front rest (text kind x rest)) ∙ ap (λ r. pre ++ r) (sym (text-cons kind b a x rest)))

-- what is added to the front of a list is added to its first k bytes, where it has no more
front-part : (k : ℕ) (r x : List ℕ) → length x ≤ k → add_front (take k r) x ++ drop k r ≡ add_front r x
front-part k r [] h = ap (λ (l : List ℕ). l ++ drop k r) (add_front-nil (take k r)) ∙ take-append-drop k r ∙ sym (add_front-nil r)
front-part zero r (b ∷ x) h = absurd (not-suc-le-zero h)
front-part (suc k) [] (b ∷ x) h = refl
front-part (suc k) (a ∷ r) (b ∷ x) h = ap (λ (l : List ℕ). (a ⊕ b) ∷ l) (front-part k r x (le_of_suc-le-suc h))

-- a run in the bytes from p to e: y is written, v is added to them, and z is what they become
module _ (kind : Kind) (p e : ℕ) (d : Duplex) (x : List ℕ) (l : e ≡ p + length x) (h : e ≤ length d.st) where
  split : d ≡ held d.phase d.mode (take p d.st ++ drop p d.st)
  split = ap (held d.phase d.mode) (sym (take-append-drop p d.st))

  long : length x ≤ length (drop p d.st)
  long = rw length-drop (omega arith)

  before : length (take p d.st) ≡ p
  before = length-take-le p d.st (omega arith)

  met : add_front x (take (e - p) (drop p d.st)) ≡ add_front x (drop p d.st)
  met = let n : e - p ≡ length x = omega arith in rw n (add_front-take x (drop p d.st))

  text-part : (kind : Kind) → text kind x (take (e - p) (drop p d.st)) ≡ text kind x (drop p d.st)
  text-part Seal = refl
  text-part Open = met

  pub part_out : {y : List ℕ} → y ≡ add_front x (take (e - p) (drop p d.st)) → y ≡ run_out kind p d x
  part_out ey = ey ∙ met ∙ sym (ap (λ t. run_out kind p t x) split ∙ run-out d.mode d.phase kind x (take p d.st) (drop p d.st) p before long)

  pub part_end : {z v : List ℕ} → v ≡ text kind x (take (e - p) (drop p d.st)) → z ≡ add_front (take (e - p) (drop p d.st)) v
      → held d.phase d.mode (put_mid p (e - p) d.st z) ≡ run_end kind p d x
  part_end {z} {v} ev ez =
      let s = d.st in
      let n : length v ≤ e - p = rw (ev, text-length kind x (take (e - p) (drop p s))) (omega arith) in
      ap (λ (r : List ℕ). held d.phase d.mode (take p s ++ r))
      (ap (λ (r : List ℕ). r ++ drop (e - p) (drop p s)) ez ∙ front-part (e - p) (drop p s) v n ∙ ap (add_front (drop p s)) (ev ∙ text-part kind))
      ∙ sym (ap (λ t. run_end kind p t x) split ∙ run-end d.mode d.phase kind x (take p s) (drop p s) p before long)

-- ---- a block's Up, where the one before is full or there is none
opened : (p : ℕ) (d : Duplex) → open_block p d ≡ held Up d.mode (open_block p d).st
unfolding open_block close_block up
opened zero d = refl
opened (suc p) d = refl

pub open-later : (p : ℕ) (d : Duplex) → is_open p ≡ false → (p ≡ 0 → ⊥) → (open_block p d).st ≡ xoodoo (add_at d.st 24 1)
unfolding close_block
open-later p d e h =
    let g : 24 ≤ p = ltb-false p 24 (open_is p h ∙ e) in
    let n : min p 24 ≡ 24 = omega arith in
    ap (λ (t : Duplex). t.st) (place-later p d h ∙ up_is d.mode (add_at d.st (min p 24) 1)) ∙ rw n

-- a whole block that meets s, the bytes after its Up
module _ (kind : Kind) (p : ℕ) (d : Duplex) (x s : List ℕ) (e : s ≡ (open_block p d).st) (l : length x ≤ length s) where
  begun : open_block p d ≡ held Up d.mode s
  begun = opened p d ∙ ap (held Up d.mode) (sym e)

  pub whole-end : {r : List ℕ} → r ≡ add_front s (text kind x s) → held Up d.mode r ≡ run_end kind 0 (open_block p d) x
  whole-end er = ap (held Up d.mode) er ∙ sym (run-end d.mode Up kind x [] s 0 refl l) ∙ ap (λ t. run_end kind 0 t x) (sym begun)

  pub whole_out : {y : List ℕ} → y ≡ add_front x s → y ≡ run_out kind 0 (open_block p d) x
  whole_out ey = ey ∙ sym (run-out d.mode Up kind x [] s 0 refl l) ∙ ap (λ t. run_out kind 0 t x) (sym begun)
