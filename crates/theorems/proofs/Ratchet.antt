-- Ratchet: bytes 0 to 15 become zero, and two states end equal exactly where they agreed past them.
use mathlib.Core.Path.{◌≡◌, refl, sym, ap, ap₂, ◌∙◌}
use mathlib.Core.Bool.{false}
use mathlib.Core.List.{List, [], ◌∷◌, ◌++◌, append-nil}
use mathlib.Core.Logic.{◌↔◌}
use Prim.Native.Nat.{ℕ, zero, suc, ◌-◌, ◌≤◌, min}
use native.Mathlib.Nat.{not-suc-le-zero, le_of_suc-le-suc}
use lib.Dec.{lit<, lit≤}
use lib.ListN.{length, replicate, take, drop}
use lib.Seq.{length-take-le}
use Rattle.laws.specs.Lists.{add_front, add_at}
use Rattle.laws.proofs.Words.{⊕-self}
use Rattle.laws.proofs.Lists.{add_front-nil}
use Rattle.laws.proofs.Adding.{add_at-back}
use Rattle.laws.proofs.Blocks.{sizes-zero}
use Rattle.xoodoo.specs.Xoodoo.{xoodoo}
use Rattle.xoodoo.proofs.Inverse.{xoodoo-length}
use Rattle.xoodyak.specs.declared.cyclist.Mode.{Mode}
use Rattle.xoodyak.specs.declared.cyclist.Mode.TheVariants.{Hash, Keyed}
use Rattle.xoodyak.specs.declared.cyclist.Phase.TheVariants.{Down}
use Rattle.xoodyak.specs.declared.cyclist.Duplex.{Duplex}
use Rattle.xoodyak.specs.declared.Session.{Session}
use Rattle.xoodyak.specs.Cyclist.{squeeze_rate, up_bytes, down_bytes, up, down, ready, absorb_blocks, absorb, nexts_end, nexts_out, squeeze_more_end, squeeze_more_out, squeeze_end, squeeze_out, ratchet}
use Rattle.xoodyak.specs.Ups.{ratchet_ups}
use Rattle.xoodyak.specs.Numbers.{keyed_number}
use Rattle.xoodyak.specs.Calls.{idle, no_tag, taken, settle, onward, mode, ratchet_of}
use Rattle.theorems.proofs.Crypt.{up-length, add-zero-at, one_block, keyed-taken}
use Rattle.theorems.proofs.Rules.{ratchet-rule}

-- ---- 16 bytes are squeezed by one Up, in both modes
rate-16 : (m : Mode) → 16 - squeeze_rate m ≤ 0
rate-16 Hash = lit≤ tt
rate-16 Keyed = lit≤ tt

min-16 : (m : Mode) → min (squeeze_rate m) 16 ≡ 16
min-16 Hash = refl
min-16 Keyed = refl

module _ (d : Duplex) (cu : ℕ) where
  squeeze-16-end : squeeze_end d 16 cu ≡ up d cu
  unfolding squeeze_end squeeze_more_end nexts_end
  squeeze-16-end = rw (sizes-zero (squeeze_rate (up d cu).mode) (16 - squeeze_rate d.mode) (rate-16 d.mode))

  squeeze-16-out : squeeze_out d 16 cu ≡ take 16 (up d cu).st
  unfolding squeeze_out squeeze_more_out nexts_out
  squeeze-16-out =
      rw (sizes-zero (squeeze_rate (up d cu).mode) (16 - squeeze_rate d.mode) (rate-16 d.mode), min-16 d.mode) (append-nil _)

-- ---- so ratchet is one Up and one Down
ready_up : (d : Duplex) (cu : ℕ) → ready (up d cu) ≡ up d cu
unfolding ready up
ready_up d cu = refl

ratchet-is : (d : Duplex) → ratchet d ≡ down (up d 0x10) (take 16 (up d 0x10).st) 0
unfolding ratchet absorb absorb_blocks
ratchet-is d =
    let p = (up d 0x10).st in
    rw (squeeze-16-end d 0x10, squeeze-16-out d 0x10, one_block 16 (take 16 p) (lit< tt) (length-take-le 16 p (rw up-length (lit≤ tt))), ready_up d 0x10)

-- ---- its bytes
-- the front added to itself is zero
front-zero : (n : ℕ) (p : List ℕ) → n ≤ length p → add_front p (take n p) ≡ replicate n 0 ++ drop n p
front-zero zero p h = add_front-nil p
front-zero (suc n) [] h = absurd (not-suc-le-zero h)
front-zero (suc n) (a ∷ p) h = ap₂ ◌∷◌ (⊕-self a) (front-zero n p (le_of_suc-le-suc h))

down-16 : (p : List ℕ) → 16 ≤ length p → down_bytes Keyed (take 16 p) 0 p ≡ replicate 16 0 ++ add_at (drop 16 p) 0 1
unfolding down_bytes
down-16 p h =
    add-zero-at _ 47
    ∙ ap₂ (λ (s : List ℕ) (i : ℕ). add_at s i 1) (front-zero 16 p h) (length-take-le 16 p h)

-- the bytes after 10 (hex) is added to byte 47 and Xoodoo applied
abbrev pub permuted : Session → List ℕ
permuted s = xoodoo (add_at s.duplex.st 47 0x10)

-- what a keyed session that accepts ratchet then is: bytes 0 to 15 are zero
pub ratchet-end :
    (s : Session) → s.message.begun ≡ false → mode s ≡ Keyed
    → (ratchet_of s).session.duplex ≡ record { st = replicate 16 0 ++ add_at (drop 16 (permuted s)) 0 1; mode = Keyed; phase = Down }
unfolding ratchet_of down up up_bytes
ratchet-end s idle keyed =
    let d = s.duplex in
    ap (λ (n : ℕ). (settle n 0 s [] (taken (onward s (ratchet d)) no_tag [] (ratchet_ups d))).session.duplex) (keyed-taken s idle keyed)
    ∙ ratchet-is d
    ∙ ap (λ (m : Mode). down (up (record { st = d.st; mode = m; phase = d.phase }) 0x10) (take 16 (up_bytes m 0x10 d.st)) 0) keyed
    ∙ ap (λ (b : List ℕ). record { st = b; mode = Keyed; phase = Down }) (down-16 (permuted s) (rw xoodoo-length (lit≤ tt)))

-- ---- which states it merges
settle-message : (n k : ℕ) (s : Session) (d : Duplex) (u : ℕ) → (settle n k s [] (taken (onward s d) no_tag [] u)).session.message ≡ s.message
settle-message zero k s d u = refl
settle-message (suc n) k s d u = refl

ratchet-message : (s : Session) → (ratchet_of s).session.message ≡ s.message
unfolding ratchet_of
ratchet-message s = settle-message (keyed_number s) 0 s (ratchet s.duplex) _

-- two keyed states under one rule, with no message begun, end equal exactly when, after 10 (hex) is xored into byte 47 and Xoodoo applied, they agree on bytes 16 to 47
pub ratchet-merges :
    (s s' : Session) → s.message ≡ idle → s'.message ≡ idle → mode s ≡ Keyed → mode s' ≡ Keyed → s.rule ≡ s'.rule
    → ((ratchet_of s).session ≡ (ratchet_of s').session) ↔ (drop 16 (permuted s) ≡ drop 16 (permuted s'))
ratchet-merges s s' m m' k k' r = (
  λ e. let f : add_at (drop 16 (permuted s)) 0 1 ≡ add_at (drop 16 (permuted s')) 0 1 =
      ap (λ (d : Duplex). drop 16 d.st) (sym (ratchet-end s (ap (λ x. x.begun) m) k) ∙ ap (λ (x : Session). x.duplex) e ∙ ratchet-end s' (ap (λ x. x.begun) m') k') in
      sym (add_at-back (drop 16 (permuted s)) 0 1) ∙ ap (λ (q : List ℕ). add_at q 0 1) f ∙ add_at-back (drop 16 (permuted s')) 0 1,
  λ e. let f : (ratchet_of s).session.duplex ≡ (ratchet_of s').session.duplex =
      ratchet-end s (ap (λ x. x.begun) m) k
      ∙ ap (λ (q : List ℕ). record { st = replicate 16 0 ++ add_at q 0 1; mode = Keyed; phase = Down }) e
      ∙ sym (ratchet-end s' (ap (λ x. x.begun) m') k') in
      let g : (ratchet_of s).session.rule ≡ (ratchet_of s').session.rule = ratchet-rule s ∙ r ∙ sym (ratchet-rule s') in
      let h : (ratchet_of s).session.message ≡ (ratchet_of s').session.message = ratchet-message s ∙ m ∙ sym (ratchet-message s' ∙ m') in
      λ i. record { duplex = f i; rule = g i; message = h i },
)
