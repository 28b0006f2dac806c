-- Opening as the code runs it: what was decrypted, squeezed and compared makes up the outcome, and parts of it are joined.
use mathlib.Core.Path.{◌≡◌, refl, sym, ap, ◌∙◌}
use mathlib.Core.Bool.{Bool, true, false}
use mathlib.Core.List.{List, ◌++◌}
use Prim.Native.Nat.{ℕ, ◌+◌, ◌-◌, ◌≤◌}
use native.Mathlib.Omega.{arith}
use native.Mathlib.Nat.{suc-ne-zero, le_refl}
use lib.ListN.{length, replicate, take, drop, length-drop}
use lib.Seq.{length-take-le, take_all}
use Rattle.std.proofs.lemmas.List.{replicate-append-replicate}
use Rattle.xoodyak.specs.declared.Answer.{Answer}
use Rattle.xoodyak.specs.declared.Session.{Session}
use Rattle.xoodyak.specs.Numbers.{first, keyed_number, tail_number}
use Rattle.xoodyak.specs.Cyclist.{squeeze_end, squeeze_out}
use Rattle.xoodyak.specs.Shares.{seal_share}
use Rattle.xoodyak.specs.Calls.{Outcome, answer_of, onward, decrypt_end, decrypt_out, tag_end, tag_out, same_bytes, verdict, opened, open_in_place_of}
use Rattle.xoodyak.proofs.Costs.{open-share}
use Rattle.xoodyak.proofs.Settle.{answer-taken, is_taken, tagged}

-- x was decrypted to a, t squeezed and compared with u
pub opened-is : (s a b : Session) (x t u : List ℕ) → a ≡ decrypt_end s x → b ≡ onward a (squeeze_end a.duplex 16 0x40) → t ≡ squeeze_out a.duplex 16 0x40
    → (v : Bool) → same_bytes t u ≡ v → (good bad : List ℕ) → verdict v b good bad (seal_share s.rule (length x)) ≡ opened s u x good bad
unfolding opened tag_end tag_out
opened-is s a b x t u ea eb et v ev good bad = rw (← ev, et, eb, ea, open-share s x)

-- the answer is the same whatever is written
answer-alike : (v : Bool) (b : Session) (g h i j : List ℕ) (n : ℕ) → answer_of (verdict v b g h n) ≡ answer_of (verdict v b i j n)
answer-alike true b g h i j n = refl
answer-alike false b g h i j n = refl

bytes-then : (v : Bool) (b : Session) (g h y : List ℕ) (n : ℕ) → (verdict v b g h n).bytes ++ y ≡ (verdict v b (g ++ y) (h ++ y) n).bytes
bytes-then true b g h y n = refl
bytes-then false b g h y n = refl

good-then : (v : Bool) (b : Session) (g h y j : List ℕ) (n : ℕ) → (verdict v b g h n).number ≡ 0 → (verdict v b g h n).bytes ++ y ≡ (verdict v b (g ++ y) j n).bytes
good-then true b g h y j n e = refl
good-then false b g h y j n e = absurd (suc-ne-zero _ e)

bad-then : (v : Bool) (b : Session) (g h z i j : List ℕ) (n : ℕ) → ((verdict v b g h n).number ≡ 0 → ⊥) → h ++ z ≡ j → (verdict v b g h n).bytes ++ z ≡ (verdict v b i j n).bytes
bad-then true b g h z i j n k e = absurd (k refl)
bad-then false b g h z i j n k e = e

module _ (s : Session) (u x : List ℕ) where
  pub opened-alike : (g h i j : List ℕ) → answer_of (opened s u x g h) ≡ answer_of (opened s u x i j)
  unfolding opened
  opened-alike g h i j = answer-alike _ _ g h i j _

  -- a part y of the buffer that was not lent
  pub opened-then : (g h y : List ℕ) → (opened s u x g h).bytes ++ y ≡ (opened s u x (g ++ y) (h ++ y)).bytes
  unfolding opened
  opened-then g h y = bytes-then _ _ g h y _

  -- the front of an output o was lent: what lies past it stays, or is zeroed where the tag differs
  pub opened-front : (g h y j : List ℕ) → (opened s u x g h).number ≡ 0 → (opened s u x g h).bytes ++ y ≡ (opened s u x (g ++ y) j).bytes
  unfolding opened
  opened-front g h y j e = good-then _ _ g h y j _ e

  pub opened-zeroed : (g y i o : List ℕ) → length x ≤ length o → y ≡ drop (length x) o → ((opened s u x g (replicate (length x) 0)).number ≡ 0 → ⊥)
      → (opened s u x g (replicate (length x) 0)).bytes ++ replicate (length y) 0 ≡ (opened s u x i (replicate (length o) 0)).bytes
  unfolding opened
  opened-zeroed g y i o l e k =
      let n : length x + length y ≡ length o = rw (e, length-drop) (omega arith) in
      bad-then _ _ g _ _ i _ _ k (replicate-append-replicate (length x) (length y) 0 ∙ ap (λ (m : ℕ). replicate m 0) n)

-- all but the last 16 bytes of the input i, and those
pub open-parts : (s : Session) (o i : List ℕ) → 16 ≤ length i → (bad : List ℕ)
    → opened s (take (length i - (length i - 16)) (drop (length i - 16) i)) (take (length i - 16) i) (decrypt_out s (take (length i - 16) i) ++ drop (length (take (length i - 16) i)) o) bad
    ≡ opened s (drop (length i - 16) i) (take (length i - 16) i) (decrypt_out s (take (length i - 16) i) ++ drop (length i - 16) o) bad
open-parts s o i l bad =
    let n = length i - 16 in
    rw (take_all (length i - n) (drop n i) (rw length-drop (le_refl _)), length-take-le n i (omega arith))

-- what a call that found room for a tag knows of the part for it
pub tag-size : (s : Session) (size n : ℕ) → 0 ≡ first (keyed_number s) (tail_number size) → n ≡ size - (size - 16) → n ≡ 16
tag-size s size n z e = let l = tagged s size z in omega arith

-- ---- opening in place: the input b in its two parts, the text x and the tag t, which stays
module _ (s : Session) (b x t : List ℕ) (z : 0 ≡ first (keyed_number s) (tail_number (length b))) (ex : x ≡ take (length b - 16) b) (et : t ≡ drop (length b - 16) b) where
  pub in-place-value : (r : Answer) → r ≡ answer_of (opened s t x (decrypt_out s x) (replicate (length x) 0)) → r ≡ answer_of (open_in_place_of s b)
  unfolding open_in_place_of
  in-place-value r er = answer-taken answer_of z 0 s b (er ∙ rw (ex, et) (opened-alike s _ _ _ _ _ _))

  pub in-place-bytes : (y : List ℕ) → y ≡ (opened s t x (decrypt_out s x) (replicate (length x) 0)).bytes → y ++ t ≡ (open_in_place_of s b).bytes
  unfolding open_in_place_of
  in-place-bytes y ey =
      let front = length-take-le (length b - 16) b (omega arith) in
      rw (ey, ex, et) (opened-then s _ _ _ _ _ ∙ rw front) ∙ sym (ap (λ (o : Outcome). o.bytes) (is_taken _ z 0 s b _))

-- what the code of `aead_decrypt_in_place` is proved by, whatever its steps are called
pub ruleset in_place = (tag-size, in-place-value, in-place-bytes)
