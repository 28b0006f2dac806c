-- The marked cases of sessions, W4 to W12; those of a session that is given are of one with no message begun.
use mathlib.Core.Path.{◌≡◌, refl, ap, ap₂, ◌∙◌}
use mathlib.Core.Bool.{Bool, true, false}
use mathlib.Core.List.{List, [], ◌∷◌, ◌++◌, append_assoc}
use Prim.Native.Nat.{ℕ, zero, suc, ◌+◌, ◌-◌, ◌<◌, ◌≤◌, zero-le}
use native.Mathlib.Nat.{not-suc-le-zero, le_of_suc-le-suc, sub-zero, suc-sub-suc}
use native.Mathlib.Omega.{arith}
use lib.Dec.{lit<}
use lib.ListN.{length, replicate, take, drop, get_or, length-append, length-drop}
use lib.Seq.{get_or-append-add, get_or-set_same, get_or-drop}
use Rattle.laws.specs.Words.{◌⊕◌, ◌⊙◌}
use Rattle.laws.specs.Lists.{add_front, add_at}
use Rattle.laws.specs.Blocks.{cuts, blocks}
use Rattle.laws.proofs.Words.{zero-⊕}
use Rattle.xoodoo.proofs.Inverse.{xoodoo-length}
use Rattle.xoodyak.specs.declared.cyclist.Mode.TheVariants.{Hash, Keyed}
use Rattle.xoodyak.specs.declared.cyclist.Phase.TheVariants.{Down}
use Rattle.xoodyak.specs.declared.Rule.{Rule}
use Rattle.xoodyak.specs.declared.Rule.TheVariants.{Crate, Specification}
use Rattle.xoodyak.specs.declared.Session.{Session}
use Rattle.xoodyak.specs.Cyclist.{down_bytes, up, down, ready, absorb_blocks, absorb, message_blocks, enc_end, key_call}
use Rattle.xoodyak.specs.Numbers.{unfinished_number, key_number}
use Rattle.xoodyak.specs.Calls.{session, onward, mode, absorb_of, new_of, ratchet_of, encrypt_end, decrypt_end, encrypt_of, tag_out, open_of}
use Rattle.theorems.proofs.Crypt.{one_block, Decides}
use Rattle.theorems.proofs.Demand1.{keyed-iff, finished, new-answers, encrypt-answers, open-answers}
use Rattle.theorems.proofs.Demand2.{encrypt-is, open-decides}
use Rattle.theorems.proofs.Ratchet.{permuted, ratchet-end}

-- W4 fresh Hash, absorb empty: bytes 0 and 47 are 01, the rest 0, phase Down
pub w4 : (rule : Rule) → (absorb_of (session rule Hash) []).session.duplex ≡ record { st = 1 ∷ (replicate 46 0 ++ (1 ∷ [])); mode = Hash; phase = Down }
unfolding absorb_of unfinished_number absorb blocks absorb_blocks ready down down_bytes ◌⊕◌ ◌⊙◌
w4 rule = refl

-- W5 `new`, empty key, nothing else: byte 1 is 01, byte 47 is 02, the rest 0
pub w5 :
    (rule : Rule) (nonce id counter : List ℕ)
    → (new_of rule [] false nonce false id false counter).session.duplex ≡ record { st = 0 ∷ 1 ∷ (replicate 45 0 ++ (2 ∷ [])); mode = Keyed; phase = Down }
unfolding new_of key_number key_call absorb blocks cuts absorb_blocks ready down down_bytes ◌⊕◌
w5 rule nonce id counter = refl

-- W6 key 01 02, nonce 03: bytes 0 to 4 are 01 02 03 01 01, byte 47 is 02, the rest 0
pub w6 :
    (rule : Rule) (id counter : List ℕ)
    → (new_of rule (1 ∷ 2 ∷ []) true (3 ∷ []) false id false counter).session.duplex
    ≡ record { st = 1 ∷ 2 ∷ 3 ∷ 1 ∷ 1 ∷ (replicate 42 0 ++ (2 ∷ [])); mode = Keyed; phase = Down }
unfolding new_of key_number key_call absorb blocks cuts absorb_blocks ready down down_bytes ◌⊕◌
w6 rule id counter = refl

-- ---- W7: a key alone, of 43 bytes
front-of-zeros : (n : ℕ) (x : List ℕ) → length x ≤ n → add_front (replicate n 0) x ≡ x ++ replicate (n - length x) 0
front-of-zeros zero [] h = refl
front-of-zeros zero (b ∷ x) h = absurd (not-suc-le-zero h)
front-of-zeros (suc n) [] h = rw sub-zero
front-of-zeros (suc n) (b ∷ x) h = rw suc-sub-suc (ap₂ ◌∷◌ (zero-⊕ b) (front-of-zeros n x (le_of_suc-le-suc h)))

add-past : (x y : List ℕ) (n i b : ℕ) → n ≡ length x + i → add_at (x ++ y) n b ≡ x ++ add_at y i b
add-past [] y n i b e = let f : n ≡ i = omega arith in rw f
add-past (a ∷ x) y zero i b e = absurd (omega arith)
add-past (a ∷ x) y (suc n) i b e = ap (λ (l : List ℕ). a ∷ l) (add-past x y n i b (omega arith))

module _ (rule : Rule) (key nonce id counter : List ℕ) where
  alone-bytes : length key ≡ 43 → (new_of rule key false nonce false id false counter).session.duplex.st ≡ key ++ (0 ∷ 1 ∷ 0 ∷ 0 ∷ 2 ∷ [])
  unfolding new_of key_number key_call absorb absorb_blocks ready down down_bytes ◌⊕◌
  alone-bytes e =
      let x = key ++ (0 ∷ []) in
      let l : length x ≡ 44 = length-append key (0 ∷ []) ∙ omega arith in
      let f : add_front (replicate 48 0) x ≡ x ++ (0 ∷ 0 ∷ 0 ∷ 0 ∷ []) = front-of-zeros 48 x (omega arith) ∙ rw l in
      rw (e, one_block 44 x (lit< tt) l, l, f)
      (ap (λ (s : List ℕ). add_at s 47 2) (add-past x (0 ∷ 0 ∷ 0 ∷ 0 ∷ []) 44 0 1 (omega arith))
      ∙ add-past x (1 ∷ 0 ∷ 0 ∷ 0 ∷ []) 47 3 2 (omega arith)
      ∙ append_assoc key (0 ∷ []) (1 ∷ 0 ∷ 0 ∷ 2 ∷ []))

  -- W7 a 43-byte key alone: byte 43 is 00, 44 is 01
  pub w7 :
      length key ≡ 43
      → (get_or (new_of rule key false nonce false id false counter).session.duplex.st 43 0 ≡ 0)
      × (get_or (new_of rule key false nonce false id false counter).session.duplex.st 44 0 ≡ 1)
  w7 e =
      let past : (i n : ℕ) → n ≡ length key + i → get_or (key ++ (0 ∷ 1 ∷ 0 ∷ 0 ∷ 2 ∷ [])) n 0 ≡ get_or (0 ∷ 1 ∷ 0 ∷ 0 ∷ 2 ∷ []) i 0 =
      λ i n h. rw h (get_or-append-add key (0 ∷ 1 ∷ 0 ∷ 0 ∷ 2 ∷ []) i 0) in
      rw (alone-bytes e) (past 0 43 (omega arith), past 1 44 (omega arith))

  -- a 44-byte key: 2
  pub w7-long : length key ≡ 44 → (new_of rule key false nonce false id false counter).number ≡ 2
  w7-long e = (new-answers key false id false nonce false counter rule).number.0.1 (tt, omega arith)

-- W8 key, id, nonce of 16, 16, 11: taken
pub w8 :
    (rule : Rule) (key id nonce : List ℕ) (has_counter : Bool) (counter : List ℕ) → length key ≡ 16 → length id ≡ 16 → length nonce ≡ 11
    → (new_of rule key true nonce true id has_counter counter).number ≡ 0
w8 rule key id nonce has_counter counter p q r = (new-answers key true id true nonce has_counter counter rule).number.1.1.1.1 (((tt, λ h. omega arith), λ h. omega arith), λ h. omega arith)

-- of 16, 16, 12: 9
pub w8-long :
    (rule : Rule) (key id nonce : List ℕ) (has_counter : Bool) (counter : List ℕ) → length key ≡ 16 → length id ≡ 16 → length nonce ≡ 12
    → (new_of rule key true nonce true id has_counter counter).number ≡ 9
w8-long rule key id nonce has_counter counter p q r =
    (new-answers key true id true nonce has_counter counter rule).number.1.1.0.1 (((tt, λ h. omega arith), λ h. omega arith), omega arith)

-- ---- W9 encrypt empty, Keyed, under the crate rule: session unchanged
encrypt-empty : (s : Session) → s.rule ≡ Crate → encrypt_end s [] ≡ s
unfolding encrypt_end message_blocks cuts enc_end
encrypt-empty s r = ap (λ (rule : Rule). onward s (enc_end (message_blocks rule []) 0x80 s.duplex)) r

pub w9 : (s : Session) (o : List ℕ) → s.message.begun ≡ false → mode s ≡ Keyed → s.rule ≡ Crate → ((encrypt_of s o []).number ≡ 0) × ((encrypt_of s o []).session ≡ s)
w9 s o i k r = rw (encrypt-is s i k o [] zero-le) (refl, encrypt-empty s r)

-- its twin under the specification's rule: Up(0, 80) and Down(empty, 00)
encrypt-empty-specification : (s : Session) → s.rule ≡ Specification → encrypt_end s [] ≡ onward s (down (up s.duplex 0x80) [] 0)
unfolding encrypt_end message_blocks blocks enc_end
encrypt-empty-specification s r = ap (λ (rule : Rule). onward s (enc_end (message_blocks rule []) 0x80 s.duplex)) r

pub w9-specification :
    (s : Session) (o : List ℕ) → s.message.begun ≡ false → mode s ≡ Keyed → s.rule ≡ Specification
    → ((encrypt_of s o []).number ≡ 0) × ((encrypt_of s o []).session ≡ onward s (down (up s.duplex 0x80) [] 0))
w9-specification s o i k r = rw (encrypt-is s i k o [] zero-le) (refl, encrypt-empty-specification s r)

-- ---- W10 combined open of 15 bytes: 10
pub w10 : (s : Session) (o b : List ℕ) → s.message.begun ≡ false → mode s ≡ Keyed → length b ≡ 15 → (open_of s o b).number ≡ 10
w10 s o b i k e = (open-answers s o b).number.1.1.0.1 (((tt, finished s i), (keyed-iff (mode s)).1 k), omega arith)

-- of 16 bytes into an empty output: a tag decision
pub w10-tag : (s : Session) (b : List ℕ) → s.message.begun ≡ false → mode s ≡ Keyed → length b ≡ 16 → Decides (open_of s [] b).number (tag_out (decrypt_end s []) ≡ b)
w10-tag s b i k e =
    let z : length b - 16 ≡ 0 = omega arith in
    let d = open-decides s i k [] b (omega arith) (omega arith) in
    rw z at d

-- W11 Hash session, encrypt into a short output: 1, not 3
pub w11 : (s : Session) (o m : List ℕ) → s.message.begun ≡ false → mode s ≡ Hash → length o < length m → (encrypt_of s o m).number ≡ 1
w11 s o m i h _ = (encrypt-answers s o m).number.1.0.1 ((tt, finished s i), h)

-- W12 ratchet: bytes 0 to 15 are 0, byte 16 is the permuted byte 16 xor 01, phase Down
pub w12 :
    (s : Session) → s.message.begun ≡ false → mode s ≡ Keyed
    → (take 16 (ratchet_of s).session.duplex.st ≡ replicate 16 0)
    × (get_or (ratchet_of s).session.duplex.st 16 0 ≡ get_or (permuted s) 16 0 ⊕ 1)
    × ((ratchet_of s).session.duplex.phase ≡ Down)
w12 s i k =
    let p = drop 16 (permuted s) in
    let h : 0 < length p = rw (length-drop, xoodoo-length) (lit< tt) in
    rw (ratchet-end s i k) (
      refl,
      get_or-set_same p 0 (get_or p 0 0 ⊕ 1) 0 h ∙ ap (λ (a : ℕ). a ⊕ 1) (get_or-drop 16 (permuted s) 0 0),
      refl,
    )
