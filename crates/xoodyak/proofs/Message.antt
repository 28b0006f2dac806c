-- The blocks of a message, as the calls tell them apart: one empty block, or what the loops cut.
use mathlib.Core.Path.{◌≡◌, refl}
use mathlib.Core.Bool.{true, false}
use mathlib.Core.List.{List, [], ◌∷◌, ◌++◌}
use Prim.Native.Nat.{ℕ}
use lib.ListN.{length, drop}
use native.Mathlib.Nat.{suc-ne-zero}
use borrow.Author.Tests.{eqb-true}
use native.Mathlib.Omega.{arith}
use Rattle.laws.specs.Blocks.{cuts, blocks}
use Rattle.xoodyak.specs.declared.Rule.{Rule}
use Rattle.xoodyak.specs.declared.Rule.TheVariants.{Crate, Specification}
use Rattle.xoodyak.specs.declared.feed.Kind.{Kind}
use Rattle.xoodyak.specs.declared.feed.Kind.TheVariants.{Seal, Open}
use Rattle.xoodyak.specs.declared.Session.{Session}
use Rattle.xoodyak.specs.Cyclist.{up, down, message_blocks, empty_block, enc_end, enc_out, dec_end, dec_out}
use Rattle.xoodyak.specs.Shares.{message_share}
use Rattle.xoodyak.specs.Numbers.{keyed_number}
use Rattle.xoodyak.specs.Calls.{no_tag, taken, settle, settle_room, onward, encrypt_end, encrypt_out, decrypt_end, decrypt_out, encrypt_of, decrypt_of, encrypt_in_place_of, decrypt_in_place_of, crypt_end, crypt_out, crypt_of, crypt_in_place_of}
use Rattle.xoodyak.proofs.Costs.{encrypt-share, decrypt-share}

pub message-empty : (rule : Rule) (m : List ℕ) → empty_block rule (length m) ≡ true → (message_blocks rule m ≡ [] ∷ []) × (m ≡ [])
unfolding message_blocks blocks
message-empty Crate m e = let z : ◌≡◌ {A = ℕ} 0 1 = cc in absurd (omega arith)
message-empty Specification [] e = (refl, refl)
message-empty Specification (a ∷ m) e = absurd (suc-ne-zero _ (eqb-true (length (a ∷ m)) 0 e))

pub message-cuts : (rule : Rule) (m : List ℕ) → empty_block rule (length m) ≡ false → message_blocks rule m ≡ cuts 24 m
unfolding message_blocks blocks
message-cuts Crate m e = refl
message-cuts Specification [] e = let z : ◌≡◌ {A = ℕ} 0 1 = cc in absurd (omega arith)
message-cuts Specification (a ∷ m) e = refl

-- a message of either kind that is one empty block
pub crypt-empty : (kind : Kind) (s : Session) (m : List ℕ) → empty_block s.rule (length m) ≡ true
    → (onward s (down (up s.duplex 0x80) [] 0) ≡ crypt_end kind s m) × (m ≡ crypt_out kind s m)
unfolding encrypt_end encrypt_out decrypt_end decrypt_out enc_end enc_out dec_end dec_out
crypt-empty Seal s m h = let e = message-empty s.rule m h in (rw e.0, rw e.0 e.1)
crypt-empty Open s m h = let e = message-empty s.rule m h in (rw e.0, rw e.0 e.1)

-- what the code makes of a message of either kind, with the permutations that it counts
module _ (s : Session) (m : List ℕ) where
  pub crypt-is : (kind : Kind) (o : List ℕ)
      → settle_room (keyed_number s) (length o) (length m) s o (taken (crypt_end kind s m) no_tag (crypt_out kind s m ++ drop (length m) o) (message_share s.rule (length m)))
      ≡ crypt_of kind s o m
  unfolding encrypt_of decrypt_of
  crypt-is Seal o = rw (encrypt-share s m)
  crypt-is Open o = rw (decrypt-share s m)

  pub crypt-in-place-is : (kind : Kind) → settle (keyed_number s) 0 s m (taken (crypt_end kind s m) no_tag (crypt_out kind s m) (message_share s.rule (length m))) ≡ crypt_in_place_of kind s m
  unfolding encrypt_in_place_of decrypt_in_place_of
  crypt-in-place-is Seal = rw (encrypt-share s m)
  crypt-in-place-is Open = rw (decrypt-share s m)
