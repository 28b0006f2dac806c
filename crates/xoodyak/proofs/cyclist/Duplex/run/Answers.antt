-- The bytes from the place on are added to the piece in the output, and the plaintext to those bytes.
use mathlib.Core.Path.{◌≡◌, refl, sym, ap, ◌∙◌}
use mathlib.Core.List.{List}
use Prim.Native.Nat.{ℕ, ◌+◌, ◌≤◌}
use native.Mathlib.Omega.{arith}
use lib.ListN.{length}
use Rattle.xoodyak.specs.declared.feed.Kind.{Kind}
use Rattle.xoodyak.specs.declared.feed.Kind.TheVariants.{Seal, Open}
use Rattle.xoodyak.proofs.Runs.{text, part_out, part_end}
use borrow.Author.Rules.{rules}
use Rattle.xoodyak.proofs.cyclist.Duplex.run.Goals as goal

told : (k kind : Kind) (x r y : List ℕ) → kind ≡ k → y ≡ text k x r → y ≡ text kind x r
told k kind x r y e h = h ∙ ap (λ (j : Kind). text j x r) (sym e)

pub returns-in-Seal : goal.returns-in-Seal
returns-in-Seal c =
    let a = c.args in
    let l : length a.self.st ≡ 48 = search rules in
    let inside : a.place + length a.piece.now ≤ length a.self.st = omega (arith, c.requires.1) in
    let wrote = c.xor_into.ensures ∙ rw c.copy_into.ensures in
    record {
      value = part_end _ a.place _ a.self a.piece.now refl inside (told Seal _ _ _ a.piece.now c.in-Seal.is refl) c.xor_into-in-Seal.ensures;
      out_after = part_out _ a.place _ a.self a.piece.now refl inside wrote;
    }

pub returns-in-Open : goal.returns-in-Open
returns-in-Open c =
    let a = c.args in
    let l : length a.self.st ≡ 48 = search rules in
    let inside : a.place + length a.piece.now ≤ length a.self.st = omega (arith, c.requires.1) in
    let wrote = c.xor_into.ensures ∙ rw c.copy_into.ensures in
    record {
      value = part_end _ a.place _ a.self a.piece.now refl inside (told Open _ _ _ _ c.in-Open.is wrote) c.xor_into-in-Open.ensures;
      out_after = part_out _ a.place _ a.self a.piece.now refl inside wrote;
    }
