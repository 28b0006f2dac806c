-- Four bytes, each below 256, are the word's, the lowest first.
use mathlib.Core.Path.{◌≡◌, ap, ◌∙◌}
use mathlib.Core.List.{[], ◌∷◌}
use Prim.Native.Nat.{ℕ, ◌+◌, ◌<◌}
use native.Mathlib.Omega.{arith}
use lib.ListN.{get_or, take, drop}
use Rattle.xoodoo.specs.Xoodoo.{word_bytes}
use Rattle.xoodoo.proofs.BlockBytes.{word-of}
use Rattle.std.proofs.lemmas.Grind.{common_steps}
use Rattle.xoodyak.proofs.words.get4.Goals as goal

pub returns : goal.returns
returns c =
    let b = c.args.b.now in
    let i = c.args.at in
    let small : (k : ℕ) → get_or b k 0 < 256 = λ k. omega (arith, c.type_inv.b k) in
    let four : get_or b i 0 ∷ get_or b (i + 1) 0 ∷ get_or b (i + 2) 0 ∷ get_or b (i + 3) 0 ∷ [] ≡ take 4 (drop i b) = grind (arith, common_steps) in
    ap word_bytes c.from_le_bytes.ensures ∙ word-of (small i) (small (i + 1)) (small (i + 2)) (small (i + 3)) ∙ four
