-- What decoding says of the test: it holds where a value came out, and not where none did.
use Rattle.std.proofs.Common.{◌≡◌, Bool, true, false, Some, None, refl}
use Rattle.std.specs.Bool.{then_some}

pub decoded : {A : Type 0} (b : Bool) (x y : A) → Some y ≡ then_some b x → (b ≡ true) × (y ≡ x)
decoded true x y e = (refl, cc)
decoded false x y e = cc

pub refused : {A : Type 0} (b : Bool) (x : A) → None ≡ then_some b x → b ≡ false
refused true x e = cc
refused false x e = refl

pub ruleset decoding = (decoded, refused)
