-- A finish lacks no bytes and takes none.
use Rattle.std.proofs.Common.{◌≡◌, ℕ, zero, suc, List, [], refl}
use Rattle.xoodyak.specs.declared.Session.{Session}
use Rattle.xoodyak.specs.declared.feed.Kind.TheVariants.{Seal, Open}
use Rattle.xoodyak.specs.declared.tag.Tag.{Tag}
use Rattle.xoodyak.specs.Calls.{mode}
use Rattle.xoodyak.specs.Numbers.{first, kind_number, mode_number}
use Rattle.xoodyak.specs.Feed.{Portion, portioned, finish_seal_of, finish_open_of}

none : (n : ℕ) (s : Session) (o : List ℕ) (x : Portion) → (0 ≡ x.missing) × (0 ≡ x.taken) → (0 ≡ (portioned n 0 s o x).missing) × (0 ≡ (portioned n 0 s o x).taken)
none zero s o x e = e
none (suc n) s o x e = (refl, refl)

pub none_sealing : (s : Session) → (0 ≡ (finish_seal_of s).missing) × (0 ≡ (finish_seal_of s).taken)
unfolding finish_seal_of
none_sealing s = none (first (kind_number Seal s) (mode_number (mode s))) s [] _ (refl, refl)

pub none_opening : (s : Session) (t : Tag) → (0 ≡ (finish_open_of s t).missing) × (0 ≡ (finish_open_of s t).taken)
unfolding finish_open_of
none_opening s t = none (first (kind_number Open s) (mode_number (mode s))) s [] _ (refl, refl)
