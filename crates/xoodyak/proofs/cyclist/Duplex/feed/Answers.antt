-- What is spent and written, then what the rest gives from where it stands, is what the whole gives from the start.
use mathlib.Core.Path.{◌≡◌, sym, ap, ◌∙◌}
use mathlib.Core.Bool.{true}
use Prim.Native.Nat.{◌+◌, ◌-◌, ◌<◌, ◌≤◌, min}
use native.Mathlib.Omega.{arith}
use lib.Dec.{leb, ltb}
use lib.ListN.{length, drop, length-drop}
use borrow.Author.Tests.{leb-true}
use borrow.Rule.Slice.PartMut.{same_len_mid}
use Rattle.xoodyak.specs.Calls.{both}
use Rattle.xoodyak.specs.Feed.{ups_before, place_in}
use Rattle.xoodyak.proofs.Feeding.{place-within, going-left, going-allowed, feed-turned, feed-stops, feed-done}
use Rattle.xoodyak.proofs.cyclist.Duplex.feed.Goals as goal

pub runs-preserved : goal.runs-preserved
runs-preserved c =
    let a = c.args in
    let at = c.runs.at in
    let v = c.runs.invariant in
    let i = at.taken in
    let fits = c.is_open-fits.result in
    let left = length a.piece.now - i in
    let within = a.allowance - at.spent in
    let q = c.place_in-q in
    let same : c.is_open.result ≡ fits = c.is_open.ensures ∙ sym c.is_open-fits.ensures in
    let goes : c.goes_on.result ≡ both (ltb 0 left) (leb (ups_before fits) within) = c.goes_on.ensures ∙ ap (λ b. both (ltb 0 left) (leb (ups_before b) within)) same in
    let some : 0 < left = going-left _ fits left within goes c.runs-test.true in
    let allowed : leb (ups_before fits) within ≡ true = going-allowed _ fits left within goes c.runs-test.true in
    let few : ups_before fits ≤ within = leb-true _ _ allowed in
    let room : place_in fits at.place < 24 = place-within fits at.place c.is_open-fits.ensures in
    let m = c.min.ensures in
    let e = i + c.min.result in
    let r = c.stretch in
    let y = r.new.out in
    let h : i < length a.piece.now = omega arith in
    let lo : length a.piece.now ≤ length c.runs.out = omega (arith, v.1, c.requires.0) in
    let ee : e ≡ i + min (24 - q.result) (length a.piece.now - i) = omega (arith, m) in
    let w = feed-turned a.kind a.allowance at.place at.spent i e q.result c.ups_before.result fits at.duplex r.result a.piece.now c.runs.out a.out.now y c.is_open-fits.ensures h allowed lo q.ensures c.ups_before.ensures ee (rw c.is_open-fits.ensures r.ensures.value) (rw c.is_open-fits.ensures r.ensures.out_after) v.4 in (
      omega (arith, m),
      same_len_mid i (e - i) c.runs.out y r.auto.out ∙ v.1,
      omega (arith, c.ups_before.ensures),
      omega (arith, m, q.ensures),
      w.0,
      w.1 ∙ v.5,
    )

pub returns : goal.returns
returns c =
    let a = c.args in
    let at = c.runs.at in
    let v = c.runs.invariant in
    let rest = drop at.taken a.piece.now in
    let n : length rest ≡ length a.piece.now - at.taken = length-drop at.taken a.piece.now in
    let g = feed-stops a.kind (a.allowance - at.spent) at.place at.duplex rest c.is_open.result c.goes_on.result c.is_open.ensures (rw n c.goes_on.ensures) c.runs-test.false in
    let h : at.taken ≤ length c.runs.out = omega (arith, v.0, v.1, c.requires.0) in
    let w = feed-done a.kind a.allowance at.place at.spent at.taken at.duplex a.piece.now c.runs.out a.out.now _ g h v.4 v.5 in
    record { duplex_value = w.0; place_bound = v.3; out_after = w.1 }
