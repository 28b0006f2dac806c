-- What a feed spends, how many bytes it takes and where it stops, by closed formulas; and what a finish spends.
use mathlib.Core.Path.{◌≡◌, refl, sym, ap, ◌∙◌}
use mathlib.Core.Bool.{Bool, true, false}
use mathlib.Core.List.{List, [], ◌∷◌}
use Prim.Native.Nat.{ℕ, zero, suc, ◌+◌, ◌-◌, ◌/◌, ◌%◌, ◌<◌}
use native.Mathlib.Nat.{not-suc-le-zero, sub-zero}
use native.Mathlib.Omega.{arith}
use lib.Dec.{ltb, leb, lit<}
use lib.ListN.{length}
use borrow.Author.Tests.{ltb-false, leb-true, leb-false, lt-ltb}
use Rattle.laws.specs.Blocks.{block_count}
use Rattle.laws.proofs.Blocks.{count-step}
use Rattle.xoodyak.specs.declared.cyclist.Duplex.{Duplex}
use Rattle.xoodyak.specs.declared.Rule.{Rule}
use Rattle.xoodyak.specs.declared.Rule.TheVariants.{Crate, Specification}
use Rattle.xoodyak.specs.declared.feed.Kind.{Kind}
use Rattle.xoodyak.specs.declared.Session.{Session}
use Rattle.xoodyak.specs.Ups.{squeeze_ups}
use Rattle.xoodyak.specs.Feed.{is_open, ups_before, place_in, and_then, within, stands, Progress, feed, end_ups, ended, finish_ups}
use Rattle.xoodyak.proofs.Costs.{squeeze-share, one_up}
use Rattle.xoodyak.proofs.Feeding.{place-within}
use Rattle.xoodyak.specs.Shares.{room_in, feed_share, feed_taken, place_after, finish_share}

-- what the formulas say of a feed of n bytes
abbrev pub Follows : ℕ → ℕ → ℕ → Progress → Type 0
Follows a p n f = (f.spent ≡ feed_share p a n) × ((length f.bytes ≡ feed_taken p a n) × (f.place ≡ place_after p (feed_taken p a n)))

-- ---- after a byte at place q of its block: the room left, and the place after t bytes more
next-room : (q : ℕ) → q < 24 → room_in (is_open (suc q)) (suc q) ≡ 23 - q
next-room q h = split (ltb (suc q) 24) refl where
  split : (b : Bool) → ltb (suc q) 24 ≡ b → room_in (is_open (suc q)) (suc q) ≡ 23 - q
  split true e = rw (lt-ltb 0 (suc q) (omega arith), e) (omega arith)
  split false e = let l = ltb-false (suc q) 24 e in rw (lt-ltb 0 (suc q) (omega arith), e) (omega arith)

next_place : (q t : ℕ) → q < 24 → place_after (suc q) t ≡ (q + t) % 24 + 1
unfolding place_after
next_place q zero h = omega arith
next_place q (suc t) h = split (ltb (suc q) 24) refl where
  split : (b : Bool) → ltb (suc q) 24 ≡ b → (place_in (is_open (suc q)) (suc q) + t) % 24 + 1 ≡ (q + suc t) % 24 + 1
  split true e = rw (lt-ltb 0 (suc q) (omega arith), e) (omega arith)
  split false e = let l = ltb-false (suc q) 24 e in rw (lt-ltb 0 (suc q) (omega arith), e) (omega arith)

-- ---- a byte and those after it, of which the formulas hold
module _ (a p m : ℕ) (h : place_in (is_open p) p < 24) where
  abbrev q : ℕ
  q = place_in (is_open p) p

  spent-step : (fits : Bool) → fits ≡ is_open p → leb (ups_before fits) a ≡ true
      → ups_before fits + feed_share (suc q) (a - ups_before fits) m ≡ feed_share p a (suc m)
  unfolding feed_share block_count
  spent-step true e l =
      let g : p < 24 = rw (← e) at h in
      let z : m - (23 - p) ≡ suc m - (24 - p) = omega arith in
      rw (next-room q h, ← e, z) (omega arith)
  spent-step false e l =
      let z : m - 23 ≡ suc m - 24 = omega arith in
      let c : block_count 24 (m - 23) ≡ m / 24 = ap (block_count 24) z ∙ count-step 24 m (lit< tt) in
      let k : block_count 24 (suc m - 0) ≡ suc (m / 24) = ap (block_count 24) (sub-zero (suc m)) in
      rw (next-room q h, ← e, c, k) (omega (arith, leb-true 1 a l))

  taken_step : (fits : Bool) → fits ≡ is_open p → leb (ups_before fits) a ≡ true → suc (feed_taken (suc q) (a - ups_before fits) m) ≡ feed_taken p a (suc m)
  unfolding feed_taken
  taken_step true e l = let g : p < 24 = rw (← e) at h in rw (next-room q h, ← e) (omega arith)
  taken_step false e l = rw (next-room q h, ← e) (omega (arith, leb-true 1 a l))

  place-step : (t : ℕ) → place_after (suc q) t ≡ place_after p (suc t)
  unfolding place_after
  place-step t = next_place q t h

  follows-step : (fits : Bool) → fits ≡ is_open p → leb (ups_before fits) a ≡ true → (b : ℕ) (f : Progress)
      → Follows (a - ups_before fits) (suc q) m f → Follows a p (suc m) (and_then (ups_before fits) b f)
  follows-step fits e l b f k =
      let t = taken_step fits e l in (
        ap (λ (n : ℕ). ups_before fits + n) k.0 ∙ spent-step fits e l,
        (ap suc k.1.0 ∙ t, k.1.1 ∙ place-step _ ∙ ap (place_after p) t),
      )

-- nothing is taken where no byte is left, or the first one needs an Up and none is allowed
stopped : (a p : ℕ) (d : Duplex) (n : ℕ) → feed_share p a n ≡ 0 → feed_taken p a n ≡ 0 → Follows a p n (stands p d)
unfolding place_after
stopped a p d n s t = (sym s, (sym t, ap (place_after p) (sym t)))

none_left : (a p : ℕ) (d : Duplex) → Follows a p 0 (stands p d)
unfolding feed_share feed_taken block_count
none_left a p d = let z : 0 - room_in (is_open p) p ≡ 0 = omega arith in stopped a p d 0 (rw z (omega arith)) (omega arith)

none_allowed : (a p : ℕ) (d : Duplex) (n : ℕ) (fits : Bool) → fits ≡ is_open p → leb (ups_before fits) a ≡ false → Follows a p n (stands p d)
unfolding feed_share feed_taken
none_allowed a p d n true e l = absurd (not-suc-le-zero (leb-false 0 a l))
none_allowed a p d n false e l =
    let z = leb-false 1 a l in stopped a p d n (omega arith) (rw (← e) (omega arith))

-- ---- the whole feed: f is what follows the first byte
feed-byte : (a p : ℕ) (d : Duplex) (m b : ℕ) (f : Progress) (allowed : Bool) → leb (ups_before (is_open p)) a ≡ allowed
    → Follows (a - ups_before (is_open p)) (suc (place_in (is_open p) p)) m f
    → Follows a p (suc m) (within allowed (and_then (ups_before (is_open p)) b f) (stands p d))
feed-byte a p d m b f true l k = follows-step a p m (place-within (is_open p) p refl) (is_open p) refl l b f k
feed-byte a p d m b f false l k = none_allowed a p d (suc m) (is_open p) refl l

pub feed-follows : (kind : Kind) (a p : ℕ) (d : Duplex) (x : List ℕ) → Follows a p (length x) (feed kind a p d x)
unfolding feed
feed-follows kind a p d [] = none_left a p d
feed-follows kind a p d (b ∷ x) = feed-byte a p d (length x) _ _ (leb (ups_before (is_open p)) a) refl (feed-follows kind (a - ups_before (is_open p)) _ _ x)

-- ---- a finish: the Up steps of the message's end and of the tag
end-share : (rule : Rule) (place : ℕ) → end_ups rule place + 1 ≡ finish_share rule place
unfolding end_ups finish_share
end-share Crate zero = refl
end-share Crate (suc place) = refl
end-share Specification zero = refl
end-share Specification (suc place) = refl

pub finish-share : (s : Session) → finish_ups s ≡ finish_share s.rule s.message.place
unfolding finish_ups
finish-share s = end-share s.rule s.message.place

-- and the one for the tag is the definition's
pub finish-ups : (s : Session) → finish_ups s ≡ end_ups s.rule s.message.place + squeeze_ups (ended s) 16 0x40
unfolding finish_ups
finish-ups s = ap (λ (n : ℕ). end_ups s.rule s.message.place + n) (sym (squeeze-share (ended s) 16 0x40 ∙ one_up (ended s).mode))
