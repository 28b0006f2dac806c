-- What a session costs, from its transcript: the total follows from what is public of the calls, and is the sum of each call's share.
use mathlib.Core.Path.{◌≡◌, refl, sym, ap, ap₂, ◌∙◌}
use mathlib.Core.Bool.{true, false}
use mathlib.Core.List.{List, [], ◌∷◌}
use Prim.Native.Nat.{ℕ}
use lib.ListN.{length}
use Rattle.laws.specs.Blocks.{block_count}
use Rattle.xoodyak.specs.declared.cyclist.Mode.TheVariants.{Hash}
use Rattle.xoodyak.specs.declared.Rule.TheVariants.{Crate, Specification}
use Rattle.xoodyak.specs.declared.feed.Kind.TheVariants.{Seal, Open}
use Rattle.xoodyak.specs.declared.Session.{Session}
use Rattle.xoodyak.specs.Numbers.{unfinished_number, kind_number, keyed_number, key_number, rate_number, room_number}
use Rattle.xoodyak.specs.Calls.{session}
use Rattle.xoodyak.specs.Shares.{absorb_share, more_share, squeeze_share, message_share, seal_share, key_share, feed_share, feed_taken, place_after, finish_share}
use Rattle.walkback.specs.Steps.{ups}
use Rattle.walkback.specs.Walk.{Call, call_number, steps}
use Rattle.walkback.specs.Costs.{SessionCall, absorbing, absorbing_more, squeezing, squeezing_more, ratcheting, encrypting, sealing, opening_detached, opening, opening_in_place_detached, opening_in_place, beginning, feeding, finishing_seal, finishing_open, shape, report, View, view, Cost, cost_of, new_cost, shapes, reports, shares, sum}
use Rattle.theorems.proofs.CostCalls.{seen, Free, priced}
use Rattle.theorems.proofs.CostSteps.{walked, spent-ups}

-- ---- a call: what it spends, and the view of the session after it, follow from the view before it and its shape
pub spent-is : (s : Session) (c : SessionCall) → (report s c).spent ≡ (cost_of (view s) (shape c)).spent
spent-is s c = ap (λ (x : Cost). x.spent) (priced s c).0

pub view-after : (s : Session) (c : SessionCall) → view (report s c).session ≡ (cost_of (view s) (shape c)).view
view-after s c = ap (λ (x : Cost). x.view) (priced s c).0

-- the count is the definition's: the Up steps among the steps whose run is the call (WalkSteps.antt, `forward-runs`)
pub count-is-ups : (s : Session) (c : Call) → s.message.begun ≡ false → call_number s.duplex.mode c ≡ 0
    → (report s (walked c)).spent ≡ ups (steps s.rule s.duplex.mode s.duplex.phase c)
count-is-ups s c h e = spent-ups s h c e

-- a refused call spends none, and hands the session back
pub refused-free : (s : Session) (c : SessionCall) → Free s (report s c)
refused-free s c = (priced s c).1

-- a wrong tag spends what a right one does, and leaves the same view
module _ (s : Session) where
  pub any-tag : (o t t' c : List ℕ) → seen (report s (opening_detached o t c)) ≡ seen (report s (opening_detached o t' c))
  unfolding shape cost_of
  any-tag o t t' c = (priced s (opening_detached o t c)).0 ∙ sym (priced s (opening_detached o t' c)).0

  pub any-tag-in-place : (b t t' : List ℕ) → seen (report s (opening_in_place_detached b t)) ≡ seen (report s (opening_in_place_detached b t'))
  unfolding shape cost_of
  any-tag-in-place b t t' = (priced s (opening_in_place_detached b t)).0 ∙ sym (priced s (opening_in_place_detached b t')).0

  pub any-tag-finish : (t t' : List ℕ) → seen (report s (finishing_open t)) ≡ seen (report s (finishing_open t'))
  unfolding shape cost_of
  any-tag-finish t t' = (priced s (finishing_open t)).0 ∙ sym (priced s (finishing_open t')).0

  -- the combined forms: the tag is the last 16 bytes
  pub any-input : (o b b' : List ℕ) → length b ≡ length b' → seen (report s (opening o b)) ≡ seen (report s (opening o b'))
  unfolding shape
  any-input o b b' e = (priced s (opening o b)).0 ∙ ap (λ (n : ℕ). cost_of (view s) (opening (length o) n)) e ∙ sym (priced s (opening o b')).0

  pub any-input-in-place : (b b' : List ℕ) → length b ≡ length b' → seen (report s (opening_in_place b)) ≡ seen (report s (opening_in_place b'))
  unfolding shape
  any-input-in-place b b' e = (priced s (opening_in_place b)).0 ∙ ap (λ (n : ℕ). cost_of (view s) (opening_in_place n)) e ∙ sym (priced s (opening_in_place b')).0

-- ---- any list of calls: each reports its share
pub reports-shares : (s : Session) (cs : List SessionCall) → reports s cs ≡ shares (view s) (shapes cs)
unfolding reports shares
reports-shares s [] = refl
reports-shares s (c ∷ cs) =
    ap₂ ◌∷◌ (spent-is s c) (reports-shares (report s c).session cs ∙ ap (λ (v : View). shares v (shapes cs)) (view-after s c))

-- so the total is the sum of the shares
pub total-shares : (s : Session) (cs : List SessionCall) → sum (reports s cs) ≡ sum (shares (view s) (shapes cs))
total-shares s cs = ap sum (reports-shares s cs)

-- two lists equal in what is public report equal counts, whatever keys and texts
pub equal-counts : (s s' : Session) (cs cs' : List SessionCall) → view s ≡ view s' → shapes cs ≡ shapes cs' → reports s cs ≡ reports s' cs'
equal-counts s s' cs cs' e f = reports-shares s cs ∙ ap₂ shares e f ∙ sym (reports-shares s' cs')

pub equal-totals : (s s' : Session) (cs cs' : List SessionCall) → view s ≡ view s' → shapes cs ≡ shapes cs' → sum (reports s cs) ≡ sum (reports s' cs')
equal-totals s s' cs cs' e f = ap sum (equal-counts s s' cs cs' e f)

-- ---- what the shares say of two lists, one in Hash and one of a keyed session under the specification's rule
pub hash-list : shares (view (session Crate Hash)) (absorbing 40 ∷ squeezing 32 ∷ absorbing_more 0 16 ∷ squeezing_more 17 ∷ encrypting 9 9 ∷ []) ≡ 2 ∷ 2 ∷ 0 ∷ 2 ∷ 0 ∷ []
unfolding shares cost_of unfinished_number keyed_number rate_number absorb_share squeeze_share more_share block_count
hash-list = refl

pub keyed-list : shares (new_cost Specification 16 true 16 false 0 false 0).view (
    encrypting 0 0
    ∷ sealing 66 true 50
    ∷ sealing 65 true 50
    ∷ beginning Seal
    ∷ feeding Seal 100 100 2
    ∷ absorbing 1
    ∷ feeding Seal 52 52 9
    ∷ finishing_seal
    ∷ beginning Open
    ∷ finishing_open 16
    ∷ ratcheting
    ∷ []
    ) ≡ 1 ∷ 4 ∷ 0 ∷ 0 ∷ 2 ∷ 0 ∷ 3 ∷ 1 ∷ 0 ∷ 2 ∷ 1 ∷ []
unfolding shares cost_of new_cost unfinished_number kind_number keyed_number key_number room_number message_share seal_share key_share absorb_share feed_share feed_taken place_after finish_share block_count
keyed-list = refl
