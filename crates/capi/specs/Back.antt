-- The outcome of an exported step back on a session as the caller holds it.
use Rattle.std.specs.Prelude.{Bool, true, false, List, [], ◌∷◌, ℕ, zero, suc, get_or}
use Rattle.walkback.specs.declared.Before.{Before}
use Rattle.walkback.specs.Walk.{Call, before_of}
use Rattle.capi.specs.Capi.{mode_of, phase_of, rule_of}

-- what it answers and leaves in the caller's memory
pub record Back : Type 0 where
  pub number : ℕ
  pub st : List ℕ
  pub head : List ℕ

-- the head gets the phase before the call where the step is made
abbrev pub head_back : ℕ → List ℕ → ℕ → List ℕ
head_back zero head phase =
    get_or head 0 0 ∷ phase ∷ get_or head 2 0 ∷ get_or head 3 0 ∷ get_or head 4 0 ∷ get_or head 5 0 ∷ []
head_back (suc n) head phase = head

-- from soundness and the step's own outcome: 40, with nothing changed, where a number is not sound
abbrev pub answered_back : Bool → List ℕ → List ℕ → ℕ → Before → Back
answered_back true st head phase x = record { number = x.number; st = x.st; head = head_back x.number head phase }
answered_back false st head phase x = record { number = 40; st = st; head = head }

-- a step back over a call, from soundness, with mode and rule from the head, and the number of the phase before the call
unfoldable pub exported_back : Bool → List ℕ → List ℕ → ℕ → Call → Back
exported_back ok st head phase call =
    answered_back ok st head phase (before_of (rule_of (get_or head 2 0)) (mode_of (get_or head 0 0)) (phase_of phase) call st)
