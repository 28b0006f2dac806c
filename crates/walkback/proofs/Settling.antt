-- What is handed back by a call that a check refused, or let through.
use mathlib.Core.Path.{◌≡◌, sym, ◌∙◌}
use mathlib.Core.List.{List}
use Prim.Native.Nat.{ℕ, zero, suc}
use Rattle.xoodyak.specs.declared.cyclist.Mode.{Mode}
use Rattle.xoodyak.specs.declared.cyclist.Phase.{Phase}
use Rattle.xoodyak.specs.declared.numbers.Refusal.{Refusal}
use Rattle.xoodyak.specs.declared.Rule.{Rule}
use Rattle.xoodyak.specs.Refusals.{number_of}
use Rattle.xoodyak.proofs.Settle.{number-pos}
use Rattle.walkback.specs.declared.Before.{Before}
use Rattle.walkback.specs.declared.steps.Undo.{Undo}
use Rattle.walkback.specs.Steps.{undone}
use Rattle.walkback.specs.Walk.{settled, Call, call_number, steps, back, before_of}

told : (m n : ℕ) (st b : List ℕ) → (m ≡ 0 → ⊥) → m ≡ n → settled n st b ≡ record { st = st; number = m }
told m zero st b h e = absurd (h e)
told m (suc n) st b h e = rw e

module _ (rule : Rule) (m : Mode) (p : Phase) (c : Call) (st : List ℕ) (a : Before) where
  pub before-taken : (u : Undo) → 0 ≡ call_number m c → u ≡ undone (steps rule m p c) (record { st = st; mode = m })
      → a ≡ record { st = u.st; number = 0 } → a ≡ before_of rule m p c st
  unfolding before_of back
  before-taken u n e h = h ∙ rw (← n, e)

  pub before-refused : (r : Refusal) → number_of r ≡ call_number m c → a ≡ record { st = st; number = number_of r } → a ≡ before_of rule m p c st
  unfolding before_of
  before-refused r e h = h ∙ sym (told (number_of r) (call_number m c) st (back rule m p c st) (number-pos r) e)
