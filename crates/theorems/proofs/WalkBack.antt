-- Walking back: for a fixed rule, mode, first phase and list of accepted calls, running forward and walking back are mutually inverse on 48 bytes.
use mathlib.Core.Path.{◌≡◌, refl, sym, ap, ◌∙◌}
use mathlib.Core.List.{List, [], ◌∷◌, ◌++◌}
use Prim.Native.Nat.{ℕ}
use Rattle.laws.specs.Lists.{Bytes48}
use Rattle.xoodyak.specs.declared.cyclist.Mode.{Mode}
use Rattle.xoodyak.specs.declared.cyclist.Phase.{Phase}
use Rattle.xoodyak.specs.declared.cyclist.Duplex.{Duplex}
use Rattle.xoodyak.specs.declared.Rule.{Rule}
use Rattle.walkback.specs.Steps.{run}
use Rattle.walkback.specs.Walk.{Call, call_number, forward, steps, back, phase_after, of_bytes, forward_all, phase_after_all, phases_along, back_all, accepted}
use Rattle.theorems.proofs.WalkSteps.{run-mode, run-st, run-keeps, undo-keeps, undo-run, run-undo, call-bytes, forward-runs, forward-phase}

-- a session in a mode and a phase, with its 48 bytes
abbrev pub session : Mode → Phase → List ℕ → Duplex
session m p st = record { st = st; mode = m; phase = p }

-- ---- one call
-- where it ends
forward-is : (rule : Rule) (m : Mode) (p : Phase) (c : Call) (st : List ℕ) → forward rule c (session m p st) ≡ session m (phase_after rule p c) (run m (steps rule m p c) st)
forward-is rule m p c st =
    let d = session m p st in
    let r = forward-runs rule c d in
    let em : (forward rule c d).mode ≡ m = ap (λ e. e.mode) r ∙ run-mode (steps rule m p c) d in
    let es : (forward rule c d).st ≡ run m (steps rule m p c) st = ap (λ e. e.st) r ∙ run-st (steps rule m p c) d in
    λ i. record { st = es i; mode = em i; phase = forward-phase rule c d i }

module _ (rule : Rule) (m : Mode) (p : Phase) (c : Call) (n : call_number m c ≡ 0) (b : of_bytes c) {st : List ℕ} (h : Bytes48 st) where
  forward-bytes : Bytes48 (run m (steps rule m p c) st)
  forward-bytes = run-keeps m (steps rule m p c) (call-bytes rule m p c n b) h

  -- the 48 bytes before a call are 48 bytes
  pub back-bytes : Bytes48 (back rule m p c st)
  unfolding back
  back-bytes = undo-keeps m (steps rule m p c) (call-bytes rule m p c n b) h

  -- forward and then back
  pub call-back-forward : back rule m p c (forward rule c (session m p st)).st ≡ st
  unfolding back
  call-back-forward = ap (λ d. back rule m p c d.st) (forward-is rule m p c st) ∙ undo-run m (steps rule m p c) (call-bytes rule m p c n b) h

  -- back and then forward
  pub call-forward-back : forward rule c (session m p (back rule m p c st)) ≡ session m (phase_after rule p c) st
  unfolding back
  call-forward-back =
      forward-is rule m p c (back rule m p c st) ∙ ap (session m (phase_after rule p c)) (run-undo m (steps rule m p c) (call-bytes rule m p c n b) h)

-- ---- lists of calls
pub back-forward : (rule : Rule) (m : Mode) (p : Phase) (cs : List Call) {st : List ℕ} → accepted m cs → Bytes48 st
    → back_all rule m p cs (forward_all rule cs (session m p st)).st ≡ st
unfolding forward_all back_all
back-forward rule m p [] a h = refl
back-forward rule m p (c ∷ cs) {st} a h =
    ap (λ d. back rule m p c (back_all rule m (phase_after rule p c) cs (forward_all rule cs d).st)) (forward-is rule m p c st)
    ∙ ap (back rule m p c) (back-forward rule m (phase_after rule p c) cs a.2 (forward-bytes rule m p c a.0 a.1 h))
    ∙ ap (λ d. back rule m p c d.st) (sym (forward-is rule m p c st))
    ∙ call-back-forward rule m p c a.0 a.1 h

pub all-back-bytes : (rule : Rule) (m : Mode) (p : Phase) (cs : List Call) {e : List ℕ} → accepted m cs → Bytes48 e → Bytes48 (back_all rule m p cs e)
unfolding back_all
all-back-bytes rule m p [] a h = h
all-back-bytes rule m p (c ∷ cs) a h = back-bytes rule m p c a.0 a.1 (all-back-bytes rule m (phase_after rule p c) cs a.2 h)

pub forward-back : (rule : Rule) (m : Mode) (p : Phase) (cs : List Call) {e : List ℕ} → accepted m cs → Bytes48 e
    → forward_all rule cs (session m p (back_all rule m p cs e)) ≡ session m (phase_after_all rule p cs) e
unfolding forward_all back_all phase_after_all
forward-back rule m p [] a h = refl
forward-back rule m p (c ∷ cs) a h =
    ap (forward_all rule cs) (call-forward-back rule m p c a.0 a.1 (all-back-bytes rule m (phase_after rule p c) cs a.2 h))
    ∙ forward-back rule m (phase_after rule p c) cs a.2 h

-- ---- from any 48 final bytes there is exactly one start that leads there
pub record OneStart (rule : Rule) (m : Mode) (p : Phase) (cs : List Call) (e : List ℕ) : Type 0 where
  pub start : List ℕ
  pub bytes : Bytes48 start
  pub leads : (forward_all rule cs (session m p start)).st ≡ e
  pub only : (st : List ℕ) → Bytes48 st → (forward_all rule cs (session m p st)).st ≡ e → st ≡ start

-- ratchet is no call of such a list: it sends many sessions to one (Ratchet.antt, `ratchet-merges`), so that no such theorem holds of it
pub one-start : (rule : Rule) (m : Mode) (p : Phase) (cs : List Call) (e : List ℕ) → accepted m cs → Bytes48 e → OneStart rule m p cs e
one-start rule m p cs e a h =
    record {
      start = back_all rule m p cs e;
      bytes = all-back-bytes rule m p cs a h;
      leads = ap (λ d. d.st) (forward-back rule m p cs a h);
      only = λ st k q. sym (back-forward rule m p cs a k) ∙ ap (back_all rule m p cs) q;
    }

-- ---- walking call by call
-- the phase after a list of calls is the phase of the session that ran them
pub phase-along : (rule : Rule) (m : Mode) (p : Phase) (cs : List Call) (st : List ℕ) → (forward_all rule cs (session m p st)).phase ≡ phase_after_all rule p cs
unfolding forward_all phase_after_all
phase-along rule m p [] st = refl
phase-along rule m p (c ∷ cs) st =
    ap (λ d. (forward_all rule cs d).phase) (forward-is rule m p c st) ∙ phase-along rule m (phase_after rule p c) cs (run m (steps rule m p c) st)

-- the last call is undone first, from the phase that the calls before it leave
pub last-first : (rule : Rule) (m : Mode) (p : Phase) (cs : List Call) (c : Call) (e : List ℕ)
    → back_all rule m p (cs ++ (c ∷ [])) e ≡ back_all rule m p cs (back rule m (phase_after_all rule p cs) c e)
unfolding back_all phase_after_all
last-first rule m p [] c e = refl
last-first rule m p (d ∷ cs) c e = ap (back rule m p d) (last-first rule m (phase_after rule p d) cs c e)

pub phases-last : (rule : Rule) (p : Phase) (cs : List Call) (c : Call) → phases_along rule p (cs ++ (c ∷ [])) ≡ phases_along rule p cs ++ (phase_after_all rule p cs ∷ [])
unfolding phases_along phase_after_all
phases-last rule p [] c = refl
phases-last rule p (d ∷ cs) c = ap (λ ps. p ∷ ps) (phases-last rule (phase_after rule p d) cs c)
